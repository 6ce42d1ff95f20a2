-- The library's version, as include/lm89.h has it.
-- Assumes nothing.
use Rattle.std.specs.Prelude.{ℕ, ◌+◌, ◌*◌}

-- LM89_VERSION_MAJOR: another one where a struct or an answer is another
abbrev pub major : ℕ
major = 4

-- LM89_VERSION_MINOR: another one for every other change
abbrev pub minor : ℕ
minor = 4

abbrev pub version_of : ℕ
version_of = major * 65536 + minor
