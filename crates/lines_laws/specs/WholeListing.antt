-- Listing in full: the listing of a capture, as bytes.
-- Assumes nothing.
use Rattle.std.specs.Prelude.{ℕ, List, ◌++◌}
use Rattle.capture.specs.Whole.{whole_of}
use Rattle.lines.specs.Lines.{lines_of, end_line_of}

-- of answers, records done and finishing code
abbrev pub listing_of : List ℕ → ℕ → ℕ → List ℕ
listing_of answers done finishing = lines_of 1 answers ++ end_line_of done finishing

-- of a capture
abbrev pub capture_listing_of : List ℕ → List ℕ
capture_listing_of capture = listing_of (whole_of capture).answers (whole_of capture).reader.done (whole_of capture).finishing
