-- Request h: what `lm89_tach` answers. An answer is the struct of src/lib.rt.
-- Assumes nothing.
use Rattle.std.specs.Prelude.{ℕ, ◌+◌, min, max, Bool, false, cond, ◌||◌, List, [], ◌∷◌, length, nat_eq, nat_lt, Result, Ok, Err}
use Rattle.tach.specs.declared.Speeds.{Speeds}
use Rattle.tach.specs.declared.Report.{Report}
use Rattle.tach.specs.declared.Refusal.{Refusal}
use Rattle.tach.specs.declared.Refusal.TheVariants.{FewStamps, EqualStamps}
use Rattle.tach.specs.Stamps.{neighbours, ticks_a_minute, speeds_of}

-- ---- of a list of speeds; there is at least one wherever an answer tells them

-- the slowest; no speed is above that of one tick
unfoldable pub slowest_of : List ℕ → ℕ
slowest_of [] = ticks_a_minute
slowest_of (speed ∷ rest) = min speed (slowest_of rest)

-- the fastest
unfoldable pub fastest_of : List ℕ → ℕ
fastest_of [] = 0
fastest_of (speed ∷ rest) = max speed (fastest_of rest)

-- how many fell under the floor: a speed of the floor itself did not
unfoldable pub under_of : ℕ → List ℕ → ℕ
under_of floor [] = 0
under_of floor (speed ∷ rest) = cond (nat_lt speed floor) 1 0 + under_of floor rest

-- ---- what is refused of a list of stamps

unfoldable pub some_of : List Bool → Bool
some_of [] = false
some_of (test ∷ rest) = test || some_of rest

-- two equal neighbours
abbrev pub equal_of : List ℕ → Bool
equal_of stamps = some_of (neighbours nat_eq stamps)

-- ---- the answer

-- a refusal: every other number is 0
abbrev pub refuses_of : ℕ → Speeds
refuses_of code = record { code = code; slowest = 0; fastest = 0; under = 0 }

abbrev pub reports_of : List ℕ → ℕ → Speeds
reports_of speeds floor = record { code = 0; slowest = slowest_of speeds; fastest = fastest_of speeds; under = under_of floor speeds }

-- 12 for fewer than two stamps, then 13 for two equal neighbours
unfoldable pub tach_of : List ℕ → ℕ → Speeds
tach_of stamps floor =
    cond (nat_lt (length stamps) 2) (refuses_of 12)
    (cond (equal_of stamps) (refuses_of 13) (reports_of (speeds_of stamps) floor))

-- ---- the answer that a report or a refusal of src/ stands for

abbrev pub code_of : Refusal → ℕ
code_of FewStamps = 12
code_of EqualStamps = 13

abbrev pub told_of : Result Report Refusal → Speeds
told_of (Ok report) = record { code = 0; slowest = report.slowest; fastest = report.fastest; under = report.under }
told_of (Err refusal) = refuses_of (code_of refusal)

-- the report or the refusal of this answer
abbrev pub from_told : Speeds → Result Report Refusal
from_told s =
    cond (nat_eq s.code 0) (Ok (record { slowest = s.slowest; fastest = s.fastest; under = s.under }))
    (Err (cond (nat_eq s.code 12) FewStamps EqualStamps))
