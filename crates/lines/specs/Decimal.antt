-- A number written in decimal: digits, highest first, that are read back as it, and no leading zero.
-- Assumes nothing.
use Rattle.std.specs.Prelude.{◌≡◌, ℕ, ◌+◌, ◌-◌, ◌*◌, ◌≤◌, List, [], ◌∷◌, slice_index_or}

-- digits 0 to 9 as bytes: 48 to 57
abbrev pub Digits : List ℕ → Type 0
Digits [] = Unit {0}
Digits (d ∷ digits) = (48 ≤ d) × (d ≤ 57) × Digits digits

-- the number that they are read as, behind a number read already
abbrev pub read_of : ℕ → List ℕ → ℕ
read_of n [] = n
read_of n (d ∷ digits) = read_of (n * 10 + (d - 48)) digits

pub record Decimal (n : ℕ) (digits : List ℕ) : Type 0 where
  pub each : Digits digits
  pub value : read_of 0 digits ≡ n
  -- a first digit 0 is the only one
  pub leading : slice_index_or digits 0 0 ≡ 48 → digits ≡ 48 ∷ []
