-- Request g: duty and preset. The frequency is n of the request.
-- Assumes nothing.
use Rattle.std.specs.Prelude.{ℕ, ◌+◌, ◌*◌, ◌/◌, ◌≤◌, ◌<◌, ◌≡◌, cond, leb, eqb}

-- frequency 0 counts as 1
abbrev pub counted_of : ℕ → ℕ
counted_of n = cond (eqb n 0) 1 n

-- ---- rounding

-- d is at most a half from the fraction a / b, ties upward: at most a half above it, at most a half below it, and not exactly a half below it
pub record Nearest (a b d : ℕ) : Type 0 where
  pub over : 2 * (d * b) ≤ 2 * a + b
  pub under : 2 * a ≤ 2 * (d * b) + b
  pub upward : 2 * a ≡ 2 * (d * b) + b → ⊥

-- the same to be computed, for b above 0 (proofs/Rounds.antt: nearest_exactly)
abbrev pub nearest_of : ℕ → ℕ → ℕ
nearest_of a b = (2 * a + b) / (2 * b)

-- ---- duty

-- in hundredths of a percent, 10000 for all of it: value over 2n, all of it when value is 2n or more
pub record Duty (n value d : ℕ) : Type 0 where
  pub part : value < 2 * counted_of n → Nearest (10000 * value) (2 * counted_of n) d
  pub all : 2 * counted_of n ≤ value → d ≡ 10000

-- the same to be computed (proofs/Rounds.antt: duty_exactly)
unfoldable pub duty_of : ℕ → ℕ → ℕ
duty_of n value = cond (leb (2 * counted_of n) value) 10000 (nearest_of (10000 * value) (2 * counted_of n))

-- ---- preset

-- about 75 percent: one and a half n, a half going up, but 1 at n = 1, as the page has it
unfoldable pub preset_of : ℕ → ℕ
preset_of n = cond (eqb (counted_of n) 1) 1 (nearest_of (3 * counted_of n) 2)
