-- Trailing zeros name the lowest set bit, `lowest_bit`; of the mask of two devices the one of lower address, `two`.
-- Assumes nothing.
use mathlib.Core.Path.{◌≡◌, refl, ◌∙◌}
use mathlib.Core.Bool.{Bool, true, false, cond, not, ◌&&◌, ◌||◌}
use Prim.Native.Nat.{ℕ, zero, suc, ◌*◌, ◌/◌, ◌%◌, ◌^◌, ◌<◌}
use native.Mathlib.Omega.{arith}
use native.Mathlib.Nat.{pow-succ', div-div-eq-div-mul, div-one, le_of_suc-le-suc, pow-suc}
use lib.Count.{count_trailing_zeros, under}
use Rattle.pair.specs.declared.Named.{Named}
use Rattle.pair.specs.declared.Named.TheVariants.{Neither, First, Second}
use Rattle.pair.specs.Mask.{bit, Lowest, mask_of, at_bit}

-- one bit up is one halving
up : (n i : ℕ) → bit n (suc i) ≡ bit (n / 2) i
up n i = rw (pow-succ' 2 i, ← div-div-eq-div-mul n 2 (2 ^ i))

at_zero : (n : ℕ) → bit n 0 ≡ n % 2
at_zero n = rw (div-one n)

pub clear : (k n i : ℕ) → i < count_trailing_zeros k n → bit n i ≡ 0
unfolding count_trailing_zeros
clear zero n i h = absurd (omega arith)
clear (suc k) n i h = go (n % 2) refl i h (clear k (n / 2))
  where
    go : (r : ℕ) → n % 2 ≡ r → (i : ℕ) → i < under r (count_trailing_zeros k (n / 2))
        → ((j : ℕ) → j < count_trailing_zeros k (n / 2) → bit (n / 2) j ≡ 0) → bit n i ≡ 0
    go zero e zero h ih = at_zero n ∙ e
    go zero e (suc j) h ih = up n j ∙ ih j (le_of_suc-le-suc h)
    go (suc r) e i h ih = absurd (omega arith)

pub set : (k n : ℕ) → 0 < n → n < 2 ^ k → bit n (count_trailing_zeros k n) ≡ 1
unfolding count_trailing_zeros
set zero n h l = absurd (omega arith)
set (suc k) n h l = go (n % 2) refl (λ (e : n % 2 ≡ 0). set k (n / 2) (omega arith) (halved n (2 ^ k) (rw pow-suc at l)))
  where
    halved : (n p : ℕ) → n < p * 2 → n / 2 < p
    halved n p h = omega arith

    go : (r : ℕ) → n % 2 ≡ r → (n % 2 ≡ 0 → bit (n / 2) (count_trailing_zeros k (n / 2)) ≡ 1) → bit n (under r (count_trailing_zeros k (n / 2))) ≡ 1
    go zero e ih = up n _ ∙ ih e
    go (suc r) e ih = at_zero n ∙ omega arith

pub lowest_bit : (k n : ℕ) → 0 < n → n < 2 ^ k → Lowest n (count_trailing_zeros k n)
lowest_bit k n h l = record { set = set k n h l; clear = clear k n }

-- the mask of two: low at bit 0, high at bit 1
pub two : (p q : Bool) (low high : Named) → at_bit (count_trailing_zeros 8 (mask_of p q)) low high ≡ cond p low (cond q high Neither)
unfolding count_trailing_zeros
two true true low high = refl
two true false low high = refl
two false true low high = refl
two false false low high = refl

-- the first device is of lower address, or the second is
pub first_low : (p q : Bool) → at_bit (count_trailing_zeros 8 (mask_of p q)) First Second ≡ cond (p && (not q || true)) First (cond q Second Neither)
first_low true true = two true true First Second
first_low true false = two true false First Second
first_low false true = two false true First Second
first_low false false = two false false First Second

pub second_low : (p q : Bool) → at_bit (count_trailing_zeros 8 (mask_of q p)) Second First ≡ cond (p && (not q || false)) First (cond q Second Neither)
second_low true true = two true true Second First
second_low true false = two false true Second First
second_low false true = two true false Second First
second_low false false = two false false Second First
