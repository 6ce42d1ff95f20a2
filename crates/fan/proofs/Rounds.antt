-- Rounding to the nearest, ties upward: `nearest_exactly`. Duty is what it rounds to: `duty_exactly`.
-- Assumes nothing.
use mathlib.Core.Path.{◌≡◌, refl, sym, ◌∙◌}
use mathlib.Core.Logic.{◌↔◌}
use Prim.Native.Nat.{ℕ, zero, suc, ◌+◌, ◌*◌, ◌/◌, ◌%◌, ◌<◌, ◌≤◌, max}
use native.Mathlib.Omega.{arith}
use native.Mathlib.Nat.{div-add-mod', mod-lt, lt_of_mul-lt-mul_right, mul-div-mul_left}
use lib.Dec.{leb}
use borrow.Author.Tests.{ne_eqb, leb-true, leb-false, le-leb, lt-leb}
use Rattle.laws.proofs.Choices.{by_test}
use Rattle.laws.proofs.Exactly.{by_lines}
use Rattle.fan.specs.Drive.{counted_of, Nearest, nearest_of, Duty, duty_of}

-- ---- the nearest

-- p is d times twice b, m what is left over
within_half : (a b d p m : ℕ) → p ≡ d * (2 * b) → p + m ≡ 2 * a + b → m < 2 * b → Nearest a b d
within_half a b d p m e s h =
    let twice : 2 * (d * b) ≡ p = rw e (omega arith) in
    record { over = omega arith; under = omega arith; upward = λ t. absurd (omega (arith, t)) }

pub is_nearest : (a b : ℕ) → 0 < b → Nearest a b (nearest_of a b)
is_nearest a b h =
    within_half a b (nearest_of a b) _ ((2 * a + b) % (2 * b)) refl (div-add-mod' (2 * a + b) (2 * b)) (mod-lt (2 * a + b) (omega arith))

-- a product with p, one with q: the numbers as variables
below : (a c b p q : ℕ) → a ≤ c → 2 * p ≤ 2 * a + b → 2 * c ≤ 2 * q + b → (2 * c ≡ 2 * q + b → ⊥) → p < q + b
below a c b p q l h k u = by_test (leb (q + b) p) (λ t. absurd (u (omega (arith, leb-true (q + b) p t)))) (λ t. leb-false (q + b) p t)

-- of a number that is no less the nearest is no less
pub in_order : (a c b d e : ℕ) → a ≤ c → Nearest a b d → Nearest c b e → d ≤ e
in_order a c b d e l x y =
    let h : d < suc e = lt_of_mul-lt-mul_right b (omega (arith, below a c b (d * b) (e * b) l x.over y.under y.upward, times b e)) in
    omega (arith, h)
  where
    times : (b e : ℕ) → suc e * b ≡ e * b + b
    times b e = omega arith

pub one_nearest : (a b d e : ℕ) → Nearest a b d → Nearest a b e → d ≡ e
one_nearest a b d e x y = omega (arith, in_order a a b d e (omega arith) x y, in_order a a b e d (omega arith) y x)

pub nearest_exactly : (a b : ℕ) → 0 < b → (d : ℕ) → (nearest_of a b ≡ d) ↔ Nearest a b d
nearest_exactly a b h =
    by_lines (Nearest a b) (nearest_of a b) (is_nearest a b h) (λ d. one_nearest a b (nearest_of a b) d (is_nearest a b h))

-- of an even number it takes no doubling
pub halved : (a n : ℕ) → nearest_of a (2 * n) ≡ (a + n) / (2 * n)
halved a n = let e : 2 * a + 2 * n ≡ 2 * (a + n) = omega arith in rw e (mul-div-mul_left (a + n) (2 * n) (omega arith))

-- ---- duty

pub counts : (n : ℕ) → 0 < counted_of n
counts zero = omega arith
counts (suc n) = rw (ne_eqb (suc n) 0 (λ e. omega arith)) (omega arith)

pub is_duty : (n value : ℕ) → Duty n value (duty_of n value)
unfolding duty_of
is_duty n value =
    record {
      part = λ h. rw (lt-leb (2 * counted_of n) value h) (is_nearest (10000 * value) (2 * counted_of n) (omega (arith, counts n)));
      all = λ h. rw (le-leb (2 * counted_of n) value h);
    }

-- two duties of one value are one
pub one_duty : (n value d e : ℕ) → Duty n value d → Duty n value e → d ≡ e
one_duty n value d e x y =
    by_test (leb (2 * counted_of n) value)
    (λ t. let h = leb-true (2 * counted_of n) value t in x.all h ∙ sym (y.all h))
    (λ t.
    let h = leb-false (2 * counted_of n) value t in
    one_nearest (10000 * value) (2 * counted_of n) d e (x.part h) (y.part h))

pub duty_exactly : (n value d : ℕ) → (duty_of n value ≡ d) ↔ Duty n value d
duty_exactly n value =
    by_lines (Duty n value) (duty_of n value) (is_duty n value) (λ d. one_duty n value (duty_of n value) d (is_duty n value))

-- ---- frequency 0 counts as 1

pub counted_max : (n : ℕ) → max n 1 ≡ counted_of n
counted_max zero = refl
counted_max (suc n) = rw (ne_eqb (suc n) 0 (λ e. omega arith)) (omega arith)
