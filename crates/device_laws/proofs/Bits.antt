-- `has_or`: a bit of a mask is set in two bytes joined exactly if it is set in one of them. `bit_of`: and in a byte of one bit or none.
-- Assumes nothing.
use mathlib.Core.Path.{◌≡◌, refl, ap, sym, ◌∙◌}
use mathlib.Core.Bool.{Bool, true, false, not, ◌||◌, ◌&&◌}
use Prim.Native.Nat.{ℕ, ◌+◌, ◌*◌, ◌/◌, ◌%◌, min, max}
use native.Mathlib.Omega.{arith}
use lib.Dec.{eqb}
use lib.Arith.{bin_ind}
use lib.Bits.{bit_and, bit_or, and_step, or_step, or_add_and, and_le_r, or_zero_l}
use borrow.Author.Tests.{eqb-true, eqb-false, ne_eqb}
use Rattle.laws.proofs.Choices.{by_test}
use Rattle.registers.specs.Bits.{has}
use Rattle.conversion.specs.Conversion.{bit_of}

and_or_step : (n : ℕ) → ((x m : ℕ) → bit_and (bit_or (n / 2) x) m ≡ bit_or (bit_and (n / 2) m) (bit_and x m))
    → (x m : ℕ) → bit_and (bit_or n x) m ≡ bit_or (bit_and n m) (bit_and x m)
and_or_step n ih x m =
    let o = or_step n x in
    let a = and_step n m in
    let b = and_step x m in
    let o_half : bit_or n x / 2 ≡ bit_or (n / 2) (x / 2) = omega arith in
    let o_odd : bit_or n x % 2 ≡ max (n % 2) (x % 2) = omega arith in
    let a_half : bit_and n m / 2 ≡ bit_and (n / 2) (m / 2) = omega arith in
    let a_odd : bit_and n m % 2 ≡ min (n % 2) (m % 2) = omega arith in
    let b_half : bit_and x m / 2 ≡ bit_and (x / 2) (m / 2) = omega arith in
    let b_odd : bit_and x m % 2 ≡ min (x % 2) (m % 2) = omega arith in
    let left : bit_and (bit_or n x) m ≡ bit_and (bit_or (n / 2) (x / 2)) (m / 2) * 2 + min (max (n % 2) (x % 2)) (m % 2) =
    and_step (bit_or n x) m ∙ rw (o_half, o_odd) in
    let right : bit_or (bit_and n m) (bit_and x m)
    ≡ bit_or (bit_and (n / 2) (m / 2)) (bit_and (x / 2) (m / 2)) * 2 + max (min (n % 2) (m % 2)) (min (x % 2) (m % 2)) =
    or_step (bit_and n m) (bit_and x m) ∙ rw (a_half, a_odd, b_half, b_odd) in
    let digit : min (max (n % 2) (x % 2)) (m % 2) ≡ max (min (n % 2) (m % 2)) (min (x % 2) (m % 2)) = omega arith in
    left ∙ rw (ih (x / 2) (m / 2), digit) (sym right)

and_or : (n x m : ℕ) → bit_and (bit_or n x) m ≡ bit_or (bit_and n m) (bit_and x m)
and_or =
    bin_ind (λ (n : ℕ). (x m : ℕ) → bit_and (bit_or n x) m ≡ bit_or (bit_and n m) (bit_and x m))
    (λ x m. rw (or_zero_l x, or_zero_l (bit_and x m))) (λ n ih. and_or_step n ih)

-- joined numbers are 0 only if both are
set_or : (p q : ℕ) → not (eqb (bit_or p q) 0) ≡ (not (eqb p 0) || not (eqb q 0))
set_or p q = by_test (eqb p 0) none some
  where
    none : eqb p 0 ≡ true → not (eqb (bit_or p q) 0) ≡ (not (eqb p 0) || not (eqb q 0))
    none e = rw (eqb-true p 0 e, or_zero_l q)

    some : eqb p 0 ≡ false → not (eqb (bit_or p q) 0) ≡ (not (eqb p 0) || not (eqb q 0))
    some e =
        let joined = or_add_and p q in
        let below = and_le_r p q in
        let least : bit_or p q ≡ 0 → p ≡ 0 = λ (z : bit_or p q ≡ 0). omega arith in
        rw (e, ne_eqb (bit_or p q) 0 (λ (z : bit_or p q ≡ 0). eqb-false p 0 e (least z)))

pub has_or : (x y mask : ℕ) → has (bit_or x y) mask ≡ (has x mask || has y mask)
has_or x y mask = ap (λ (n : ℕ). not (eqb n 0)) (and_or x y mask) ∙ set_or (bit_and x mask) (bit_and y mask)

-- ---- one bit or none

pub bit_of_lem : (on : Bool) (bit mask : ℕ) → has (bit_of on bit) mask ≡ (on && has bit mask)
bit_of_lem true bit mask = refl
bit_of_lem false bit mask = refl
