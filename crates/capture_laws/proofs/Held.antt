-- The codes that a state can hold, 0 to 5 and 9, one by one: `by_code`. So `not_seven`: a call gives 7, and no state holds it.
-- Assumes nothing.
use Prim.Native.Nat.{ℕ, zero, suc, ◌≤◌}
use mathlib.Core.Path.{◌≡◌, sym, subst}
use mathlib.Core.Bool.{true}
use native.Mathlib.Omega.{arith}
use lib.Dec.{leb}
use borrow.Author.Tests.{leb-true, eqb-true}
use Rattle.laws.proofs.Choices.{by_test}
use Rattle.capture.specs.Reader.{held_test}

module _ (P : ℕ → Type 0) (none : P 0) (one : P 1) (two : P 2) (three : P 3) (four : P 4) (five : P 5) (nine : P 9) where
  up_to_five : (code : ℕ) → code ≤ 5 → P code
  up_to_five zero h = none
  up_to_five (suc zero) h = one
  up_to_five (suc (suc zero)) h = two
  up_to_five (suc (suc (suc zero))) h = three
  up_to_five (suc (suc (suc (suc zero)))) h = four
  up_to_five (suc (suc (suc (suc (suc zero))))) h = five
  up_to_five (suc (suc (suc (suc (suc (suc n)))))) h = absurd (omega arith)

  pub by_code : (code : ℕ) → held_test code ≡ true → P code
  by_code code h =
      by_test (leb code 5) (λ l. up_to_five code (leb-true code 5 l)) (λ l. subst P (sym (eqb-true code 9 (rw l at h))) nine)

pub not_seven : (code : ℕ) → held_test code ≡ true → code ≡ 7 → ⊥
not_seven =
    by_code (λ (code : ℕ). code ≡ 7 → ⊥) (λ e. omega arith) (λ e. omega arith) (λ e. omega arith) (λ e. omega arith) (λ e. omega arith)
    (λ e. omega arith) (λ e. omega arith)
