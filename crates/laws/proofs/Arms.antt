-- What the last arm of a `match` on a number knows: the number is no key of the arms before it.
-- Assumes nothing.
use mathlib.Core.Path.{◌≡◌, refl, sym, subst}
use mathlib.Core.Bool.{Bool, false, ◌||◌}
use mathlib.Core.List.{List, [], ◌∷◌}
use Prim.Native.Nat.{ℕ}
use lib.Dec.{T}
use mir.Val.{has_key}
use types.Run.{OneOf, hit}
use Rattle.laws.proofs.Choices.{by_test}

-- x is a key of one of the arms
abbrev pub keyed : List (List ℕ) → ℕ → Bool
keyed [] x = false
keyed (keys ∷ arms) x = has_key keys x || keyed arms x

-- as the last arm has it, of the arms from the last to the first
abbrev pub Missed : List (List ℕ) → ℕ → Type 0
Missed [] x = Unit {0}
Missed (keys ∷ arms) x = Missed arms x × (OneOf keys x → ⊥)

pub missed : (arms : List (List ℕ)) (x : ℕ) → Missed arms x → keyed arms x ≡ false
missed [] x m = refl
missed (keys ∷ arms) x m =
    by_test (has_key keys x) (λ t. absurd (m.1 (hit keys x (subst T (sym t) tt)))) (λ t. rw t (missed arms x m.0))
