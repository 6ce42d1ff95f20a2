use mathlib.Core.Path.{◌≡◌, refl}
use mathlib.Core.Bool.{Bool, true, false, beq, ◌&&◌}
use mathlib.Core.List.{[], ◌∷◌}
use Rattle.soak.specs.Soak.{alike}
use Rattle.soak.specs.Ends.{decided_by}
use Rattle.soak.proofs.Ends.decided.Goals as goal

two : (x y : Bool) → alike (x ∷ y ∷ []) ≡ beq x y
two true true = refl
two true false = refl
two false true = refl
two false false = refl

six : (a b x y u v : Bool) → beq a b && (beq a x && beq b y) && (beq a u && beq b v) ≡ alike (a ∷ b ∷ x ∷ y ∷ u ∷ v ∷ [])
six true true true true true true = refl
six true true true true true false = refl
six true true true true false v = refl
six true true true false u v = refl
six true true false y u v = refl
six true false x y u v = refl
six false true x y u v = refl
six false false true y u v = refl
six false false false true u v = refl
six false false false false true v = refl
six false false false false false true = refl
six false false false false false false = refl

behind : (t a b x y u v : Bool) → t && beq a b && (beq a x && beq b y) && (beq a u && beq b v) ≡ t && alike (a ∷ b ∷ x ∷ y ∷ u ∷ v ∷ [])
behind true a b x y u v = six a b x y u v
behind false a b x y u v = refl

pub returns : goal.returns
unfolding decided_by
returns c = rw (c.eq.ensures, c.eq-2.ensures, two) (behind _ _ _ _ _ _ _)
