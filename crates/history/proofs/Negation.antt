-- `not-false`, `not-true`: a test and its negation.
-- Assumes nothing.
use mathlib.Core.Path.{◌≡◌, refl, sym}
use mathlib.Core.Bool.{Bool, true, false, not}
use Rattle.laws.proofs.Choices.{clash}

pub not_false : (b : Bool) → not b ≡ false → b ≡ true
not_false true h = refl
not_false false h = clash (sym h)

pub not_true : (b : Bool) → not b ≡ true → b ≡ false
not_true true h = clash h
not_true false h = refl
