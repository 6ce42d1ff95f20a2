-- One answer: where a promise is an equation, `r ≡ f arguments`, two results that meet it are equal.
-- Assumes nothing.
use mathlib.Core.Path.{◌≡◌, sym, ◌∙◌}

pub one_answer : {A : Type 0} {answer r s : A} → r ≡ answer → s ≡ answer → r ≡ s
one_answer p q = p ∙ sym q
