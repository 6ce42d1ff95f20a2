-- `one_soak`: two results of which C gets the same, and whose refused record is counted, are equal.
-- Assumes nothing.
use mathlib.Core.Path.{◌≡◌, refl, sym, ap, ◌∙◌}
use native.Mathlib.Omega.{arith}
use borrow.Author.Tests.{ne_eqb}
use Rattle.std.specs.Prelude.{Result, Ok, Err, IfErr}
use Rattle.record.specs.declared.refusal.Refusal.TheVariants.{Kind, Operand}
use Rattle.record.specs.Record.{code_of}
use Rattle.soak.specs.declared.Answer.{Answer}
use Rattle.soak.specs.declared.Refusal.{Refusal}
use Rattle.soak.specs.declared.Refusal.TheVariants.{OutOfRange, Standby, Uneven, Record}
use Rattle.soak.specs.declared.Soaked.{Soaked}
use Rattle.soak.specs.Answers.{soaked_of, from_soaked, Counted}

same : (r : Result Answer Refusal) → IfErr r Counted → from_soaked (soaked_of r) ≡ r
unfolding code_of
same (Ok answer) h = refl
same (Err OutOfRange) h = refl
same (Err Standby) h = refl
same (Err Uneven) h = refl
same (Err (Record Kind read)) h = refl
same (Err (Record Operand read)) h = rw (ne_eqb read 0 (omega (arith, h)))

pub from_this : (s : Soaked) (r : Result Answer Refusal) → soaked_of r ≡ s → IfErr r Counted → r ≡ from_soaked s
from_this s r p h = sym (same r h) ∙ ap from_soaked p

pub one_soak : (s : Soaked) (x y : Result Answer Refusal) → soaked_of x ≡ s → IfErr x Counted → soaked_of y ≡ s → IfErr y Counted → x ≡ y
one_soak s x y p h q k = from_this s x p h ∙ sym (from_this s y q k)
