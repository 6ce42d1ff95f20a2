-- An answer is a refusal or what the step drives; of two answers that C gets alike, `one_driven` and `one_told`.
-- Assumes nothing.
use mathlib.Core.Path.{◌≡◌, refl, sym, ap, ◌∙◌}
use Prim.Native.Nat.{ℕ}
use lib.IntN.{ℤ}
use borrow.Author.Tests.{ne_eqb}
use native.Mathlib.Omega.{arith}
use Rattle.fan.specs.declared.Fan.{Fan}
use Rattle.fan.specs.declared.Refusal.{Refusal}
use Rattle.fan.specs.declared.Refusal.TheVariants.{Falling, Operand}
use Rattle.fan.specs.declared.Step.{Step}
use Rattle.std.specs.Prelude.{Result, Ok, Err}
use Rattle.fan.specs.Answers.{refusal_code, driven_of, from_driven, told_of, from_told}
use Rattle.fan.specs.Table.{table_of, step_of}
use Rattle.fan.specs.Fan.{code_of, refuses_of, drives_of, step_answer_of}

abbrev pub given : Fan → ℕ → ℕ
given f earlier = code_of (table_of f.table) f.hysteresis f.frequency earlier

-- a refusal's code is above 0
pub some_code : (r : Refusal) → refusal_code r ≡ 0 → ⊥
some_code Falling e = absurd (omega (arith, e))
some_code Operand e = absurd (omega (arith, e))

module _ (f : Fan) (earlier : ℕ) (reading : ℤ) where
  pub answered : given f earlier ≡ 0
      → step_answer_of f earlier reading ≡ drives_of (table_of f.table) f.frequency (step_of (table_of f.table) f.hysteresis earlier reading)
  unfolding step_answer_of
  answered h = rw h

  pub refuses : (given f earlier ≡ 0 → ⊥) → step_answer_of f earlier reading ≡ refuses_of (given f earlier)
  unfolding step_answer_of
  refuses h = rw (ne_eqb (given f earlier) 0 h)

-- ---- one answer: what C gets tells which it was

pub driven_back : (r : Result Step Refusal) → from_driven (driven_of r) ≡ r
driven_back (Ok s) = refl
driven_back (Err Falling) = refl
driven_back (Err Operand) = refl

pub told_back : (r : Result ℕ Refusal) → from_told (told_of r) ≡ r
told_back (Ok n) = refl
told_back (Err Falling) = refl
told_back (Err Operand) = refl

pub one_driven : (a b : Result Step Refusal) → driven_of a ≡ driven_of b → a ≡ b
one_driven a b e = sym (driven_back a) ∙ ap from_driven e ∙ driven_back b

pub one_told : (a b : Result ℕ Refusal) → told_of a ≡ told_of b → a ≡ b
one_told a b e = sym (told_back a) ∙ ap from_told e ∙ told_back b
