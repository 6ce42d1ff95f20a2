-- What is accepted is answered in the request's words, `drives_exactly`. Handed back with the same reading an answer comes again, `same_answer`; a hotter
-- reading never answers a lower step, `hotter_answer`; without hysteresis the earlier step does not matter, `no_hysteresis_answer`; the duty is that of the
-- PWM value by itself, `duty_answer`.
-- Assumes nothing.
use mathlib.Core.Path.{◌≡◌, refl, sym, ap, subst, ◌∙◌}
use mathlib.Core.Logic.{◌↔◌}
use Prim.Native.Nat.{ℕ, ◌≤◌}
use native.Mathlib.Omega.{arith}
use lib.Dec.{ltb, eqb}
use lib.IntN.{ℤ}
use lib.Signed.{◌≤ℤ◌}
use borrow.Author.Tests.{eqb-true, eqb-false, ltb-true, ltb-false, le-ltb}
use Rattle.laws.proofs.Choices.{by_test}
use Rattle.laws.proofs.Exactly.{by_lines}
use Rattle.fan.specs.declared.Fan.{Fan}
use Rattle.fan.specs.declared.Driven.{Driven}
use Rattle.fan.specs.Table.{table_of, value_of, entry_stands, step_of}
use Rattle.fan.specs.Drive.{Duty}
use Rattle.fan.specs.Fan.{code_of, refuses_of, drives_of, step_answer_of, number_of, duty_answer_of}
use Rattle.fan.proofs.Entries.{one_highest, step_within}
use Rattle.fan.proofs.Rounds.{is_duty, one_duty}
use Rattle.fan.proofs.Answers.{given, answered, refuses}
use Rattle.fan_laws.specs.Ranges.{NeverFalls, InRange, Gives}
use Rattle.fan_laws.specs.Ranges.Gives.{good}
use Rattle.fan_laws.specs.Answers.{Drives}
use Rattle.fan_laws.proofs.Steps as steps
use Rattle.fan_laws.proofs.Codes.{code_given, codes}

-- an answer is its four numbers
abbrev make : ℕ → ℕ → ℕ → ℕ → Driven
make code step value duty = record { code = code; step = step; value = value; duty = duty }

module _ (f : Fan) (e : ℕ) (r : ℤ) where
  -- two answers in the request's words are one
  pub one_drive : (c d : Driven) → Drives f e r c → Drives f e r d → c ≡ d
  one_drive c d x y =
      let code : c.code ≡ d.code = x.code ∙ sym y.code in
      let step : c.step ≡ d.step = one_highest (entry_stands (table_of f.table) f.hysteresis e r) 8 c.step d.step x.step y.step in
      let value : c.value ≡ d.value = x.value ∙ ap (value_of (table_of f.table)) step ∙ sym y.value in
      let duty : c.duty ≡ d.duty =
      one_duty f.frequency c.value c.duty d.duty x.duty (subst (λ (v : ℕ). Duty f.frequency v d.duty) (sym value) y.duty) in
      let all : make c.code c.step c.value c.duty ≡ make d.code d.step d.value d.duty = cc in
      all

  drives : given f e ≡ 0 → Drives f e r (step_answer_of f e r)
  drives h =
      rw (answered f e r h)
      (record {
        code = refl;
        step = (steps.step_exactly (table_of f.table) f.hysteresis e r _).0 refl;
        value = refl;
        duty = is_duty f.frequency _;
      })

  pub drives_exactly : (step_answer_of f e r).code ≡ 0 → (d : Driven) → (step_answer_of f e r ≡ d) ↔ Drives f e r d
  drives_exactly h =
      let known = drives (sym (code_given f e r) ∙ h) in
      by_lines (Drives f e r) (step_answer_of f e r) known (λ d. one_drive (step_answer_of f e r) d known)

  -- ---- what is accepted

  accepted : Gives f e 0 → NeverFalls (table_of f.table) × InRange f e
  accepted (good rising range) = (rising, range)

  pub in_ranges : (step_answer_of f e r).code ≡ 0 → NeverFalls (table_of f.table) × InRange f e
  in_ranges h = accepted ((codes f e r 0).0 h)

module _ (f : Fan) where
  -- from any earlier step in its range a fan gets the same code
  same_code : (d e : ℕ) → d ≤ 8 → e ≤ 8 → given f d ≡ given f e
  unfolding code_of
  same_code d e l m = rw (le-ltb 8 d l, le-ltb 8 e m)

  -- the same step from two earlier steps in their range is the same answer
  same_step : (d e : ℕ) (r : ℤ) → d ≤ 8 → e ≤ 8
      → step_of (table_of f.table) f.hysteresis d r ≡ step_of (table_of f.table) f.hysteresis e r
      → step_answer_of f d r ≡ step_answer_of f e r
  same_step d e r l m s =
      let same = same_code d e l m in
      by_test (eqb (given f e) 0)
      (λ t.
      let h = eqb-true (given f e) 0 t in
      answered f d r (same ∙ h) ∙ ap (drives_of (table_of f.table) f.frequency) s ∙ sym (answered f e r h))
      (λ t.
      let h = eqb-false (given f e) 0 t in
      refuses f d r (λ z. h (sym same ∙ z)) ∙ ap refuses_of same ∙ sym (refuses f e r h))

  step_answered : (e : ℕ) (r : ℤ) → given f e ≡ 0 → (step_answer_of f e r).step ≡ step_of (table_of f.table) f.hysteresis e r
  step_answered e r h = ap (λ (d : Driven). d.step) (answered f e r h)

  step_refused : (e : ℕ) (r : ℤ) → (given f e ≡ 0 → ⊥) → (step_answer_of f e r).step ≡ 0
  step_refused e r h = ap (λ (d : Driven). d.step) (refuses f e r h)

  -- the step never changes when the same reading comes twice, nor does anything else of the answer
  pub same_answer : (e : ℕ) (r : ℤ) → (step_answer_of f e r).code ≡ 0 → step_answer_of f (step_answer_of f e r).step r ≡ step_answer_of f e r
  same_answer e r h =
      let table = table_of f.table in
      let step = step_answered e r (sym (code_given f e r) ∙ h) in
      ap (λ (k : ℕ). step_answer_of f k r) step
      ∙ same_step (step_of table f.hysteresis e r) e r (step_within table f.hysteresis e r) (in_ranges f e r h).1.earlier_step
      (steps.same_reading table f.hysteresis e r)

  -- a hotter reading never gives a lower step from the same earlier step
  pub hotter_answer : (e : ℕ) (r s : ℤ) → r ≤ℤ s → (step_answer_of f e r).step ≤ (step_answer_of f e s).step
  hotter_answer e r s l =
      by_test (eqb (given f e) 0)
      (λ t.
      let h = eqb-true (given f e) 0 t in
      rw (step_answered e r h, step_answered e s h) (steps.hotter (table_of f.table) f.hysteresis e r s l))
      (λ t.
      let h = eqb-false (given f e) 0 t in
      rw (step_refused e r h, step_refused e s h) (omega arith))

  -- without hysteresis the earlier step does not matter
  pub no_hysteresis_answer : f.hysteresis ≡ 0 → (d e : ℕ) (r : ℤ) → d ≤ 8 → e ≤ 8 → step_answer_of f d r ≡ step_answer_of f e r
  no_hysteresis_answer z d e r l m = same_step d e r l m (rw z (steps.no_hysteresis (table_of f.table) d e r))

  value_within : (e : ℕ) → InRange f e → (s : ℕ) → s ≤ 8 → value_of (table_of f.table) s ≤ 63
  value_within e range s l =
      by_test (ltb 0 s)
      (λ t. range.values s (ltb-true 0 s t) l)
      (λ t. let none : s ≡ 0 = omega (arith, ltb-false 0 s t) in rw none (omega arith))

  -- the duty of an answer is the one that its PWM value gets by itself at that frequency
  pub duty_answer : (e : ℕ) (r : ℤ) → (step_answer_of f e r).code ≡ 0
      → duty_answer_of f.frequency (step_answer_of f e r).value ≡ number_of (step_answer_of f e r).duty
  unfolding duty_answer_of
  duty_answer e r h =
      let table = table_of f.table in
      let range = (in_ranges f e r h).1 in
      let value = value_within e range (step_of table f.hysteresis e r) (step_within table f.hysteresis e r) in
      rw (answered f e r (sym (code_given f e r) ∙ h), le-ltb 31 f.frequency range.frequency, le-ltb 63 _ value)
