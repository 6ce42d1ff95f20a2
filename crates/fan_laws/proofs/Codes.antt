-- Each code is given exactly when its line says so: `codes` of a step, `duty_codes` and `preset_codes`. A refusal has 0 in every other number: `refused`,
-- `duty_refused`, `preset_refused`. What is not refused is the duty or the preset: `duty_answered`, `preset_answered`.
-- Assumes nothing.
use mathlib.Core.Path.{◌≡◌, sym, ap, ◌∙◌}
use mathlib.Core.Logic.{◌↔◌}
use mathlib.Core.Bool.{Bool, true, false, ◌||◌, cond}
use mathlib.Core.List.{List}
use Prim.Native.Nat.{ℕ, ◌≤◌, ◌<◌}
use native.Mathlib.Omega.{arith}
use lib.Dec.{ltb, eqb}
use lib.IntN.{ℤ}
use borrow.Author.Tests.{eqb-true, eqb-false, ltb-true, ltb-false, lt-ltb, le-ltb}
use Rattle.laws.proofs.Choices.{clash, by_test}
use Rattle.laws.proofs.Exactly.{by_lines}
use Rattle.fan.specs.declared.Fan.{Fan}
use Rattle.fan.specs.declared.Driven.{Driven}
use Rattle.fan.specs.declared.Number.{Number}
use Rattle.fan.specs.Table.{table_of, temperature_of, value_of, falls_of, out_of}
use Rattle.fan.specs.Fan.{code_of, refuses_of, step_answer_of, no_number, number_of, duty_answer_of, preset_answer_of}
use Rattle.fan.specs.Drive.{duty_of, preset_of}
use Rattle.fan.proofs.Entries.{neither, found, none_found, is_found, not_found, falls_at, out_at}
use Rattle.fan.proofs.Answers.{given, answered, refuses}
use Rattle.fan_laws.specs.Ranges.{Falls, NeverFalls, InRange, Gives, DutyInRange, PresetInRange, NumberGives}
use Rattle.fan_laws.specs.Ranges.Gives.{falling, outside, good}
use Rattle.fan_laws.specs.Ranges.NumberGives.{none, some}

-- ---- a table that falls, and one that does not

module _ (table : List (List ℕ)) where
  falls : falls_of table ≡ true → Falls table
  unfolding falls_of
  falls e =
      let r = found (falls_at table) 7 e in
      record { entry = r.entry; first = r.first; last = omega (arith, r.last); lower = ltb-true _ _ r.so }

  fallen : Falls table → falls_of table ≡ true
  unfolding falls_of
  fallen r = is_found (falls_at table) 7 r.entry r.first (omega (arith, r.last)) (lt-ltb _ _ r.lower)

  never_falls : falls_of table ≡ false → NeverFalls table
  unfolding falls_of
  never_falls e = record { each = λ k p l. ltb-false _ _ (none_found (falls_at table) 7 e k p (omega arith)) }

  not_fallen : NeverFalls table → falls_of table ≡ false
  unfolding falls_of
  not_fallen r = not_found (falls_at table) 7 (λ k p l. le-ltb _ _ (r.each k p (omega arith)))

-- ---- the codes of a step

module _ (f : Fan) (earlier : ℕ) where
  abbrev table : List (List ℕ)
  table = table_of f.table

  abbrev any_out : Bool
  any_out = out_of table || ltb 31 f.hysteresis || ltb 31 f.frequency || ltb 8 earlier

  ranged : any_out ≡ false → InRange f earlier
  unfolding out_of
  ranged e =
      let a = neither (out_of table || ltb 31 f.hysteresis || ltb 31 f.frequency) (ltb 8 earlier) e in
      let b = neither (out_of table || ltb 31 f.hysteresis) (ltb 31 f.frequency) a.0 in
      let c = neither (out_of table) (ltb 31 f.hysteresis) b.0 in
      let entry : (k : ℕ) → 0 < k → k ≤ 8 → (ltb 127 (temperature_of table k) ≡ false) × (ltb 63 (value_of table k) ≡ false) =
      λ k p l. neither (ltb 127 (temperature_of table k)) (ltb 63 (value_of table k)) (none_found (out_at table) 8 c.0 k p l) in
      record {
        temperatures = λ k p l. ltb-false 127 (temperature_of table k) (entry k p l).0;
        values = λ k p l. ltb-false 63 (value_of table k) (entry k p l).1;
        hysteresis = ltb-false 31 f.hysteresis c.1;
        frequency = ltb-false 31 f.frequency b.1;
        earlier_step = ltb-false 8 earlier a.1;
      }

  none_out : InRange f earlier → any_out ≡ false
  unfolding out_of
  none_out r =
      let table_in : out_of table ≡ false = not_found (out_at table) 8 (λ k p l. rw (le-ltb 127 _ (r.temperatures k p l), le-ltb 63 _ (r.values k p l))) in
      rw (table_in, le-ltb 31 f.hysteresis r.hysteresis, le-ltb 31 f.frequency r.frequency, le-ltb 8 earlier r.earlier_step)

  by_code : Gives f earlier (given f earlier)
  unfolding code_of
  by_code =
      by_test (falls_of table)
      (λ t. rw t (falling (falls table t)))
      (λ t.
      by_test any_out
      (λ w. rw (t, w) (outside (never_falls table t) (λ i. clash (sym (none_out i) ∙ w))))
      (λ w. rw (t, w) (good (never_falls table t) (ranged w))))

  each_code : (code : ℕ) → Gives f earlier code → given f earlier ≡ code
  unfolding code_of
  each_code _ (falling r) = rw (fallen table r)
  each_code _ (outside r n) = by_test any_out (λ w. rw (not_fallen table r, w)) (λ w. absurd (n (ranged w)))
  each_code _ (good r i) = rw (not_fallen table r, none_out i)

  pub code_given : (reading : ℤ) → (step_answer_of f earlier reading).code ≡ given f earlier
  code_given reading =
      by_test (eqb (given f earlier) 0)
      (λ t. let h = eqb-true (given f earlier) 0 t in ap (λ (d : Driven). d.code) (answered f earlier reading h) ∙ sym h)
      (λ t. ap (λ (d : Driven). d.code) (refuses f earlier reading (eqb-false (given f earlier) 0 t)))

  -- the code is of the fan and the earlier step; the reading has no part in it
  pub code_alone : (r s : ℤ) → (step_answer_of f earlier r).code ≡ (step_answer_of f earlier s).code
  code_alone r s = code_given r ∙ sym (code_given s)

  pub codes : (reading : ℤ) (code : ℕ) → ((step_answer_of f earlier reading).code ≡ code) ↔ Gives f earlier code
  codes reading =
      by_lines (Gives f earlier) (step_answer_of f earlier reading).code (rw (code_given reading) by_code)
      (λ code g. code_given reading ∙ each_code code g)

  -- a refusal: every other number is 0
  pub refused : (reading : ℤ) (code : ℕ) → (code ≡ 0 → ⊥) → Gives f earlier code
      → step_answer_of f earlier reading ≡ record { code = code; step = 0; value = 0; duty = 0 }
  refused reading code z g =
      let e = each_code code g in
      refuses f earlier reading (λ h. z (sym e ∙ h)) ∙ ap refuses_of e

-- ---- the codes of a duty and of a preset

module _ (in_range : Type 0) (out : Bool) (n : ℕ) (within : out ≡ false → in_range) (without : in_range → out ≡ false) where
  abbrev number : Number
  number = cond out no_number (number_of n)

  number_line : NumberGives in_range number.code
  number_line = by_test out (λ t. rw t (none (λ i. clash (sym (without i) ∙ t)))) (λ t. rw t (some (within t)))

  each_number : (code : ℕ) → NumberGives in_range code → number.code ≡ code
  each_number _ (none o) = by_test out (λ t. rw t) (λ t. absurd (o (within t)))
  each_number _ (some i) = rw (without i)

  number_codes : (code : ℕ) → (number.code ≡ code) ↔ NumberGives in_range code
  number_codes = by_lines (NumberGives in_range) number.code number_line each_number

  number_refused : (in_range → ⊥) → number ≡ no_number
  number_refused o = by_test out (λ t. rw t) (λ t. absurd (o (within t)))

  number_answered : in_range → number ≡ number_of n
  number_answered i = rw (without i)

module _ (frequency value : ℕ) where
  abbrev duty_out : Bool
  duty_out = ltb 31 frequency || ltb 63 value

  duty_within : duty_out ≡ false → DutyInRange frequency value
  duty_within e = let a = neither (ltb 31 frequency) (ltb 63 value) e in (ltb-false 31 frequency a.0, ltb-false 63 value a.1)

  duty_without : DutyInRange frequency value → duty_out ≡ false
  duty_without i = rw (le-ltb 31 frequency i.0, le-ltb 63 value i.1)

  pub duty_codes : (code : ℕ) → ((duty_answer_of frequency value).code ≡ code) ↔ NumberGives (DutyInRange frequency value) code
  unfolding duty_answer_of
  duty_codes = number_codes (DutyInRange frequency value) duty_out (duty_of frequency value) duty_within duty_without

  pub duty_refused : (DutyInRange frequency value → ⊥) → duty_answer_of frequency value ≡ record { code = 4; value = 0 }
  unfolding duty_answer_of
  duty_refused = number_refused (DutyInRange frequency value) duty_out (duty_of frequency value) duty_within duty_without

  pub duty_answered : DutyInRange frequency value → duty_answer_of frequency value ≡ number_of (duty_of frequency value)
  unfolding duty_answer_of
  duty_answered = number_answered (DutyInRange frequency value) duty_out (duty_of frequency value) duty_within duty_without

module _ (frequency : ℕ) where
  pub preset_codes : (code : ℕ) → ((preset_answer_of frequency).code ≡ code) ↔ NumberGives (PresetInRange frequency) code
  unfolding preset_answer_of
  preset_codes = number_codes (PresetInRange frequency) (ltb 31 frequency) (preset_of frequency) (ltb-false 31 frequency) (le-ltb 31 frequency)

  pub preset_refused : (PresetInRange frequency → ⊥) → preset_answer_of frequency ≡ record { code = 4; value = 0 }
  unfolding preset_answer_of
  preset_refused = number_refused (PresetInRange frequency) (ltb 31 frequency) (preset_of frequency) (ltb-false 31 frequency) (le-ltb 31 frequency)

  pub preset_answered : PresetInRange frequency → preset_answer_of frequency ≡ number_of (preset_of frequency)
  unfolding preset_answer_of
  preset_answered = number_answered (PresetInRange frequency) (ltb 31 frequency) (preset_of frequency) (ltb-false 31 frequency) (le-ltb 31 frequency)
