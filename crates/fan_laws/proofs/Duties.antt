-- What is answered in the ranges is the duty, `duty_said`, or the preset, `preset_said`, in the request's words. Duty never falls as the PWM value rises,
-- `duty_rises`; it is all of it exactly from twice the frequency on, `all_exactly`, and none exactly at PWM value 0, `none_exactly`. Frequency 0 counts as 1:
-- `zero_duty`, `zero_step`.
-- Assumes nothing.
use mathlib.Core.Path.{◌≡◌, refl, sym, ◌∙◌}
use mathlib.Core.Logic.{◌↔◌}
use Prim.Native.Nat.{ℕ, ◌*◌, ◌≤◌, ◌<◌}
use native.Mathlib.Omega.{arith}
use mathlib.Core.List.{List}
use lib.Dec.{leb, eqb}
use lib.IntN.{ℤ}
use borrow.Author.Tests.{leb-true, leb-false, eq-eqb, ne_eqb, eqb-true, eqb-false}
use Rattle.laws.proofs.Choices.{by_test}
use Rattle.laws.proofs.Exactly.{by_lines}
use Rattle.fan.specs.Drive.{counted_of, Nearest, Duty, duty_of, preset_of}
use Rattle.fan.specs.declared.Number.{Number}
use Rattle.fan.specs.Fan.{code_of, step_answer_of, duty_answer_of, preset_answer_of}
use Rattle.fan.specs.Opened.{fan_opened}
use Rattle.fan.proofs.Rounds.{is_nearest, one_nearest, in_order, counts, is_duty, one_duty}
use Rattle.fan_laws.specs.Ranges.{DutyInRange, PresetInRange}
use Rattle.fan_laws.specs.Answers.{IsDuty, IsPreset}
use Rattle.fan_laws.proofs.Codes.{duty_answered, preset_answered}

-- ---- frequency 0 counts as 1

pub zero_duty : (value : ℕ) → duty_answer_of 0 value ≡ duty_answer_of 1 value
unfolding fan_opened
zero_duty value = refl

pub zero_step : (table : List ℕ) (hysteresis earlier : ℕ) (reading : ℤ)
    → step_answer_of (record { table = table; hysteresis = hysteresis; frequency = 0 }) earlier reading
    ≡ step_answer_of (record { table = table; hysteresis = hysteresis; frequency = 1 }) earlier reading
unfolding step_answer_of code_of duty_of
zero_step table hysteresis earlier reading = refl

-- ---- duty

module _ (n : ℕ) where
  whole : (d : ℕ) → 0 < d → Nearest (10000 * d) d 10000
  whole d h = record { over = omega arith; under = omega arith; upward = λ e. absurd (omega (arith, e)) }

  duty_within : (value : ℕ) → duty_of n value ≤ 10000
  duty_within value =
      by_test (leb (2 * counted_of n) value)
      (λ t. let e = (is_duty n value).all (leb-true (2 * counted_of n) value t) in omega (arith, e))
      (λ t.
      let h = leb-false (2 * counted_of n) value t in
      in_order (10000 * value) (10000 * (2 * counted_of n)) (2 * counted_of n) (duty_of n value) 10000 (omega arith)
      ((is_duty n value).part h) (whole (2 * counted_of n) (omega arith)))

  no_lower : (v w : ℕ) → v ≤ w → duty_of n v ≤ duty_of n w
  no_lower v w l =
      by_test (leb (2 * counted_of n) w)
      (λ t. let e = (is_duty n w).all (leb-true (2 * counted_of n) w t) in omega (arith, e, duty_within v))
      (λ t.
      let h = leb-false (2 * counted_of n) w t in
      in_order (10000 * v) (10000 * w) (2 * counted_of n) (duty_of n v) (duty_of n w) (omega arith)
      ((is_duty n v).part (omega arith)) ((is_duty n w).part h))

  -- ---- at a frequency in its range

  counted_within : n ≤ 31 → counted_of n ≤ 31
  counted_within l =
      by_test (eqb n 0) (λ t. rw t (omega arith)) (λ t. rw t l)

  all_of_it : (v : ℕ) → n ≤ 31 → (duty_of n v ≡ 10000) ↔ (2 * counted_of n ≤ v)
  all_of_it v l = (all, (is_duty n v).all)
    where
      all : duty_of n v ≡ 10000 → 2 * counted_of n ≤ v
      all e =
          by_test (leb (2 * counted_of n) v) (λ t. leb-true (2 * counted_of n) v t)
          (λ t.
          let h = leb-false (2 * counted_of n) v t in
          let r : Nearest (10000 * v) (2 * counted_of n) 10000 = rw e at ((is_duty n v).part h) in
          absurd (omega (arith, r.over, counted_within l)))

  none_of_it : (v : ℕ) → n ≤ 31 → (duty_of n v ≡ 0) ↔ (v ≡ 0)
  none_of_it v l = (none, λ e. rw e (one_duty n 0 (duty_of n 0) 0 (is_duty n 0) undriven))
    where
      undriven : Duty n 0 0
      undriven =
          let h = counts n in
          record { part = λ k. record { over = omega arith; under = omega arith; upward = λ e. absurd (omega (arith, e)) }; all = λ k. absurd (omega arith) }

      none : duty_of n v ≡ 0 → v ≡ 0
      none e =
          by_test (leb (2 * counted_of n) v)
          (λ t. let a = (is_duty n v).all (leb-true (2 * counted_of n) v t) in absurd (omega (arith, a, e)))
          (λ t.
          let r : Nearest (10000 * v) (2 * counted_of n) 0 = rw e at ((is_duty n v).part (leb-false (2 * counted_of n) v t)) in
          omega (arith, r.under, counted_within l))

-- ---- preset

preset_one : (n : ℕ) → counted_of n ≡ 1 → preset_of n ≡ 1
unfolding preset_of
preset_one n h = rw (eq-eqb (counted_of n) 1 h)

preset_nearest : (n : ℕ) → (counted_of n ≡ 1 → ⊥) → Nearest (3 * counted_of n) 2 (preset_of n)
unfolding preset_of
preset_nearest n h = rw (ne_eqb (counted_of n) 1 h) (is_nearest (3 * counted_of n) 2 (omega arith))

-- ---- the answers

-- an answer is its two numbers
abbrev make : ℕ → ℕ → Number
make code value = record { code = code; value = value }

same_number : (c d : Number) → c.code ≡ 0 → d.code ≡ 0 → c.value ≡ d.value → c ≡ d
same_number c d x y e =
    let code : c.code ≡ d.code = x ∙ sym y in
    let all : make c.code c.value ≡ make d.code d.value = cc in
    all

pub duty_said : (n v : ℕ) → DutyInRange n v → (d : Number) → (duty_answer_of n v ≡ d) ↔ IsDuty n v d
duty_said n v i =
    let known : IsDuty n v (duty_answer_of n v) = rw (duty_answered n v i) (record { code = refl; duty = is_duty n v }) in
    by_lines (IsDuty n v) (duty_answer_of n v) known
    (λ d x. same_number (duty_answer_of n v) d known.code x.code (one_duty n v (duty_answer_of n v).value d.value known.duty x.duty))

pub preset_said : (n : ℕ) → PresetInRange n → (d : Number) → (preset_answer_of n ≡ d) ↔ IsPreset n d
preset_said n i =
    let known : IsPreset n (preset_answer_of n) = rw (preset_answered n i) (record { code = refl; at_one = preset_one n; nearest = preset_nearest n }) in
    by_lines (IsPreset n) (preset_answer_of n) known
    (λ d x.
    same_number (preset_answer_of n) d known.code x.code
    (by_test (eqb (counted_of n) 1)
    (λ t. let h = eqb-true (counted_of n) 1 t in known.at_one h ∙ sym (x.at_one h))
    (λ t.
    let h = eqb-false (counted_of n) 1 t in
    one_nearest (3 * counted_of n) 2 (preset_answer_of n).value d.value (known.nearest h) (x.nearest h))))

-- all of it exactly from twice the frequency on, and none exactly at PWM value 0
pub all_exactly : (n v : ℕ) → DutyInRange n v → ((duty_answer_of n v).value ≡ 10000) ↔ (2 * counted_of n ≤ v)
all_exactly n v i = rw (duty_answered n v i) (all_of_it n v i.0)

pub none_exactly : (n v : ℕ) → DutyInRange n v → ((duty_answer_of n v).value ≡ 0) ↔ (v ≡ 0)
none_exactly n v i = rw (duty_answered n v i) (none_of_it n v i.0)

-- duty never falls as the PWM value rises
pub duty_rises : (n v w : ℕ) → n ≤ 31 → v ≤ w → w ≤ 63 → (duty_answer_of n v).value ≤ (duty_answer_of n w).value
duty_rises n v w i l j =
    rw (duty_answered n v (i, omega arith), duty_answered n w (i, j)) (no_lower n v w l)
