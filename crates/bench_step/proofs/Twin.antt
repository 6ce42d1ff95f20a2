-- The step on record bytes against the step on an event. `is_step`: if the bytes decode to an event, it gives what that event's step
-- gives. `is_the_step`: so do the four bytes that any event is written as. `is_refused`: if they do not decode to one, it gives 8 for a
-- device out of its ranges, else the decoder's 3 or 4. `is_out`: out of its ranges it gives 8, whatever the bytes.
-- `one_step`, of C's answer, and `one_told` and `one_taken`, of the library's: two results that meet the promise are equal, device included.
-- Assumes nothing.
use Prim.Native.Nat.{ℕ}
use mathlib.Core.Path.{◌≡◌, refl, sym, ap, ◌∙◌}
use mathlib.Core.Bool.{Bool, true, false, ◌&&◌, cond}
use Rattle.laws.proofs.Choices.{clash, by_test}
use Rattle.device.specs.declared.Device.{Device}
use Rattle.device.specs.declared.Event.{Event}
use Rattle.device.specs.declared.Accepted.{Accepted}
use Rattle.device.specs.declared.Refusal.{Refusal as Stopped}
use Rattle.device.specs.declared.Refusal.TheVariants.{OutOfRange, Kind as StoppedKind, Operand as StoppedOperand}
use lib.Dec.{eqb}
use lib.ListN.{get_or}
use Rattle.device.specs.Ranges.{variant_of, ranged_of, operands_of, second_of}
use Rattle.device.specs.Step.{told_of, step_of}
use Rattle.std.specs.Prelude.{Result, Ok, Err}
use Rattle.record.specs.declared.refusal.Refusal.{Refusal}
use Rattle.record.specs.declared.refusal.Refusal.TheVariants.{Kind, Operand}
use Rattle.record.specs.Record.{decode_of, code_of, encode_of}
use Rattle.device.proofs.Steps.{told_back}
use Rattle.record.proofs.RoundTrip.{reads_back, reads_refused, reads_unknown}
use Rattle.bench_step.specs.declared.Answer.{Answer}
use Rattle.bench_step.specs.BenchStep.{refusal_of, taken_of, from_taken, answer_of, step_bytes_of}

from_answer : Answer → Result (ℕ × ℕ) Stopped
from_answer t =
    cond (eqb t.code 0) (Ok (t.first, t.second)) (Err (cond (eqb t.code 8) OutOfRange (cond (eqb t.code 3) StoppedKind StoppedOperand)))

pub taken_back : (d : Device) (r : Result Accepted Stopped) → from_taken (taken_of (told_of d r)) ≡ r
taken_back d r = told_back d r

answer_back : (r : Result (ℕ × ℕ) Stopped) → from_answer (answer_of r) ≡ r
unfolding from_answer
answer_back (Ok bytes) = refl
answer_back (Err OutOfRange) = refl
answer_back (Err StoppedKind) = refl
answer_back (Err StoppedOperand) = refl

module _ (d : Device) (kind a b c : ℕ) where
  abbrev in_range : Bool
  in_range = variant_of d.variant && ranged_of d

  pub is_step : (e : Event) → decode_of 1 kind a b c ≡ Ok e → step_bytes_of d kind a b c ≡ taken_of (step_of d e)
  unfolding step_bytes_of step_of
  is_step e q = by_test in_range (λ r. simp (r, q)) (λ r. simp r)

  pub is_refused : (why : Refusal) → decode_of 1 kind a b c ≡ Err why → step_bytes_of d kind a b c ≡ refusal_of d (cond in_range (code_of (Err why)) 8)
  unfolding step_bytes_of
  is_refused why q = by_test in_range (λ r. simp (r, q)) (λ r. simp r)

  pub is_out : in_range ≡ false → step_bytes_of d kind a b c ≡ refusal_of d 8
  unfolding step_bytes_of
  is_out r = simp r

  -- the promise of the step where the device stands
  pub one_step : {exit exit' : Device} {r s : Answer}
      → (exit ≡ (step_bytes_of d kind a b c).device) × (r ≡ (step_bytes_of d kind a b c).answer)
      → (exit' ≡ (step_bytes_of d kind a b c).device) × (s ≡ (step_bytes_of d kind a b c).answer)
      → (exit ≡ exit') × (r ≡ s)
  one_step p q = (p.0 ∙ sym q.0, p.1 ∙ sym q.1)

  pub one_taken : {r s : Result Accepted Stopped} → taken_of (told_of d r) ≡ step_bytes_of d kind a b c → taken_of (told_of d s) ≡ step_bytes_of d kind a b c → r ≡ s
  one_taken p q = sym (taken_back d _) ∙ ap from_taken (p ∙ sym q) ∙ taken_back d _

  pub one_told : {exit exit' : Device} {r s : Result (ℕ × ℕ) Stopped}
      → (exit ≡ (step_bytes_of d kind a b c).device) × (answer_of r ≡ (step_bytes_of d kind a b c).answer)
      → (exit' ≡ (step_bytes_of d kind a b c).device) × (answer_of s ≡ (step_bytes_of d kind a b c).answer)
      → (exit ≡ exit') × (r ≡ s)
  one_told {r = r} {s = s} p q = (p.0 ∙ sym q.0, sym (answer_back r) ∙ ap from_answer (p.1 ∙ sym q.1) ∙ answer_back s)

-- on the four bytes of an event it is the step by value, refused or not
pub is_the_step : (d : Device) (e : Event)
    → step_bytes_of d (get_or (encode_of e) 0 0) (get_or (encode_of e) 1 0) (get_or (encode_of e) 2 0) (get_or (encode_of e) 3 0) ≡ taken_of (step_of d e)
unfolding step_of code_of
is_the_step d e =
    by_test (second_of e)
    (λ s. is_refused d _ _ _ _ Kind (reads_unknown 1 e s refl) ∙ by_test (in_range d 0 0 0 0) (λ r. rw (r, s)) (λ r. rw r))
    (λ s.
    let own : second_of e ≡ true → 1 ≡ 2 = λ t. clash (sym s ∙ t) in
    by_test (operands_of e) (λ h. is_step d _ _ _ _ e (reads_back 1 e h own))
    (λ h. is_refused d _ _ _ _ Operand (reads_refused 1 e h own) ∙ by_test (in_range d 0 0 0 0) (λ r. rw (r, s, h)) (λ r. rw r)))
