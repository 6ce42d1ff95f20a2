-- The bench's device, stepped by an event that is given as its record's four bytes, since an exported function takes no enum. On the
-- bytes of an event it is the step by value (proofs/Twin.antt: is_the_step); 3 is for bytes that are no event's, and for the second
-- device's (request c).
-- Assumes nothing.
use Rattle.std.specs.Prelude.{ℕ, ◌&&◌, cond, Result, Ok, Err}
use Rattle.device.specs.declared.Device.{Device}
use Rattle.device.specs.declared.Accepted.{Accepted}
use Rattle.device.specs.declared.Refusal.{Refusal}
use Rattle.device.specs.Bus.{powered_of, zero_device}
use Rattle.device.specs.Ranges.{variant_of, ranged_of}
use Rattle.device.specs.Step.{Stepped, refusal_code_of, from_told, step_of}
use Rattle.record.specs.Record.{Record}
use Rattle.record.specs.Record.{decode_of, code_of}
use Rattle.bench_step.specs.declared.Answer.{Answer}

-- the device after a step, and the step's answer
pub record Taken : Type 0 where
  pub device : Device
  pub answer : Answer

-- a refusal: answer bytes 0, nothing changed
abbrev pub refusal_of : Device → ℕ → Taken
refusal_of d code = record { device = d; answer = record { code = code; first = 0; second = 0 } }

-- what a step by value gives
abbrev pub taken_of : Stepped → Taken
taken_of s = record { device = s.device; answer = record { code = s.code; first = s.first; second = s.second } }

-- the step by value that gives this
abbrev pub from_taken : Taken → Result Accepted Refusal
from_taken t = from_told (record { code = t.answer.code; first = t.answer.first; second = t.answer.second; device = t.device })

-- what the program's step on the device where it stands gives, in C's numbers
abbrev pub answer_of : Result (ℕ × ℕ) Refusal → Answer
answer_of (Ok bytes) = record { code = 0; first = bytes.0; second = bytes.1 }
answer_of (Err why) = record { code = refusal_code_of why; first = 0; second = 0 }

-- 3 and 4 of the record, or the step
abbrev pub on_record_of : Device → Record → Taken
on_record_of d (Ok e) = taken_of (step_of d e)
on_record_of d (Err why) = refusal_of d (code_of (Err why))

-- 8 (for a variant of 0 too), then 3, then 4, else the step; request c: read under a device count of 1, so that 08 and 09 are 3
unfoldable pub step_bytes_of : Device → ℕ → ℕ → ℕ → ℕ → Taken
step_bytes_of d kind a b c = cond (variant_of d.variant && ranged_of d) (on_record_of d (decode_of 1 kind a b c)) (refusal_of d 8)

-- beside document 01: a device as after power-on; all zeros, whose first step gives 8, for a variant that is none of 1 to 3
unfoldable pub power_on_of : ℕ → Device
power_on_of variant = cond (variant_of variant) (powered_of variant) zero_device
