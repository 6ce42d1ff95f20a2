-- One event: `effect_of` is what it does to the device that it concerns, `step_of`, of a device alone, is ranges, kind, operands, then the effect.
-- Assumes nothing.
use Rattle.std.specs.Prelude.{ℕ, true, false, ◌&&◌, cond, eqb, Result, Ok, Err}
use Rattle.temperature.specs.Temperature.{open_reading}
use Rattle.conversion.specs.Conversion.{reading_of}
use Rattle.device.specs.declared.Device.{Device}
use Rattle.device.specs.declared.Outcome.{Outcome}
use Rattle.device.specs.declared.Accepted.{Accepted}
use Rattle.device.specs.declared.Refusal.{Refusal}
use Rattle.device.specs.declared.Refusal.TheVariants.{OutOfRange, Kind, Operand}
use Rattle.device.specs.declared.Event.{Event}
use Rattle.device.specs.declared.Event.TheVariants.{Write, Read, Send, Receive, Convert, Open, PowerOn, ConvertSecond, OpenSecond}
use Rattle.device.specs.Pins.{pins_of, first_of}
use Rattle.device.specs.Bus.{silent_of, put_of, get_of, point_of, alert_response, respond_of, sense_of, powered_of, at_of}
use Rattle.device.specs.Ranges.{variant_of, ranged_of, operands_of, second_of}

-- the device after, acknowledged, conversion taken, reading held, byte read
unfoldable pub effect_of : Device → Event → Outcome
effect_of d (Write address w v) = at_of d address (put_of d w v)
effect_of d (Read address r) = at_of d address (get_of d r)
effect_of d (Send address r) = at_of d address (point_of d r)
-- P9: a receive from 0C is the alert response; P10: any other uses the pointer
effect_of d (Receive address) = cond (eqb address alert_response) (respond_of d) (at_of d address (get_of d d.pointer))
-- P2: the reading is the sample plus the offset, held; with an open diode it is 127 degrees, and OPEN; request b: whether it was held comes with it
effect_of d (Convert local high low) = sense_of d local (reading_of d.settings high low) false
effect_of d (Open local) = sense_of d local open_reading true
-- power-on keeps the variant and nothing else
effect_of d PowerOn = silent_of (powered_of d.variant)
-- request c: 08 and 09 are 05 and 06, of the device at hand
effect_of d (ConvertSecond local high low) = sense_of d local (reading_of d.settings high low) false
effect_of d (OpenSecond local) = sense_of d local open_reading true

-- the first answer byte of an outcome, with the pins as they stand after the event; the second is the byte read
unfoldable pub answer_of : Outcome → ℕ
answer_of o = first_of (pins_of o.device) o.acknowledged o.taken o.held

-- a step in numbers: its code, its two answer bytes and the device after it
pub record Stepped : Type 0 where
  pub code : ℕ
  pub first : ℕ
  pub second : ℕ
  pub device : Device

-- a refusal: answer bytes 0, nothing changed
abbrev pub refused_of : Device → ℕ → Stepped
refused_of d code = record { code = code; first = 0; second = 0; device = d }

abbrev pub stepped_of : Outcome → Stepped
stepped_of o = record { code = 0; first = answer_of o; second = o.byte; device = o.device }

-- the codes of the program's refusals
abbrev pub refusal_code_of : Refusal → ℕ
refusal_code_of OutOfRange = 8
refusal_code_of Kind = 3
refusal_code_of Operand = 4

-- what the program's step gives, in numbers
abbrev pub told_of : Device → Result Accepted Refusal → Stepped
told_of d (Ok a) = record { code = 0; first = a.first; second = a.second; device = a.device }
told_of d (Err why) = refused_of d (refusal_code_of why)

-- the result that is told in these numbers
abbrev pub from_told : Stepped → Result Accepted Refusal
from_told t =
    cond (eqb t.code 0) (Ok (record { first = t.first; second = t.second; device = t.device }))
    (Err (cond (eqb t.code 8) OutOfRange (cond (eqb t.code 3) Kind Operand)))

-- 8 for a device out of its ranges or of no variant, then 3 for a conversion of a second device (request c), then 4 for an operand outside
-- the table
unfoldable pub step_of : Device → Event → Stepped
step_of d e =
    cond (variant_of d.variant && ranged_of d)
    (cond (second_of e) (refused_of d 3)
    (cond (operands_of e) (stepped_of (effect_of d e)) (refused_of d 4)))
    (refused_of d 8)
