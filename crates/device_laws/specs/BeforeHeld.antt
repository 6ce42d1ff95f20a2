-- What an event did before request b, in the words of that time: the sum tells the reading alone, an outcome says nothing of a held reading, and the
-- first answer byte has four bits. Only what the request moved stands here; the device and what happens to it are those of `device`. The events of
-- that time are kinds 01 to 07: those of request c, which a step refuses today, are outside what is compared.
-- Assumes nothing.
use Rattle.std.specs.Prelude.{ℕ, ◌+◌, ◌*◌, ◌≡◌, Bool, true, false, ◌&&◌, cond, List, [], ◌∷◌, ℤ, pos, neg_ℤ, eqb}
use Rattle.std.specs.Int.Signed.{lt_z}
use Rattle.std.specs.Int.Bits.{bit_or}
use Rattle.temperature.specs.Temperature.{sum_of}
use Rattle.registers.specs.Page.{readable_of, writable_of, known_of, setting_of, address_of}
use Rattle.conversion.specs.Conversion.{bit_of}
use Rattle.device.specs.declared.Device.{Device}
use Rattle.device.specs.declared.Pins.{Pins}
use Rattle.device.specs.declared.Event.{Event}
use Rattle.device.specs.declared.Event.TheVariants.{Write, Read, Send, Receive, Convert, Open, PowerOn, ConvertSecond, OpenSecond}
use Rattle.device.specs.Pins.{pins_of}
use Rattle.device.specs.Bus.{pointed_of, masked_of, written_of, value_of, after_read_of, alert_response, responds_of, takes_of, converted_of, powered_of}
use Rattle.device.specs.Ranges.{variant_of, ranged_of, operands_of, second_of}
use Rattle.device.specs.Step.{Stepped, refused_of}
use Rattle.device.specs.Run.{Reply}

-- ---- P2: the remote reading

-- held to -1024..1023
unfoldable pub held_of : ℤ → ℤ
held_of sum = cond (lt_z (pos 1023) sum) (pos 1023) (cond (lt_z sum (neg_ℤ (pos 1024))) (neg_ℤ (pos 1024)) sum)

abbrev pub held_sum_of : ℕ → ℕ → ℕ → ℕ → ℤ
held_sum_of high low offset_high offset_low = held_of (sum_of high low offset_high offset_low)

-- an open diode gives 127 degrees with no offset
abbrev pub open_reading : ℤ
open_reading = pos 1016

unfoldable pub reading_of : List ℕ → ℕ → ℕ → ℤ
reading_of s high low = held_sum_of high low (setting_of s 0x11) (setting_of s 0x12)

-- ---- what an outcome is

pub record Outcome : Type 0 where
  pub device : Device
  pub acknowledged : Bool
  pub taken : Bool
  pub byte : ℕ

-- this device after the event; not acknowledged, no conversion taken, no byte read
abbrev pub silent_of : Device → Outcome
silent_of d = record { device = d; acknowledged = false; taken = false; byte = 0 }

-- acknowledged, with the byte read or 0
abbrev pub answered_of : Device → ℕ → Outcome
answered_of d byte = record { device = d; acknowledged = true; taken = false; byte = byte }

-- ---- the events

-- P10: a register outside W is not acknowledged
unfoldable pub put_of : Device → ℕ → ℕ → Outcome
put_of d w v = cond (writable_of w) (answered_of (written_of d w v) 0) (silent_of d)

-- P10: a register outside R is not acknowledged
unfoldable pub get_of : Device → ℕ → Outcome
get_of d r = cond (readable_of r) (answered_of (after_read_of (pointed_of d r) r) (value_of d r)) (silent_of d)

-- P10: any register in R or W
unfoldable pub point_of : Device → ℕ → Outcome
point_of d r = cond (known_of r) (answered_of (pointed_of d r) 0) (silent_of d)

-- P9: the address times 2 plus 1, and the mask bit becomes 1
unfoldable pub respond_of : Device → Outcome
respond_of d = cond (responds_of d) (answered_of (masked_of d) (address_of d.variant * 2 + 1)) (silent_of d)

-- P11: a conversion not taken changes nothing
unfoldable pub sense_of : Device → ℕ → ℤ → Bool → Outcome
sense_of d local remote diode_open =
    cond (takes_of d) (record { device = converted_of d local remote diode_open; acknowledged = false; taken = true; byte = 0 }) (silent_of d)

-- P10: what a bus event does at the device's own address; at another nothing is acknowledged or changed
abbrev pub at_of : Device → ℕ → Outcome → Outcome
at_of d address own = cond (eqb address (address_of d.variant)) own (silent_of d)

-- the device after, acknowledged, conversion taken, byte read
unfoldable pub effect_of : Device → Event → Outcome
effect_of d (Write address w v) = at_of d address (put_of d w v)
effect_of d (Read address r) = at_of d address (get_of d r)
effect_of d (Send address r) = at_of d address (point_of d r)
-- P9: a receive from 0C is the alert response; P10: any other uses the pointer
effect_of d (Receive address) = cond (eqb address alert_response) (respond_of d) (at_of d address (get_of d d.pointer))
-- P2: the reading is the sample plus the offset, held; with an open diode it is 127 degrees, and OPEN
effect_of d (Convert local high low) = sense_of d local (reading_of d.settings high low) false
effect_of d (Open local) = sense_of d local open_reading true
-- power-on keeps the variant and nothing else
effect_of d PowerOn = silent_of (powered_of d.variant)
-- request c's events are none of that time, and outside the theorem: nothing is done
effect_of d (ConvertSecond local high low) = silent_of d
effect_of d (OpenSecond local) = silent_of d

-- ---- the answer

-- the first answer byte: D0 ALERT pulled, D1 T_CRIT_A pulled, D2 acknowledged, D3 conversion taken, the rest 0
unfoldable pub first_of : Pins → Bool → Bool → ℕ
first_of pins acknowledged taken =
    bit_or (bit_or (bit_or (bit_of pins.alert 0x01) (bit_of pins.tcrit 0x02)) (bit_of acknowledged 0x04)) (bit_of taken 0x08)

-- the first answer byte of an outcome, with the pins as they stand after the event; the second is the byte read
unfoldable pub answer_of : Outcome → ℕ
answer_of o = first_of (pins_of o.device) o.acknowledged o.taken

abbrev pub stepped_of : Outcome → Stepped
stepped_of o = record { code = 0; first = answer_of o; second = o.byte; device = o.device }

-- 8 for a device out of its ranges or of no variant, then 4 for an operand outside the table
unfoldable pub step_of : Device → Event → Stepped
step_of d e =
    cond (variant_of d.variant && ranged_of d) (cond (operands_of e) (stepped_of (effect_of d e)) (refused_of d 4)) (refused_of d 8)

-- ---- events one after the other

-- events of that time
abbrev pub OfThatTime : List Event → Type 0
OfThatTime [] = Unit {0}
OfThatTime (e ∷ es) = (second_of e ≡ false) × OfThatTime es

abbrev pub replies_of : Device → List Event → List Reply
replies_of d [] = []
replies_of d (e ∷ es) =
    record { code = (step_of d e).code; first = (step_of d e).first; second = (step_of d e).second } ∷ replies_of (step_of d e).device es

abbrev pub after_of : Device → List Event → Device
after_of d [] = d
after_of d (e ∷ es) = after_of (step_of d e).device es
