-- Request b: what D4 of the first answer byte tells of a conversion. `proofs/Held.antt` proves it of every device and event, and
-- `proofs/BeforeHeld.antt`, against the definitions before the request, of every device and every event of that time.
-- Assumes nothing.
use Rattle.std.specs.Prelude.{◌≡◌, Bool, true, false, ℕ, ℤ, pos, neg_ℤ}
use Rattle.std.specs.Int.Signed.{lt_z}
use Rattle.std.specs.Int.Bits.{bit_and}
use Rattle.registers.specs.Bits.{has}
use Rattle.device.specs.declared.Outcome.{Outcome}
use Rattle.device.specs.declared.Event.{Event}
use Rattle.device.specs.declared.Event.TheVariants.{Write, Read, Send, Receive, Convert, Open, PowerOn, ConvertSecond, OpenSecond}
use Rattle.device.specs.Step.{Stepped, answer_of}
use Rattle.device.specs.Run.{Reply}
use Rattle.device_laws.specs.Moves.{off_scale}

-- D4 of the first answer byte
abbrev pub shows_held : Outcome → Bool
shows_held o = has (answer_of o) 0x10

-- a conversion with the diode connected: kind 05 or, by request c, 08
abbrev pub connected : Event → Bool
connected (Write a w v) = false
connected (Read a r) = false
connected (Send a r) = false
connected (Receive a) = false
connected (Convert local high low) = true
connected (Open local) = false
connected PowerOn = false
connected (ConvertSecond local high low) = true
connected (OpenSecond local) = false

-- such a conversion with this local byte and this sample
pub data Samples (local high low : ℕ) : Event → Type 0 where
  kind_05 : Samples local high low (Convert local high low)
  kind_08 : Samples local high low (ConvertSecond local high low)

-- a conversion with the diode open: kind 06 or, by request c, 09
pub data Opens : Event → Type 0 where
  kind_06 : (local : ℕ) → Opens (Open local)
  kind_09 : (local : ℕ) → Opens (OpenSecond local)

-- a taken conversion of kind 05 or 08 with this sum of sample and offset: D4 is 1 exactly if the sum is above 1023 or below -1024; where it is 0
-- the reading is the sum, and where it is 1 it is not, but the end of the scale that the sum lies beyond
pub record Told (sum : ℤ) (o : Outcome) : Type 0 where
  pub shown : shows_held o ≡ off_scale sum
  pub within : shows_held o ≡ false → o.device.sensed.remote ≡ sum
  pub beyond : shows_held o ≡ true → o.device.sensed.remote ≡ sum → ⊥
  pub above : lt_z (pos 1023) sum ≡ true → o.device.sensed.remote ≡ pos 1023
  pub below : lt_z sum (neg_ℤ (pos 1024)) ≡ true → o.device.sensed.remote ≡ neg_ℤ (pos 1024)

-- a first answer byte, a step and a reply with D4 cleared
abbrev pub cleared : ℕ → ℕ
cleared first = bit_and first 0xEF

abbrev pub step_without : Stepped → Stepped
step_without s = record { code = s.code; first = cleared s.first; second = s.second; device = s.device }

abbrev pub reply_without : Reply → Reply
reply_without r = record { code = r.code; first = cleared r.first; second = r.second }
