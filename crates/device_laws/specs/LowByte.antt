-- Request a: a pair read 01, then 10, is of one reading. `proofs/LowByte.antt` proves it of every device in its ranges, alone or the second of a bus.
-- Assumes nothing.
use Rattle.std.specs.Prelude.{ℕ, ◌≡◌, Bool, true, false, ◌||◌, ◌&&◌, List, [], ◌∷◌, ℤ, eqb}
use Rattle.temperature.specs.Temperature.{eighths_of, high_byte_of, low_byte_of}
use Rattle.device.specs.declared.Device.{Device}
use Rattle.device.specs.declared.Event.{Event}
use Rattle.device.specs.declared.Event.TheVariants.{Write, Read, Send, Receive, Convert, Open, PowerOn, ConvertSecond, OpenSecond}
use Rattle.device.specs.Step.{Stepped, effect_of, step_of}
use Rattle.device_laws.specs.Moves.{own_of}

-- for r in R, an acknowledged read of r: a read byte at the device's own address, or a receive there with the pointer at r
abbrev pub reads_of : Device → Event → ℕ → Bool
reads_of d (Write a w v) r = false
reads_of d (Read a s) r = own_of d a && eqb s r
reads_of d (Send a s) r = false
reads_of d (Receive a) r = own_of d a && eqb d.pointer r
reads_of d (Convert local high low) r = false
reads_of d (Open local) r = false
reads_of d PowerOn r = false
reads_of d (ConvertSecond local high low) r = false
reads_of d (OpenSecond local) r = false

abbrev pub is_power_on : Event → Bool
is_power_on (Write a w v) = false
is_power_on (Read a s) = false
is_power_on (Send a s) = false
is_power_on (Receive a) = false
is_power_on (Convert local high low) = false
is_power_on (Open local) = false
is_power_on PowerOn = true
is_power_on (ConvertSecond local high low) = false
is_power_on (OpenSecond local) = false

-- what keeps a low byte or lets one go
abbrev pub moves_low : Device → Event → Bool
moves_low d e = reads_of d e 0x01 || reads_of d e 0x10 || is_power_on e

-- events, stepped one after the other, none of which does; refused ones are among them
abbrev pub Between : Device → List Event → Type 0
Between d [] = Unit {0}
Between d (e ∷ es) = (moves_low d e ≡ false) × Between (step_of d e).device es

-- request c: events, done one after the other at a second device, kinds 08 and 09 among them
abbrev pub BetweenSecond : Device → List Event → Type 0
BetweenSecond d [] = Unit {0}
BetweenSecond d (e ∷ es) = (moves_low d e ≡ false) × BetweenSecond (effect_of d e).device es

-- the two bytes read are those of this reading, and it is what they say in eighths
pub record OneReading (reading : ℤ) (first last : Stepped) : Type 0 where
  pub first_code : first.code ≡ 0
  pub last_code : last.code ≡ 0
  pub high : first.second ≡ high_byte_of reading
  pub low : last.second ≡ low_byte_of reading
  pub eighths : eighths_of first.second last.second ≡ reading
