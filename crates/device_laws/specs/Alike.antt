-- P12: two devices that differ in nothing but the rate byte, 04, and the filter bits, D1 and D2 of BF. `proofs/Alike.antt` says that they
-- answer every event alike but for a read of those registers, and go on differing in nothing else.
-- Assumes nothing.
use Rattle.std.specs.Prelude.{ℕ, ◌≡◌, Bool, false, ◌||◌, ◌&&◌, cond, List, [], ◌∷◌, eqb}
use Rattle.std.specs.Int.Bits.{bit_and}
use Rattle.registers.specs.Page.{setting_of, changed_of}
use Rattle.device.specs.declared.Device.{Device}
use Rattle.device.specs.declared.Event.{Event}
use Rattle.device.specs.declared.Event.TheVariants.{Write, Read, Send, Receive, Convert, Open, PowerOn, ConvertSecond, OpenSecond}
use Rattle.device.specs.Bus.{set_up_of}
use Rattle.device_laws.specs.Moves.{own_of}
use Rattle.device.specs.Run.{Reply}
use Rattle.device.specs.Step.{effect_of, answer_of, step_of}

-- the fourteen bytes with the rate byte 0 and of BF only D0
abbrev pub blanked : List ℕ → List ℕ
blanked s = changed_of (changed_of s 0x04 0) 0xBF (bit_and (setting_of s 0xBF) 0x01)

abbrev pub blank_of : Device → Device
blank_of d = set_up_of d d.pointer d.pending (blanked d.settings)

-- alike: the same but for the rate byte and the filter bits
abbrev pub Alike : Device → Device → Type 0
Alike d e = blank_of d ≡ blank_of e

-- the event reads 04 or BF
abbrev pub reads_them : Device → Event → Bool
reads_them d (Write a w v) = false
reads_them d (Read a r) = own_of d a && (eqb r 0x04 || eqb r 0xBF)
reads_them d (Send a r) = false
reads_them d (Receive a) = own_of d a && (eqb d.pointer 0x04 || eqb d.pointer 0xBF)
reads_them d (Convert local high low) = false
reads_them d (Open local) = false
reads_them d PowerOn = false
reads_them d (ConvertSecond local high low) = false
reads_them d (OpenSecond local) = false

-- one event at two devices: acknowledged, taken, held and the first answer byte alike, the byte read too unless the event reads 04 or BF, and the
-- devices after it alike
pub record AnswerAlike (d e : Device) (event : Event) : Type 0 where
  pub acknowledged : (effect_of d event).acknowledged ≡ (effect_of e event).acknowledged
  pub taken : (effect_of d event).taken ≡ (effect_of e event).taken
  pub held : (effect_of d event).held ≡ (effect_of e event).held
  pub first : answer_of (effect_of d event) ≡ answer_of (effect_of e event)
  pub byte : reads_them d event ≡ false → (effect_of d event).byte ≡ (effect_of e event).byte
  pub after : Alike (effect_of d event).device (effect_of e event).device

-- a step's code and answer bytes, the byte read left out where the event reads 04 or BF
abbrev pub shown_reply : Device → Event → Reply
shown_reply d e = record { code = (step_of d e).code; first = (step_of d e).first; second = cond (reads_them d e) 0 (step_of d e).second }

abbrev pub shown_replies : Device → List Event → List Reply
shown_replies d [] = []
shown_replies d (e ∷ es) = shown_reply d e ∷ shown_replies (step_of d e).device es
