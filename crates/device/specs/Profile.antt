-- Kinds of events: on the bus or not, at another address, or to a register that is not readable or not writable.
-- Assumes nothing.
use Rattle.std.specs.Prelude.{◌≡◌, false, eqb}
use Rattle.registers.specs.Page.{address_of, readable_of, writable_of, known_of}
use Rattle.device.specs.declared.Device.{Device}
use Rattle.device.specs.declared.Event.{Event}
use Rattle.device.specs.declared.Event.TheVariants.{Write, Read, Send, Receive, Convert, Open, PowerOn, ConvertSecond, OpenSecond}
use Rattle.device.specs.Bus.{alert_response}

-- kinds 01 to 04
abbrev pub OnBus : Event → Type 0
OnBus (Write a w v) = Unit {0}
OnBus (Read a r) = Unit {0}
OnBus (Send a r) = Unit {0}
OnBus (Receive a) = Unit {0}
OnBus (Convert local high low) = ⊥
OnBus (Open local) = ⊥
OnBus PowerOn = ⊥
OnBus (ConvertSecond local high low) = ⊥
OnBus (OpenSecond local) = ⊥

-- kinds 05 and 06; 08 and 09
abbrev pub IsConversion : Event → Type 0
IsConversion (Write a w v) = ⊥
IsConversion (Read a r) = ⊥
IsConversion (Send a r) = ⊥
IsConversion (Receive a) = ⊥
IsConversion (Convert local high low) = Unit {0}
IsConversion (Open local) = Unit {0}
IsConversion PowerOn = ⊥
IsConversion (ConvertSecond local high low) = Unit {0}
IsConversion (OpenSecond local) = Unit {0}

-- P10: a bus event at another address, the alert response apart
abbrev pub AtAnother : Device → Event → Type 0
AtAnother d (Write a w v) = eqb a (address_of d.variant) ≡ false
AtAnother d (Read a r) = eqb a (address_of d.variant) ≡ false
AtAnother d (Send a r) = eqb a (address_of d.variant) ≡ false
AtAnother d (Receive a) = (eqb a (address_of d.variant) ≡ false) × (eqb a alert_response ≡ false)
AtAnother d (Convert local high low) = ⊥
AtAnother d (Open local) = ⊥
AtAnother d PowerOn = ⊥
AtAnother d (ConvertSecond local high low) = ⊥
AtAnother d (OpenSecond local) = ⊥

-- at the right address or a wrong one: P10, a write outside W, a read outside R, a send outside both, a receive while the pointer is outside R
abbrev pub OutsideProfile : Device → Event → Type 0
OutsideProfile d (Write a w v) = writable_of w ≡ false
OutsideProfile d (Read a r) = readable_of r ≡ false
OutsideProfile d (Send a r) = known_of r ≡ false
OutsideProfile d (Receive a) = (readable_of d.pointer ≡ false) × (eqb a alert_response ≡ false)
OutsideProfile d (Convert local high low) = ⊥
OutsideProfile d (Open local) = ⊥
OutsideProfile d PowerOn = ⊥
OutsideProfile d (ConvertSecond local high low) = ⊥
OutsideProfile d (OpenSecond local) = ⊥
