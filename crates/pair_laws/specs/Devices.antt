-- Request c, said once for either device: a Bool says which one, true for the second. Which records are of a device, and whether it is named.
-- Assumes nothing.
use Rattle.std.specs.Prelude.{ℕ, ◌≡◌, Bool, true, false, not, ◌||◌, cond, eqb}
use Rattle.registers.specs.Page.{address_of}
use Rattle.device.specs.declared.Event.{Event}
use Rattle.device.specs.declared.Event.TheVariants.{Write, Read, Send, Receive, Convert, Open, PowerOn, ConvertSecond, OpenSecond}
use Rattle.device.specs.Bus.{alert_response}
use Rattle.pair.specs.declared.Bus.{Bus}
use Rattle.pair.specs.declared.Named.{Named}
use Rattle.pair.specs.declared.Named.TheVariants.{Neither, First, Second, Both}
use Rattle.pair.specs.Bus.{two_of, picked_of, first_address, second_address}

-- two devices, of two addresses
pub record Two (p : Bus) : Type 0 where
  pub two : two_of p ≡ true
  pub apart : eqb (first_address p) (second_address p) ≡ false

-- the first device is on every bus, the second on a bus of two
abbrev pub present_of : Bus → Bool → Bool
present_of p second = not second || two_of p

abbrev pub address_at : Bus → Bool → ℕ
address_at p second = address_of (picked_of p second).variant

-- ---- named

-- this device alone
abbrev pub alone_named : Bool → Named
alone_named second = cond second Second First

-- this device is named, alone or with the other
abbrev pub is_named : Named → Bool → Bool
is_named Neither second = false
is_named First second = not second
is_named Second second = second
is_named Both second = true

-- ---- kinds of events

-- kinds 01 to 04, with this address
abbrev pub addressed_to : ℕ → Event → Bool
addressed_to address (Write a w v) = eqb a address
addressed_to address (Read a r) = eqb a address
addressed_to address (Send a r) = eqb a address
addressed_to address (Receive a) = eqb a address
addressed_to address (Convert local high low) = false
addressed_to address (Open local) = false
addressed_to address PowerOn = false
addressed_to address (ConvertSecond local high low) = false
addressed_to address (OpenSecond local) = false

-- kinds 05 and 06 are conversions of the first device, 08 and 09 of the second
abbrev pub conversion_of : Bool → Event → Bool
conversion_of second (Write a w v) = false
conversion_of second (Read a r) = false
conversion_of second (Send a r) = false
conversion_of second (Receive a) = false
conversion_of second (Convert local high low) = not second
conversion_of second (Open local) = not second
conversion_of second PowerOn = false
conversion_of second (ConvertSecond local high low) = second
conversion_of second (OpenSecond local) = second

-- kind 04 from 0C
abbrev pub is_alert_response : Event → Bool
is_alert_response (Write a w v) = false
is_alert_response (Read a r) = false
is_alert_response (Send a r) = false
is_alert_response (Receive a) = eqb a alert_response
is_alert_response (Convert local high low) = false
is_alert_response (Open local) = false
is_alert_response PowerOn = false
is_alert_response (ConvertSecond local high low) = false
is_alert_response (OpenSecond local) = false

-- kind 07
abbrev pub is_power_on : Event → Bool
is_power_on (Write a w v) = false
is_power_on (Read a r) = false
is_power_on (Send a r) = false
is_power_on (Receive a) = false
is_power_on (Convert local high low) = false
is_power_on (Open local) = false
is_power_on PowerOn = true
is_power_on (ConvertSecond local high low) = false
is_power_on (OpenSecond local) = false

-- a record addressed to a device, or a conversion of it
abbrev pub is_of : Bus → Bool → Event → Bool
is_of p second e = addressed_to (address_at p second) e || conversion_of second e
