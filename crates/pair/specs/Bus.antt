-- Request c: one or two devices on one bus: which of them an event names, what the bus then does, the joined lines, and the first answer byte.
-- Assumes nothing.
use Rattle.std.specs.Prelude.{ℕ, ◌+◌, Bool, true, false, not, ◌||◌, ◌&&◌, cond, eqb, ltb}
use Rattle.registers.specs.Page.{address_of}
use Rattle.device.specs.declared.Device.{Device}
use Rattle.device.specs.declared.Outcome.{Outcome}
use Rattle.device.specs.declared.Pins.{Pins}
use Rattle.device.specs.declared.Event.{Event}
use Rattle.device.specs.declared.Event.TheVariants.{Write, Read, Send, Receive, Convert, Open, PowerOn, ConvertSecond, OpenSecond}
use Rattle.device.specs.Pins.{pins_of, first_of}
use Rattle.device.specs.Bus.{responds_of, powered_of, zero_device, alert_response}
use Rattle.device.specs.Ranges.{second_of}
use Rattle.device.specs.Step.{effect_of}
use Rattle.pair.specs.declared.Bus.{Bus}
use Rattle.pair.specs.declared.Named.{Named}
use Rattle.pair.specs.declared.Named.TheVariants.{Neither, First, Second, Both}

-- ---- the bus

-- no device yet, all zeros
abbrev pub zero_bus : Bus
zero_bus = record { devices = 0; first = zero_device; second = zero_device }

-- two devices are on it; the second of another count is absent
abbrev pub two_of : Bus → Bool
two_of p = eqb p.devices 2

-- one of its devices: the second, or the first
abbrev pub picked_of : Bus → Bool → Device
picked_of p second = cond second p.second p.first

-- the same bus with another device in that place
abbrev pub placed_of : Bus → Bool → Device → Bus
placed_of p second d = record { devices = p.devices; first = cond second p.first d; second = cond second d p.second }

-- the same bus with another count
abbrev pub counted_bus : Bus → ℕ → Bus
counted_bus p devices = record { devices = devices; first = p.first; second = p.second }

abbrev pub first_address : Bus → ℕ
first_address p = address_of p.first.variant

abbrev pub second_address : Bus → ℕ
second_address p = address_of p.second.variant

-- ---- whom an event names

-- a bus record names the device at its address
abbrev pub at_address_of : Bus → ℕ → Named
at_address_of p address = cond (eqb address (first_address p)) First (cond (eqb address (second_address p)) Second Neither)

-- an alert response names, of the devices that P9 lets answer, the one with the lowest address
unfoldable pub respondent_of : Bus → Named
respondent_of p =
    cond (responds_of p.first && (not (responds_of p.second) || ltb (first_address p) (second_address p))) First
    (cond (responds_of p.second) Second Neither)

-- of two devices: 05 and 06 are conversions of the first, 08 and 09 of the second; 07 restarts both
unfoldable pub among_of : Bus → Event → Named
among_of p (Write address w v) = at_address_of p address
among_of p (Read address r) = at_address_of p address
among_of p (Send address r) = at_address_of p address
among_of p (Receive address) = cond (eqb address alert_response) (respondent_of p) (at_address_of p address)
among_of p (Convert local high low) = First
among_of p (Open local) = First
among_of p PowerOn = Both
among_of p (ConvertSecond local high low) = Second
among_of p (OpenSecond local) = Second

-- of a device alone every event but a second device's is its own; an absent device is never named
unfoldable pub names_of : Bus → Event → Named
names_of p e = cond (two_of p) (among_of p e) (cond (second_of e) Neither First)

-- ---- what an event does

-- the bus after it; acknowledged, conversion taken, reading held, byte read
pub record Done : Type 0 where
  pub bus : Bus
  pub acknowledged : Bool
  pub taken : Bool
  pub held : Bool
  pub byte : ℕ

-- nothing is acknowledged, taken or read
abbrev pub quiet_of : Bus → Done
quiet_of p = record { bus = p; acknowledged = false; taken = false; held = false; byte = 0 }

-- what one device does, the other as it was
abbrev pub done_of : Bus → Bool → Outcome → Done
done_of p second o =
    record { bus = placed_of p second o.device; acknowledged = o.acknowledged; taken = o.taken; held = o.held; byte = o.byte }

-- both as after power-on, each of its variant
abbrev pub restarted_of : Bus → Bus
restarted_of p = record { devices = p.devices; first = powered_of p.first.variant; second = powered_of p.second.variant }

abbrev pub by_named : Bus → Event → Named → Done
by_named p e Neither = quiet_of p
by_named p e First = done_of p false (effect_of p.first e)
by_named p e Second = done_of p true (effect_of p.second e)
by_named p e Both = quiet_of (restarted_of p)

unfoldable pub bus_effect_of : Bus → Event → Done
bus_effect_of p e = by_named p e (names_of p e)

-- ---- the joined lines, and the first answer byte

-- either pulls it
abbrev pub joined_of : Pins → Pins → Pins
joined_of p q = record { alert = p.alert || q.alert; tcrit = p.tcrit || q.tcrit }

-- an absent device pulls neither
unfoldable pub lines_of : Bus → Pins
lines_of p = cond (two_of p) (joined_of (pins_of p.first) (pins_of p.second)) (pins_of p.first)

-- D0 and D1 are the lines as they stand after the event; D2 to D4 speak of the device that the record names
unfoldable pub bus_answer_of : Done → ℕ
bus_answer_of o = first_of (lines_of o.bus) o.acknowledged o.taken o.held

-- an event's two answer bytes, and the bus after it
pub record Answered : Type 0 where
  pub first : ℕ
  pub second : ℕ
  pub bus : Bus

abbrev pub answers_of : Bus → Event → Answered
answers_of p e = record { first = bus_answer_of (bus_effect_of p e); second = (bus_effect_of p e).byte; bus = (bus_effect_of p e).bus }

-- ---- the header that names them

-- the bytes before the record count: the device count and a variant for each device
abbrev pub count_place : Bus → ℕ
count_place p = 1 + p.devices

-- and four bytes of record count
abbrev pub header_length : Bus → ℕ
header_length p = count_place p + 4
