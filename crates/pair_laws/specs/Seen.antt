-- Request c, each device alone: the events that a device of a bus sees, what it does of them by the one-device definition, and the bus's run.
-- Assumes nothing.
use Rattle.std.specs.Prelude.{ℕ, Bool, not, ◌||◌, ◌&&◌, cond, List, [], ◌∷◌, map}
use Rattle.std.specs.Int.Bits.{bit_or}
use Rattle.device.specs.declared.Device.{Device}
use Rattle.device.specs.declared.Outcome.{Outcome}
use Rattle.device.specs.declared.Event.{Event}
use Rattle.device.specs.declared.Event.TheVariants.{Write, Read, Send, Receive, Convert, Open, PowerOn, ConvertSecond, OpenSecond}
use Rattle.device.specs.Pins.{pins_of, first_of}
use Rattle.device.specs.Bus.{silent_of}
use Rattle.device.specs.Step.{effect_of, answer_of}
use Rattle.pair.specs.declared.Bus.{Bus}
use Rattle.pair.specs.Bus.{joined_of, names_of, Done, bus_effect_of, bus_answer_of}
use Rattle.pair_laws.specs.Devices.{is_named, conversion_of, is_alert_response}

-- ---- one event

-- a device sees every event but the other's conversions, and an alert response only where it is named
abbrev pub sees_of : Bus → Bool → Event → Bool
sees_of p second e = not (conversion_of (not second) e) && (not (is_alert_response e) || is_named (names_of p e) second)

-- 08 and 09 are 05 and 06 for the second device
abbrev pub as_alone : Event → Event
as_alone (Write a w v) = Write a w v
as_alone (Read a r) = Read a r
as_alone (Send a r) = Send a r
as_alone (Receive a) = Receive a
as_alone (Convert local high low) = Convert local high low
as_alone (Open local) = Open local
as_alone PowerOn = PowerOn
as_alone (ConvertSecond local high low) = Convert local high low
as_alone (OpenSecond local) = Open local

-- an event of kinds 01 to 07, and whether the device sees it
pub record Sight : Type 0 where
  pub seen : Bool
  pub event : Event

abbrev pub sight_of : Bus → Bool → Event → Sight
sight_of p second e = record { seen = sees_of p second e; event = as_alone e }

-- what a device alone does of an event that it sees; of another, nothing
abbrev pub does_of : Device → Sight → Outcome
does_of d s = cond s.seen (effect_of d s.event) (silent_of d)

-- what two devices do, on one bus
abbrev pub together_of : ℕ → Outcome → Outcome → Done
together_of devices o q =
    record {
      bus = record { devices = devices; first = o.device; second = q.device };
      acknowledged = o.acknowledged || q.acknowledged;
      taken = o.taken || q.taken;
      held = o.held || q.held;
      byte = bit_or o.byte q.byte;
    }

-- ---- rows of events, of the bus

abbrev pub bus_after : Bus → List Event → Bus
bus_after p [] = p
bus_after p (e ∷ es) = bus_after (bus_effect_of p e).bus es

abbrev pub done_in : Bus → List Event → List Done
done_in p [] = []
done_in p (e ∷ es) = bus_effect_of p e ∷ done_in (bus_effect_of p e).bus es

-- what a device of the bus sees
abbrev pub sights_of : Bus → Bool → List Event → List Sight
sights_of p second [] = []
sights_of p second (e ∷ es) = sight_of p second e ∷ sights_of (bus_effect_of p e).bus second es

-- ---- rows of events, of a device alone

abbrev pub device_after : Device → List Event → Device
device_after d [] = d
device_after d (e ∷ es) = device_after (effect_of d e).device es

abbrev pub outcomes_in : Device → List Event → List Outcome
outcomes_in d [] = []
outcomes_in d (e ∷ es) = effect_of d e ∷ outcomes_in (effect_of d e).device es

-- one outcome for each event, seen or not
abbrev pub does_in : Device → List Sight → List Outcome
does_in d [] = []
does_in d (s ∷ ss) = does_of d s ∷ does_in (does_of d s).device ss

-- ---- what is seen

module _ {A : Type 0} where
  -- of a row beside what is seen, the entries where it is seen
  abbrev pub where_seen : List Sight → List A → List A
  where_seen [] xs = []
  where_seen (s ∷ ss) [] = []
  where_seen (s ∷ ss) (x ∷ xs) = cond s.seen (x ∷ where_seen ss xs) (where_seen ss xs)

-- the events that are seen
abbrev pub seen_of : List Sight → List Event
seen_of ss = where_seen ss (map (λ (s : Sight). s.event) ss)

-- ---- joined

abbrev pub together_in : ℕ → List Outcome → List Outcome → List Done
together_in devices [] qs = []
together_in devices (o ∷ os) [] = []
together_in devices (o ∷ os) (q ∷ qs) = together_of devices o q ∷ together_in devices os qs

-- the two answer bytes of a record
pub record Answer : Type 0 where
  pub first : ℕ
  pub second : ℕ

abbrev pub answer_in : Done → Answer
answer_in o = record { first = bus_answer_of o; second = o.byte }

abbrev pub bus_answers : Bus → List Event → List Answer
bus_answers p es = map answer_in (done_in p es)

-- of a device alone
abbrev pub alone_answers : Device → List Event → List Answer
alone_answers d es = map (λ (o : Outcome). record { first = answer_of o; second = o.byte }) (outcomes_in d es)

-- of two devices: the lines of both as they stand after the event, joined; acknowledged, taken and held by either; the byte of either
abbrev pub joined_answer : Outcome → Outcome → Answer
joined_answer o q =
    record {
      first = first_of (joined_of (pins_of o.device) (pins_of q.device)) (o.acknowledged || q.acknowledged) (o.taken || q.taken) (o.held || q.held);
      second = bit_or o.byte q.byte;
    }

abbrev pub joined_answers : List Outcome → List Outcome → List Answer
joined_answers [] qs = []
joined_answers (o ∷ os) [] = []
joined_answers (o ∷ os) (q ∷ qs) = joined_answer o q ∷ joined_answers os qs
