-- Request c, each device by demand 2: the step by value, with its codes, through the events that a device of a bus sees.
-- Assumes nothing.
use Rattle.std.specs.Prelude.{ℕ, ◌≡◌, Bool, true, List, [], ◌∷◌, map}
use Rattle.device.specs.declared.Device.{Device}
use Rattle.device.specs.declared.Event.{Event}
use Rattle.device.specs.Ranges.{variant_of, ranged_of, operands_of, second_of}
use Rattle.device.specs.Run.{Reply, replies_of, after_of}
use Rattle.pair.specs.declared.Bus.{Bus}
use Rattle.pair.specs.Bus.{two_of, picked_of}
use Rattle.pair_laws.specs.Devices.{Two, present_of}
use Rattle.pair_laws.specs.Seen.{Answer, sights_of, seen_of}

-- a device that no step refuses with 8
pub record Able (d : Device) : Type 0 where
  pub known : variant_of d.variant ≡ true
  pub ranged : ranged_of d ≡ true

-- a bus whose devices are so; two have two addresses
pub record Ready (p : Bus) : Type 0 where
  pub able : (second : Bool) → present_of p second ≡ true → Able (picked_of p second)
  pub apart : two_of p ≡ true → Two p

-- events that records read under a device count give: every operand is in the table, and a second device's conversions are under a count of 2
abbrev pub Allowed : ℕ → List Event → Type 0
Allowed devices [] = Unit {0}
Allowed devices (e ∷ es) = (operands_of e ≡ true) × (second_of e ≡ true → devices ≡ 2) × Allowed devices es

-- no step is refused
abbrev pub AllStepped : List Reply → Type 0
AllStepped [] = Unit {0}
AllStepped (r ∷ rs) = (r.code ≡ 0) × AllStepped rs

-- the two answer bytes of each reply
abbrev pub replied_in : List Reply → List Answer
replied_in = map (λ (r : Reply). record { first = r.first; second = r.second })

-- the events that a device of the bus sees, as a device alone has them
abbrev pub seen_in : Bus → Bool → List Event → List Event
seen_in p second es = seen_of (sights_of p second es)

-- a device of the bus, stepped through the events that it sees: each step gives 0, and it ends as this one
pub record Stepped (p : Bus) (second : Bool) (es : List Event) (after : Device) : Type 0 where
  pub codes : AllStepped (replies_of (picked_of p second) (seen_in p second es))
  pub device : after ≡ after_of (picked_of p second) (seen_in p second es)
