-- The bus and the events of a capture, in order; and what doing them one after the other, from power-on, has to do with the whole capture.
-- Assumes nothing.
use Rattle.std.specs.Prelude.{ℕ, ◌≡◌, Bool, true, false, cond, ◌||◌, List, [], ◌∷◌, eqb, length, take}
use Rattle.registers.specs.Page.{address_of}
use Rattle.device.specs.declared.Event.{Event}
use Rattle.device.specs.Ranges.{variant_of}
use Rattle.device.specs.Run.{replies_of}
use Rattle.record.specs.Fours.{quads, events_in}
use Rattle.pair.specs.declared.Bus.{Bus}
use Rattle.pair.specs.Bus.{zero_bus, two_of, picked_of}
use Rattle.pair_laws.specs.Devices.{present_of}
use Rattle.pair_laws.specs.Seen.{Answer, bus_answers, bus_after}
use Rattle.pair_laws.specs.Stepping.{replied_in, Stepped}
use Rattle.capture.specs.Whole.{first_taken, both_of, none_of, whole_of}
use Rattle.capture_laws.specs.Codes.{Header, count_header}
use Rattle.capture_laws.specs.Codes.Header.{bad_count, bad_variant, bad_address, unfinished, complete}

-- ---- the events

-- behind a header: of the complete records, those that are counted
abbrev pub events_behind : Header → List Event
events_behind bad_count = []
events_behind bad_variant = []
events_behind bad_address = []
events_behind unfinished = []
events_behind (complete devices n xs) = events_in devices (take n (quads xs))

-- of a capture: its complete, counted, valid records up to the first refused one
unfoldable pub events_of : List ℕ → List Event
events_of xs = events_behind (count_header xs)

-- ---- the bus

-- the second variant that a capture gives, behind the first; none where it is refused
abbrev pub second_in : ℕ → List ℕ → List ℕ
second_in first [] = []
second_in first (v ∷ xs) = cond (variant_of v) (cond (eqb (address_of v) (address_of first)) [] (v ∷ [])) []

-- the variants that a capture gives its devices
unfoldable pub variants_in : List ℕ → List ℕ
variants_in [] = []
variants_in (n ∷ []) = []
variants_in (n ∷ v ∷ xs) = cond (eqb n 1 || eqb n 2) (cond (variant_of v) (v ∷ cond (eqb n 2) (second_in v xs) []) []) []

-- a bus of these variants, under a device count: each device as after power-on, the others all zeros
abbrev pub bus_of : ℕ → List ℕ → Bus
bus_of devices [] = none_of devices
bus_of devices (v ∷ []) = first_taken devices v
bus_of devices (v ∷ w ∷ vs) = both_of v w

-- the bus at a capture's variant bytes; no device where its count is not taken
unfoldable pub bus_in : List ℕ → Bus
bus_in [] = zero_bus
bus_in (n ∷ xs) = cond (eqb n 1 || eqb n 2) (bus_of n (variants_in (n ∷ xs))) zero_bus

-- ---- doing them

-- the two answer bytes of each record
abbrev pub answered_bytes : List Answer → List ℕ
answered_bytes [] = []
answered_bytes (a ∷ more) = a.first ∷ a.second ∷ answered_bytes more

-- a capture's events, done from power-on: the answers and the bus are the capture's, as many as the records done; each device by itself is
-- stepped through what it sees; and a device alone replies what the capture answers
pub record StepByStep (xs : List ℕ) : Type 0 where
  pub answers : (whole_of xs).answers ≡ answered_bytes (bus_answers (bus_in xs) (events_of xs))
  pub bus : (whole_of xs).reader.bus ≡ bus_after (bus_in xs) (events_of xs)
  pub done : (whole_of xs).reader.done ≡ length (events_of xs)
  pub each : (second : Bool) → present_of (bus_in xs) second ≡ true
      → Stepped (bus_in xs) second (events_of xs) (picked_of (whole_of xs).reader.bus second)
  pub alone : two_of (bus_in xs) ≡ false → (whole_of xs).answers ≡ answered_bytes (replied_in (replies_of (bus_in xs).first (events_of xs)))
