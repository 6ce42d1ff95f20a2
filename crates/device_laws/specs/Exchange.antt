-- Rows of worked examples: an event beside the code and the two answer bytes of a step, one after the other from power-on.
-- Assumes nothing.
use Rattle.std.specs.Prelude.{ℕ, ◌≡◌, List, map}
use Rattle.device.specs.declared.Event.{Event}
use Rattle.device.specs.Bus.{powered_of}
use Rattle.device.specs.Run.{Reply, replies_of}

pub record Exchange : Type 0 where
  pub event : Event
  pub code : ℕ
  pub first : ℕ
  pub second : ℕ

-- code 0 and two answer bytes
abbrev pub does : Event → ℕ → ℕ → Exchange
does event first second = record { event = event; code = 0; first = first; second = second }

-- this code and answer bytes 0
abbrev pub refuses : Event → ℕ → Exchange
refuses event code = record { event = event; code = code; first = 0; second = 0 }

abbrev pub events_in : List Exchange → List Event
events_in xs = map (λ (x : Exchange). x.event) xs

abbrev pub replies_in : List Exchange → List Reply
replies_in xs = map (λ (x : Exchange). record { code = x.code; first = x.first; second = x.second }) xs

pub record Row : Type 0 where
  pub variant : ℕ
  pub exchanges : List Exchange

abbrev pub row : ℕ → List Exchange → Row
row variant exchanges = record { variant = variant; exchanges = exchanges }

-- each step replies as its row says: code and both answer bytes
abbrev pub Worked : List Row → Type 0
Worked rows =
    map (λ (r : Row). replies_of (powered_of r.variant) (events_in r.exchanges)) rows ≡ map (λ (r : Row). replies_in r.exchanges) rows
