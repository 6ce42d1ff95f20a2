-- Records by fours: a byte string's complete records and the bytes over, what they read as under a device count, and their events in order.
-- Assumes nothing.
use Rattle.std.specs.Prelude.{ℕ, List, [], ◌∷◌}
use Rattle.device.specs.declared.Event.{Event}
use Rattle.record.specs.Record.{Record}
use Rattle.std.specs.Prelude.{Ok, Err}
use Rattle.record.specs.Record.{decode_of}

-- kind, a, b, c
pub record Quad : Type 0 where
  pub kind : ℕ
  pub a : ℕ
  pub b : ℕ
  pub c : ℕ

-- the complete records of a byte string, and the bytes over
abbrev pub quads : List ℕ → List Quad
quads [] = []
quads (k ∷ []) = []
quads (k ∷ a ∷ []) = []
quads (k ∷ a ∷ b ∷ []) = []
quads (k ∷ a ∷ b ∷ c ∷ xs) = record { kind = k; a = a; b = b; c = c } ∷ quads xs

abbrev pub over : List ℕ → List ℕ
over [] = []
over (k ∷ []) = k ∷ []
over (k ∷ a ∷ []) = k ∷ a ∷ []
over (k ∷ a ∷ b ∷ []) = k ∷ a ∷ b ∷ []
over (k ∷ a ∷ b ∷ c ∷ xs) = over xs

-- read under a device count
abbrev pub quad_of : ℕ → Quad → Record
quad_of devices q = decode_of devices q.kind q.a q.b q.c

-- ---- their events

-- of a record and of those behind it: none from the first refused one on
abbrev pub event_then : Record → List Event → List Event
event_then (Ok e) es = e ∷ es
event_then (Err why) es = []

-- of records in order, under a device count, up to the first refused one
abbrev pub events_in : ℕ → List Quad → List Event
events_in devices [] = []
events_in devices (q ∷ qs) = event_then (quad_of devices q) (events_in devices qs)
