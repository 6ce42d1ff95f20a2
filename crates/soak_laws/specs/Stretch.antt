-- Request f: the words in which its sentences are stated. A stretch's records, those read, what they decide, and which code is given when.
-- Assumes nothing.
use Rattle.std.specs.Prelude.{ℕ, suc, ◌%◌, ◌≤◌, ◌≡◌, true, false, ◌&&◌, List, [], ◌∷◌, reverse, length, take, drop}
use Rattle.conversion.specs.Channels.{Channel}
use Rattle.device.specs.declared.Device.{Device}
use Rattle.device.specs.declared.Event.{Event}
use Rattle.device.specs.Bus.{standby_of}
use Rattle.device.specs.Ranges.{variant_of, ranged_of}
use Rattle.device.specs.Run.{Reply}
use Rattle.std.specs.Prelude.{Err}
use Rattle.record.specs.declared.refusal.Refusal.{Refusal}
use Rattle.record.specs.declared.refusal.Refusal.TheVariants.{Kind, Operand}
use Rattle.record.specs.Record.{code_of}
use Rattle.record.specs.Fours.{Quad, quads, events_in}
use Rattle.soak.specs.Soak.{Running, met_of, latest_first, Decided, soak_of}

-- ---- a stretch

-- its length is a multiple of four
abbrev pub Whole : List ℕ → Type 0
Whole records = length records % 4 ≡ 0

-- each record is a valid 05 or 06
abbrev pub AllConversions : List Quad → Type 0
AllConversions [] = Unit {0}
AllConversions (q ∷ qs) = (code_of (met_of q) ≡ 0) × AllConversions qs

-- its latest j records, the latest first; all of them where there are fewer
abbrev pub latest_records : ℕ → List ℕ → List Quad
latest_records j records = take j (latest_first records)

-- the events of its latest j records, in order, if each of them is valid
abbrev pub latest : ℕ → List ℕ → List Event
latest j records = events_in 1 (reverse (latest_records j records))

-- the events of all its records, in order, if each of them is valid
abbrev pub events_of : List ℕ → List Event
events_of records = events_in 1 (quads records)

-- the first byte of the last of some answers
abbrev pub last_first : List Reply → ℕ
last_first [] = 0
last_first (r ∷ []) = r.first
last_first (r ∷ s ∷ rs) = last_first (s ∷ rs)

-- ---- what the latest records decide

-- both channels are decided by these events
pub record BothDecided (d : Device) (read : List Event) : Type 0 where
  pub each : (ch : Channel) → Decided ch d read

-- the latest j records are valid, and decide both channels
pub record Enough (d : Device) (records : List ℕ) (j : ℕ) : Type 0 where
  pub conversions : AllConversions (latest_records j records)
  pub decided : BothDecided d (latest j records)

-- the latest j records are valid, and do not decide this channel
pub record TooFew (d : Device) (records : List ℕ) (j : ℕ) : Type 0 where
  pub conversions : AllConversions (latest_records j records)
  pub channel : Channel
  pub undecided : Decided channel d (latest j records) → ⊥

-- ---- which code is given, and exactly when

-- in its ranges, in run mode, of whole records: no 8, no 10 and no 4 for the length
pub record Readable (d : Device) (records : List ℕ) : Type 0 where
  pub running : Running d
  pub whole : Whole records

-- the reading meets this record: so many later ones are read, and neither they nor fewer of them are enough
pub record Meets (d : Device) (records : List ℕ) (q : Quad) : Type 0 where
  pub later : ℕ
  pub earlier : List Quad
  pub there : drop later (latest_first records) ≡ q ∷ earlier
  pub too_few : (j : ℕ) → j ≤ later → TooFew d records j

-- the reading ends at a record that it meets and refuses, which is counted among those read
pub record RefusedAt (d : Device) (records : List ℕ) : Type 0 where
  pub met : Quad
  pub meets : Meets d records met
  pub why : Refusal
  pub refusal : met_of met ≡ Err why
  pub code : (soak_of d records).code ≡ code_of (Err why)
  pub read : (soak_of d records).read ≡ suc meets.later

pub data Gives (d : Device) (records : List ℕ) : ℕ → Type 0 where
  -- 8: the state handed in is out of its ranges, or has no variant
  state : (variant_of d.variant && ranged_of d) ≡ false → Gives d records 8
  -- 10: it is in standby
  asleep : (variant_of d.variant && ranged_of d) ≡ true → standby_of d.settings ≡ true → Gives d records 10
  -- 4: the length is no multiple of four
  uneven : Running d → (Whole records → ⊥) → Gives d records 4
  -- 3: the first record met that is no valid 05 or 06 is of another kind
  kind : Readable d records → (q : Quad) → Meets d records q → met_of q ≡ Err Kind → Gives d records 3
  -- 4: it is a 05 or 06 that breaks the table
  operand : Readable d records → (q : Quad) → Meets d records q → met_of q ≡ Err Operand → Gives d records 4
  -- 0: none of the others applies
  answered : Readable d records → ((q : Quad) → Meets d records q → code_of (met_of q) ≡ 0) → Gives d records 0

-- ---- what is not read

-- reading a stretch that ends so stops in it, whatever stands before: it is refused, or its records decide both channels
pub data Stops (d : Device) (tail : List ℕ) : Type 0 where
  refuses : ((soak_of d tail).code ≡ 0 → ⊥) → Stops d tail
  decides : AllConversions (quads tail) → BothDecided d (events_of tail) → Stops d tail
