-- A capture made with the writers of `record`: it is read back as its events, and every accepted capture is one.
-- Assumes nothing.
use Rattle.std.specs.Prelude.{ℕ, ◌<◌, ◌≡◌, true, false, List, [], ◌∷◌, ◌++◌, eqb, length}
use Rattle.registers.specs.Page.{address_of}
use Rattle.device.specs.declared.Event.{Event}
use Rattle.device.specs.Ranges.{variant_of}
use Rattle.record.specs.Record.{encode_of}
use Rattle.record.specs.Writer.{header_of}
use Rattle.pair_laws.specs.Seen.{bus_answers, bus_after}
use Rattle.pair_laws.specs.Stepping.{Allowed}
use Rattle.capture.specs.Whole.{whole_of}
use Rattle.capture_laws.specs.Events.{events_of, variants_in, bus_of, answered_bytes}

-- one record after the other
abbrev pub records_bytes : List Event → List ℕ
records_bytes [] = []
records_bytes (e ∷ es) = encode_of e ++ records_bytes es

-- the header of some variants with the events' count, and their records
abbrev pub capture_of : List ℕ → List Event → List ℕ
capture_of variants es = header_of variants (length es) ++ records_bytes es

-- the variants of one device, or of two that have two addresses
pub data Sound : List ℕ → Type 0 where
  one : {v : ℕ} → variant_of v ≡ true → Sound (v ∷ [])
  two : {v w : ℕ} → variant_of v ≡ true → variant_of w ≡ true → eqb (address_of w) (address_of v) ≡ false → Sound (v ∷ w ∷ [])

-- the written capture is read to its end, as its variants and its events, with the answers and the bus of doing them from power-on
pub record ReadBack (variants : List ℕ) (es : List Event) : Type 0 where
  pub code : (whole_of (capture_of variants es)).code ≡ 0
  pub finishing : (whole_of (capture_of variants es)).finishing ≡ 0
  pub consumed : (whole_of (capture_of variants es)).consumed ≡ length (capture_of variants es)
  pub variants_read : variants_in (capture_of variants es) ≡ variants
  pub events : events_of (capture_of variants es) ≡ es
  pub answers : (whole_of (capture_of variants es)).answers ≡ answered_bytes (bus_answers (bus_of (length variants) variants) es)
  pub bus : (whole_of (capture_of variants es)).reader.bus ≡ bus_after (bus_of (length variants) variants) es

-- a capture that is accepted is the one written for its variants and its events
pub record WrittenBack (xs : List ℕ) : Type 0 where
  pub variants : Sound (variants_in xs)
  pub allowed : Allowed (length (variants_in xs)) (events_of xs)
  -- as many as the record count, which four bytes hold
  pub count : length (events_of xs) ≡ (whole_of xs).reader.count
  pub small : length (events_of xs) < 0x100000000
  pub same : xs ≡ capture_of (variants_in xs) (events_of xs)
