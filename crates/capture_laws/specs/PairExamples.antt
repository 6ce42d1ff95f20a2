-- Worked captures of two devices: every code of the header with both its sides, cuts in it, records of the second device; both ends of the ranges.
-- Assumes nothing.
use Rattle.std.specs.Prelude.{ℕ, ◌≡◌, refl, Bool, true, false, List, [], ◌∷◌, map}
use Rattle.registers.specs.Page.{setting_of}
use Rattle.device.specs.declared.Device.{Device}
use Rattle.device.specs.Bus.{powered_of, zero_device}
use Rattle.pair.specs.declared.Bus.{Bus}
use Rattle.capture.specs.declared.Reader.{Reader}
use Rattle.capture.specs.Reader.{Out, fresh_of, with_done, with_carried, hold_of, ranges_of, call_of, finish_of}
use Rattle.capture.specs.Whole.{Whole, heading, whole_of}
use Rattle.capture.specs.Opened.{capture_opened}

-- code, bytes consumed, answers, finishing code, held code; header bytes, record count, records done; carried bytes; device count and both devices, each by
-- its variant and its local T_CRIT, 85 or 105 as after power-on
pub record Told : Type 0 where
  pub codes : List ℕ
  pub answers : List ℕ
  pub places : List ℕ
  pub carried : List ℕ
  pub bus : List ℕ

abbrev pub device_told : Device → List ℕ
device_told d = d.variant ∷ setting_of d.settings 0x20 ∷ []

abbrev pub bus_told : Bus → List ℕ
bus_told p = p.devices ∷ p.first.variant ∷ setting_of p.first.settings 0x20 ∷ p.second.variant ∷ setting_of p.second.settings 0x20 ∷ []

abbrev pub told_of : ℕ → ℕ → List ℕ → ℕ → Reader → Told
told_of code consumed answers finishing s =
    record {
      codes = code ∷ consumed ∷ finishing ∷ s.held ∷ [];
      answers = answers;
      places = s.head ∷ s.count ∷ s.done ∷ [];
      carried = s.carried ∷ s.bytes;
      bus = bus_told s.bus;
    }

pub record Capture : Type 0 where
  pub bytes : List ℕ
  pub told : Told

abbrev given : List ℕ → List ℕ → List ℕ → List ℕ → List ℕ → List ℕ → Capture
given bytes codes answers places carried bus =
    record { bytes = bytes; told = record { codes = codes; answers = answers; places = places; carried = carried; bus = bus } }

abbrev pub captures : List Capture
captures =
    -- device count 1 or 2
    given (0x02 ∷ []) (0 ∷ 1 ∷ 6 ∷ 0 ∷ []) [] (1 ∷ 0 ∷ 0 ∷ [])
    (0 ∷ 0 ∷ 0 ∷ 0 ∷ []) (2 ∷ 0 ∷ 0 ∷ 0 ∷ 0 ∷ []) ∷
    given (0x03 ∷ []) (1 ∷ 0 ∷ 1 ∷ 1 ∷ []) [] (0 ∷ 0 ∷ 0 ∷ [])
    (0 ∷ 0 ∷ 0 ∷ 0 ∷ []) (0 ∷ 0 ∷ 0 ∷ 0 ∷ 0 ∷ []) ∷
    given (0xFF ∷ 0x01 ∷ []) (1 ∷ 0 ∷ 1 ∷ 1 ∷ []) [] (0 ∷ 0 ∷ 0 ∷ [])
    (0 ∷ 0 ∷ 0 ∷ 0 ∷ []) (0 ∷ 0 ∷ 0 ∷ 0 ∷ 0 ∷ []) ∷
    given (0x00 ∷ 0x01 ∷ []) (1 ∷ 0 ∷ 1 ∷ 1 ∷ []) [] (0 ∷ 0 ∷ 0 ∷ [])
    (0 ∷ 0 ∷ 0 ∷ 0 ∷ []) (0 ∷ 0 ∷ 0 ∷ 0 ∷ 0 ∷ []) ∷
    -- a first variant that is not 1, 2 or 3
    given (0x02 ∷ 0x00 ∷ []) (2 ∷ 1 ∷ 2 ∷ 2 ∷ []) [] (1 ∷ 0 ∷ 0 ∷ [])
    (0 ∷ 0 ∷ 0 ∷ 0 ∷ []) (2 ∷ 0 ∷ 0 ∷ 0 ∷ 0 ∷ []) ∷
    given (0x02 ∷ 0x04 ∷ 0x01 ∷ []) (2 ∷ 1 ∷ 2 ∷ 2 ∷ []) [] (1 ∷ 0 ∷ 0 ∷ [])
    (0 ∷ 0 ∷ 0 ∷ 0 ∷ []) (2 ∷ 0 ∷ 0 ∷ 0 ∷ 0 ∷ []) ∷
    -- one that is: the first device stands as after power-on, the second is all zeros
    given (0x02 ∷ 0x01 ∷ []) (0 ∷ 2 ∷ 6 ∷ 0 ∷ []) [] (2 ∷ 0 ∷ 0 ∷ [])
    (0 ∷ 0 ∷ 0 ∷ 0 ∷ []) (2 ∷ 1 ∷ 85 ∷ 0 ∷ 0 ∷ []) ∷
    -- 4D first: the address that a variant of 0 would have is nobody's
    given (0x02 ∷ 0x03 ∷ []) (0 ∷ 2 ∷ 6 ∷ 0 ∷ []) [] (2 ∷ 0 ∷ 0 ∷ [])
    (0 ∷ 0 ∷ 0 ∷ 0 ∷ []) (2 ∷ 3 ∷ 105 ∷ 0 ∷ 0 ∷ []) ∷
    given (0x01 ∷ 0x02 ∷ []) (0 ∷ 2 ∷ 6 ∷ 0 ∷ []) [] (2 ∷ 0 ∷ 0 ∷ [])
    (0 ∷ 0 ∷ 0 ∷ 0 ∷ []) (1 ∷ 2 ∷ 85 ∷ 0 ∷ 0 ∷ []) ∷
    -- a second variant that is not 1, 2 or 3: 2, and not 9
    given (0x02 ∷ 0x01 ∷ 0x00 ∷ []) (2 ∷ 2 ∷ 2 ∷ 2 ∷ []) [] (2 ∷ 0 ∷ 0 ∷ [])
    (0 ∷ 0 ∷ 0 ∷ 0 ∷ []) (2 ∷ 1 ∷ 85 ∷ 0 ∷ 0 ∷ []) ∷
    given (0x02 ∷ 0x02 ∷ 0x00 ∷ []) (2 ∷ 2 ∷ 2 ∷ 2 ∷ []) [] (2 ∷ 0 ∷ 0 ∷ [])
    (0 ∷ 0 ∷ 0 ∷ 0 ∷ []) (2 ∷ 2 ∷ 85 ∷ 0 ∷ 0 ∷ []) ∷
    given (0x02 ∷ 0x03 ∷ 0x04 ∷ 0x01 ∷ []) (2 ∷ 2 ∷ 2 ∷ 2 ∷ []) [] (2 ∷ 0 ∷ 0 ∷ [])
    (0 ∷ 0 ∷ 0 ∷ 0 ∷ []) (2 ∷ 3 ∷ 105 ∷ 0 ∷ 0 ∷ []) ∷
    -- both of one address: 9, which lasts; its byte is not consumed
    given (0x02 ∷ 0x01 ∷ 0x01 ∷ []) (9 ∷ 2 ∷ 9 ∷ 9 ∷ []) [] (2 ∷ 0 ∷ 0 ∷ [])
    (0 ∷ 0 ∷ 0 ∷ 0 ∷ []) (2 ∷ 1 ∷ 85 ∷ 0 ∷ 0 ∷ []) ∷
    given (0x02 ∷ 0x02 ∷ 0x02 ∷ 0x01 ∷ []) (9 ∷ 2 ∷ 9 ∷ 9 ∷ []) [] (2 ∷ 0 ∷ 0 ∷ [])
    (0 ∷ 0 ∷ 0 ∷ 0 ∷ []) (2 ∷ 2 ∷ 85 ∷ 0 ∷ 0 ∷ []) ∷
    given (0x02 ∷ 0x02 ∷ 0x03 ∷ 0x00 ∷ 0x00 ∷ 0x00 ∷ 0x00 ∷ []) (9 ∷ 2 ∷ 9 ∷ 9 ∷ []) [] (2 ∷ 0 ∷ 0 ∷ [])
    (0 ∷ 0 ∷ 0 ∷ 0 ∷ []) (2 ∷ 2 ∷ 85 ∷ 0 ∷ 0 ∷ []) ∷
    given (0x02 ∷ 0x03 ∷ 0x02 ∷ []) (9 ∷ 2 ∷ 9 ∷ 9 ∷ []) [] (2 ∷ 0 ∷ 0 ∷ [])
    (0 ∷ 0 ∷ 0 ∷ 0 ∷ []) (2 ∷ 3 ∷ 105 ∷ 0 ∷ 0 ∷ []) ∷
    -- of two addresses: each stands as after power-on, of its own table
    given (0x02 ∷ 0x01 ∷ 0x02 ∷ []) (0 ∷ 3 ∷ 6 ∷ 0 ∷ []) [] (3 ∷ 0 ∷ 0 ∷ [])
    (0 ∷ 0 ∷ 0 ∷ 0 ∷ []) (2 ∷ 1 ∷ 85 ∷ 2 ∷ 85 ∷ []) ∷
    given (0x02 ∷ 0x01 ∷ 0x03 ∷ []) (0 ∷ 3 ∷ 6 ∷ 0 ∷ []) [] (3 ∷ 0 ∷ 0 ∷ [])
    (0 ∷ 0 ∷ 0 ∷ 0 ∷ []) (2 ∷ 1 ∷ 85 ∷ 3 ∷ 105 ∷ []) ∷
    given (0x02 ∷ 0x03 ∷ 0x01 ∷ []) (0 ∷ 3 ∷ 6 ∷ 0 ∷ []) [] (3 ∷ 0 ∷ 0 ∷ [])
    (0 ∷ 0 ∷ 0 ∷ 0 ∷ []) (2 ∷ 3 ∷ 105 ∷ 1 ∷ 85 ∷ []) ∷
    -- cut in the record count, and complete at seven bytes
    given (0x02 ∷ 0x02 ∷ 0x01 ∷ 0x01 ∷ []) (0 ∷ 4 ∷ 6 ∷ 0 ∷ []) [] (4 ∷ 1 ∷ 0 ∷ [])
    (0 ∷ 0 ∷ 0 ∷ 0 ∷ []) (2 ∷ 2 ∷ 85 ∷ 1 ∷ 85 ∷ []) ∷
    given (0x02 ∷ 0x02 ∷ 0x01 ∷ 0x01 ∷ 0x02 ∷ []) (0 ∷ 5 ∷ 6 ∷ 0 ∷ []) [] (5 ∷ 258 ∷ 0 ∷ [])
    (0 ∷ 0 ∷ 0 ∷ 0 ∷ []) (2 ∷ 2 ∷ 85 ∷ 1 ∷ 85 ∷ []) ∷
    given (0x02 ∷ 0x02 ∷ 0x01 ∷ 0x01 ∷ 0x02 ∷ 0x03 ∷ []) (0 ∷ 6 ∷ 6 ∷ 0 ∷ []) [] (6 ∷ 66051 ∷ 0 ∷ [])
    (0 ∷ 0 ∷ 0 ∷ 0 ∷ []) (2 ∷ 2 ∷ 85 ∷ 1 ∷ 85 ∷ []) ∷
    given (0x02 ∷ 0x02 ∷ 0x01 ∷ 0x01 ∷ 0x02 ∷ 0x03 ∷ 0x04 ∷ []) (0 ∷ 7 ∷ 6 ∷ 0 ∷ []) [] (7 ∷ 16909060 ∷ 0 ∷ [])
    (0 ∷ 0 ∷ 0 ∷ 0 ∷ []) (2 ∷ 2 ∷ 85 ∷ 1 ∷ 85 ∷ []) ∷
    -- no records, and a byte after them
    given (0x02 ∷ 0x01 ∷ 0x02 ∷ 0x00 ∷ 0x00 ∷ 0x00 ∷ 0x00 ∷ []) (0 ∷ 7 ∷ 0 ∷ 0 ∷ []) [] (7 ∷ 0 ∷ 0 ∷ [])
    (0 ∷ 0 ∷ 0 ∷ 0 ∷ []) (2 ∷ 1 ∷ 85 ∷ 2 ∷ 85 ∷ []) ∷
    given (0x02 ∷ 0x01 ∷ 0x02 ∷ 0x00 ∷ 0x00 ∷ 0x00 ∷ 0x00 ∷ 0x08 ∷ []) (5 ∷ 7 ∷ 5 ∷ 5 ∷ []) [] (7 ∷ 0 ∷ 0 ∷ [])
    (0 ∷ 0 ∷ 0 ∷ 0 ∷ []) (2 ∷ 1 ∷ 85 ∷ 2 ∷ 85 ∷ []) ∷
    -- 08 of the second, which alone alerts and answers; cut in the next record
    given (0x02 ∷ 0x01 ∷ 0x02 ∷ 0x00 ∷ 0x00 ∷ 0x00 ∷ 0x03 ∷ 0x08 ∷ 0x4B ∷ 0x00 ∷ 0x00 ∷ 0x04 ∷ 0x0C ∷ 0x00 ∷ 0x00 ∷ 0x09 ∷ 0x19 ∷ [])
    (0 ∷ 17 ∷ 6 ∷ 0 ∷ []) (0x09 ∷ 0x00 ∷ 0x04 ∷ 0x9B ∷ []) (7 ∷ 3 ∷ 2 ∷ [])
    (2 ∷ 9 ∷ 25 ∷ 0 ∷ []) (2 ∷ 1 ∷ 85 ∷ 2 ∷ 85 ∷ []) ∷
    -- 86 is above T_CRIT 85 of the second, and not above 105 of the first; then 09, and 07, which restarts both
    given (0x02 ∷ 0x03 ∷ 0x01 ∷ 0x00 ∷ 0x00 ∷ 0x00 ∷ 0x04 ∷
    0x05 ∷ 0x56 ∷ 0x00 ∷ 0x00 ∷ 0x08 ∷ 0x56 ∷ 0x00 ∷ 0x00 ∷ 0x09 ∷ 0x19 ∷ 0x00 ∷ 0x00 ∷ 0x07 ∷ 0x00 ∷ 0x00 ∷ 0x00 ∷ [])
    (0 ∷ 23 ∷ 0 ∷ 0 ∷ []) (0x09 ∷ 0x00 ∷ 0x0B ∷ 0x00 ∷ 0x0B ∷ 0x00 ∷ 0x00 ∷ 0x00 ∷ []) (7 ∷ 4 ∷ 4 ∷ [])
    (0 ∷ 0 ∷ 0 ∷ 0 ∷ []) (2 ∷ 3 ∷ 105 ∷ 1 ∷ 85 ∷ []) ∷
    -- an operand of 08 or 09 that breaks the table
    given (0x02 ∷ 0x01 ∷ 0x02 ∷ 0x00 ∷ 0x00 ∷ 0x00 ∷ 0x01 ∷ 0x08 ∷ 0x00 ∷ 0x00 ∷ 0x01 ∷ []) (4 ∷ 10 ∷ 4 ∷ 4 ∷ []) [] (7 ∷ 1 ∷ 0 ∷ [])
    (3 ∷ 8 ∷ 0 ∷ 0 ∷ []) (2 ∷ 1 ∷ 85 ∷ 2 ∷ 85 ∷ []) ∷
    given (0x02 ∷ 0x01 ∷ 0x02 ∷ 0x00 ∷ 0x00 ∷ 0x00 ∷ 0x01 ∷ 0x09 ∷ 0x00 ∷ 0x01 ∷ 0x00 ∷ []) (4 ∷ 10 ∷ 4 ∷ 4 ∷ []) [] (7 ∷ 1 ∷ 0 ∷ [])
    (3 ∷ 9 ∷ 0 ∷ 1 ∷ []) (2 ∷ 1 ∷ 85 ∷ 2 ∷ 85 ∷ []) ∷
    -- a kind that is not 01 to 09
    given (0x02 ∷ 0x01 ∷ 0x02 ∷ 0x00 ∷ 0x00 ∷ 0x00 ∷ 0x01 ∷ 0x0A ∷ 0x00 ∷ 0x00 ∷ 0x00 ∷ []) (3 ∷ 10 ∷ 3 ∷ 3 ∷ []) [] (7 ∷ 1 ∷ 0 ∷ [])
    (3 ∷ 10 ∷ 0 ∷ 0 ∷ []) (2 ∷ 1 ∷ 85 ∷ 2 ∷ 85 ∷ []) ∷
    -- under a count of 1 08 and 09 are refused for their kind, a bad operand or not
    given (0x01 ∷ 0x01 ∷ 0x00 ∷ 0x00 ∷ 0x00 ∷ 0x01 ∷ 0x08 ∷ 0x00 ∷ 0x00 ∷ 0x00 ∷ []) (3 ∷ 9 ∷ 3 ∷ 3 ∷ []) [] (6 ∷ 1 ∷ 0 ∷ [])
    (3 ∷ 8 ∷ 0 ∷ 0 ∷ []) (1 ∷ 1 ∷ 85 ∷ 0 ∷ 0 ∷ []) ∷
    given (0x01 ∷ 0x01 ∷ 0x00 ∷ 0x00 ∷ 0x00 ∷ 0x01 ∷ 0x08 ∷ 0x00 ∷ 0x00 ∷ 0x01 ∷ []) (3 ∷ 9 ∷ 3 ∷ 3 ∷ []) [] (6 ∷ 1 ∷ 0 ∷ [])
    (3 ∷ 8 ∷ 0 ∷ 0 ∷ []) (1 ∷ 1 ∷ 85 ∷ 0 ∷ 0 ∷ []) ∷
    given (0x01 ∷ 0x03 ∷ 0x00 ∷ 0x00 ∷ 0x00 ∷ 0x01 ∷ 0x09 ∷ 0x00 ∷ 0x01 ∷ 0x00 ∷ []) (3 ∷ 9 ∷ 3 ∷ 3 ∷ []) [] (6 ∷ 1 ∷ 0 ∷ [])
    (3 ∷ 9 ∷ 0 ∷ 1 ∷ []) (1 ∷ 3 ∷ 105 ∷ 0 ∷ 0 ∷ []) ∷
    -- and no device is at 4D beside an LM89C
    given (0x01 ∷ 0x01 ∷ 0x00 ∷ 0x00 ∷ 0x00 ∷ 0x01 ∷ 0x02 ∷ 0x4D ∷ 0x00 ∷ 0x00 ∷ []) (0 ∷ 10 ∷ 0 ∷ 0 ∷ []) (0x00 ∷ 0x00 ∷ []) (6 ∷ 1 ∷ 1 ∷ [])
    (0 ∷ 0 ∷ 0 ∷ 0 ∷ []) (1 ∷ 1 ∷ 85 ∷ 0 ∷ 0 ∷ []) ∷
    []

abbrev of_whole : Whole → Told
of_whole w = told_of w.code w.consumed w.answers w.finishing w.reader

pub pair_wholes : map (λ (x : Capture). of_whole (whole_of x.bytes)) captures ≡ map (λ (x : Capture). x.told) captures
unfolding capture_opened
pair_wholes = refl

-- the same of a call with room for all
abbrev of_call : Out → Told
of_call o = told_of o.code o.consumed o.answers (finish_of o.reader) o.reader

pub pair_calls : map (λ (x : Capture). of_call (call_of fresh_of x.bytes 8)) captures ≡ map (λ (x : Capture). x.told) captures
unfolding capture_opened
pair_calls = refl

-- ---- a held 9, and short rooms

abbrev clash : Reader
clash = (call_of fresh_of (2 ∷ 2 ∷ 3 ∷ []) 8).reader

abbrev fed : List ℕ → ℕ → List ℕ
fed bytes room = let o = call_of fresh_of bytes room in o.code ∷ o.consumed ∷ o.answers

pub held_nine : map (λ (bytes : List ℕ). let o = call_of clash bytes 8 in o.code ∷ o.consumed ∷ o.reader.held ∷ finish_of o.reader ∷ [])
    ([] ∷ (1 ∷ []) ∷ (3 ∷ 0 ∷ []) ∷ []) ≡ (9 ∷ 0 ∷ 9 ∷ 9 ∷ []) ∷ (9 ∷ 0 ∷ 9 ∷ 9 ∷ []) ∷ (9 ∷ 0 ∷ 9 ∷ 9 ∷ []) ∷ []
unfolding capture_opened
held_nine = refl

-- 08 with room for one byte; 3 and 4 before 7
pub pair_rooms :
    fed (2 ∷ 1 ∷ 2 ∷ 0 ∷ 0 ∷ 0 ∷ 1 ∷ 8 ∷ 0 ∷ 0 ∷ 0 ∷ []) 1 ∷ fed (2 ∷ 1 ∷ 2 ∷ 0 ∷ 0 ∷ 0 ∷ 1 ∷ 8 ∷ 0 ∷ 0 ∷ 0 ∷ []) 2 ∷
    fed (2 ∷ 1 ∷ 2 ∷ 0 ∷ 0 ∷ 0 ∷ 1 ∷ 8 ∷ 0 ∷ 0 ∷ 1 ∷ []) 0 ∷ fed (1 ∷ 1 ∷ 0 ∷ 0 ∷ 0 ∷ 1 ∷ 9 ∷ 0 ∷ 0 ∷ 1 ∷ []) 0 ∷ []
    ≡ (7 ∷ 10 ∷ []) ∷ (0 ∷ 11 ∷ 8 ∷ 0 ∷ []) ∷ (4 ∷ 10 ∷ []) ∷ (3 ∷ 9 ∷ []) ∷ []
unfolding capture_opened
pair_rooms = refl

-- ---- ranges

abbrev at : ℕ → ℕ → ℕ → ℕ → ℕ → ℕ → Device → Reader
at devices head count done carried held second =
    hold_of (with_carried (with_done (heading head count (record { devices = devices; first = powered_of 1; second = second })) done)
    carried (0 ∷ 0 ∷ 0 ∷ [])) held

pub record Ended : Type 0 where
  pub reader : Reader
  pub within : Bool

-- of two devices, an LM89C and an LM89-1C; of an LM89C and a second that is not taken; of an LM89C alone
abbrev two : ℕ → ℕ → ℕ → ℕ → ℕ → Bool → Ended
two head count done carried held within = record { reader = at 2 head count done carried held (powered_of 2); within = within }

abbrev begun : ℕ → ℕ → ℕ → ℕ → ℕ → Bool → Ended
begun head count done carried held within = record { reader = at 2 head count done carried held zero_device; within = within }

abbrev one : ℕ → ℕ → ℕ → ℕ → ℕ → Bool → Ended
one head count done carried held within = record { reader = at 1 head count done carried held zero_device; within = within }

abbrev pub ends : List Ended
ends =
    -- header bytes at most 7 with 2, 6 with 1
    two 7 2 1 0 0 true ∷
    two 8 2 0 0 0 false ∷
    one 6 2 1 0 0 true ∷
    one 7 2 0 0 0 false ∷
    -- the record count below 256 to the power of the header bytes less 1 and less the devices
    begun 2 0 0 0 0 true ∷
    begun 2 1 0 0 0 false ∷
    two 3 0 0 0 0 true ∷
    two 3 1 0 0 0 false ∷
    two 4 255 0 0 0 true ∷
    two 4 256 0 0 0 false ∷
    two 5 65535 0 0 0 true ∷
    two 5 65536 0 0 0 false ∷
    two 6 16777215 0 0 0 true ∷
    two 6 16777216 0 0 0 false ∷
    two 7 4294967295 0 0 0 true ∷
    one 1 1 0 0 0 false ∷
    one 3 255 0 0 0 true ∷
    one 3 256 0 0 0 false ∷
    -- none done and none carried before the header is complete
    two 6 2 1 0 0 false ∷
    two 6 2 0 1 0 false ∷
    two 7 2 0 1 0 true ∷
    two 7 2 2 1 0 false ∷
    two 7 2 2 0 0 true ∷
    two 7 2 3 0 0 false ∷
    -- a held code of 0 to 5 and 9, matched against nothing else
    two 7 2 1 0 5 true ∷
    two 7 2 1 0 6 false ∷
    two 7 2 1 0 7 false ∷
    two 7 2 1 0 8 false ∷
    two 7 2 1 0 9 true ∷
    two 7 2 1 0 10 false ∷
    begun 2 0 0 0 9 true ∷
    one 6 2 1 0 9 true ∷
    one 6 2 1 0 8 false ∷
    []

pub pair_ends : map (λ (e : Ended). ranges_of e.reader) ends ≡ map (λ (e : Ended). e.within) ends
unfolding capture_opened
pair_ends = refl
