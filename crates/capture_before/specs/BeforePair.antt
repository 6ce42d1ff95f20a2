-- What a whole capture gave before request c, in the words of that time: one device, a header and a state with no device count, kinds 01 to 07.
-- Copied word for word, and nothing that `whole_of` does not need: of crate record Record up to `decode_of`; of crate capture Sensor without its ranges,
-- of Reader the state and its changes, and Whole. Changed are only these: the four files stand in one, each under a ruled line of its name, with one
-- list of imports; the state, whose type was the program's own, is the record `Reader`. The device, its events and what they do are those of `device`:
-- its events of request c come of no record here, so what it does of them is never asked for.
-- Assumes nothing.
use Rattle.std.specs.Prelude.{ℕ, ◌+◌, ◌*◌, Bool, cond, List, [], ◌∷◌, ◌++◌, map, length, take, ltb, eqb}
use Rattle.device.specs.declared.Device.{Device}
use Rattle.device.specs.declared.Outcome.{Outcome}
use Rattle.device.specs.declared.Event.{Event}
use Rattle.device.specs.declared.Event.TheVariants.{Write, Read, Send, Receive, Convert, Open, PowerOn}
use Rattle.device.specs.Bus.{powered_of, zero_device}
use Rattle.device.specs.Ranges.{all_true, variant_of, operands_of}
use Rattle.device.specs.Step.{effect_of, answer_of}
use Rattle.record.specs.Record.{Record}
use Rattle.std.specs.Prelude.{Ok, Err}
use Rattle.record.specs.declared.refusal.Refusal.TheVariants.{Kind, Operand}

-- ---- from crate record: Record

-- the codes of the cases: 3 for a kind that is not 01 to 07, 4 for an operand that breaks the table
unfoldable pub code_of : Record → ℕ
code_of (Ok e) = 0
code_of (Err Kind) = 3
code_of (Err Operand) = 4

-- the event, if its operands are good
abbrev pub admit_of : Bool → Event → Record
admit_of good e = cond good (Ok e) (Err Operand)

-- the operands that an event has are in the table, and the others are 0
abbrev pub good_of : Event → List ℕ → Bool
good_of e others = all_true (operands_of e ∷ map (λ x. eqb x 0) others)

-- the table of kinds
unfoldable pub decode_of : ℕ → ℕ → ℕ → ℕ → Record
decode_of kind a b c =
    cond (eqb kind 0x01) (admit_of (good_of (Write a b c) []) (Write a b c))
    (cond (eqb kind 0x02) (admit_of (good_of (Read a b) (c ∷ [])) (Read a b))
    (cond (eqb kind 0x03) (admit_of (good_of (Send a b) (c ∷ [])) (Send a b))
    (cond (eqb kind 0x04) (admit_of (good_of (Receive a) (b ∷ c ∷ [])) (Receive a))
    (cond (eqb kind 0x05) (admit_of (good_of (Convert a b c) []) (Convert a b c))
    (cond (eqb kind 0x06) (admit_of (good_of (Open a) (b ∷ c ∷ [])) (Open a))
    (cond (eqb kind 0x07) (admit_of (good_of PowerOn (a ∷ b ∷ c ∷ [])) PowerOn)
    (Err Kind)))))))

-- ---- from crate capture: Sensor

abbrev pub Sensor : Type 0
Sensor = Device

-- all zeros
abbrev pub zero_sensor : Sensor
zero_sensor = zero_device

-- ---- the header

-- the device count, which is 1
abbrev pub devices_of : Sensor → ℕ
devices_of sensor = 1

-- the bytes before the record count: the device count and a variant for each device
abbrev pub count_place : Sensor → ℕ
count_place sensor = 1 + devices_of sensor

-- and four bytes of record count
abbrev pub header_length : Sensor → ℕ
header_length sensor = count_place sensor + 4

-- ---- the device

-- at its variant byte the device stands as after power-on
abbrev pub sensor_powered : ℕ → Sensor
sensor_powered variant = powered_of variant

-- an event's two answer bytes, and the device after it
pub record Answered : Type 0 where
  pub first : ℕ
  pub second : ℕ
  pub sensor : Sensor

abbrev pub answer_bytes : Outcome → Answered
answer_bytes o = record { first = answer_of o; second = o.byte; sensor = o.device }

abbrev pub sensor_effect : Sensor → Event → Answered
sensor_effect sensor e = answer_bytes (effect_of sensor e)

-- ---- from crate capture: Reader

-- ---- the state

-- header bytes taken, record count so far, records done, record bytes carried, a lasting code or 0, and the device
pub record Reader : Type 0 where
  pub head : ℕ
  pub count : ℕ
  pub done : ℕ
  pub carried : ℕ
  pub bytes : List ℕ
  pub held : ℕ
  pub device : Sensor

abbrev pub no_bytes : List ℕ
no_bytes = 0 ∷ 0 ∷ 0 ∷ []

-- a fresh state is all zeros
abbrev pub fresh_of : Reader
fresh_of = record { head = 0; count = 0; done = 0; carried = 0; bytes = no_bytes; held = 0; device = zero_sensor }

-- ---- the same state with one thing changed

-- so many header bytes taken
abbrev pub with_head : Reader → ℕ → Reader
with_head s head =
    record { head = head; count = s.count; done = s.done; carried = s.carried; bytes = s.bytes; held = s.held; device = s.device }

-- this record count
abbrev pub with_count : Reader → ℕ → Reader
with_count s count =
    record { head = s.head; count = count; done = s.done; carried = s.carried; bytes = s.bytes; held = s.held; device = s.device }

-- so many records done
abbrev pub with_done : Reader → ℕ → Reader
with_done s done =
    record { head = s.head; count = s.count; done = done; carried = s.carried; bytes = s.bytes; held = s.held; device = s.device }

-- so many bytes of a record carried, and their three places
abbrev pub with_carried : Reader → ℕ → List ℕ → Reader
with_carried s carried bytes =
    record { head = s.head; count = s.count; done = s.done; carried = carried; bytes = bytes; held = s.held; device = s.device }

-- holding a lasting code
abbrev pub hold_of : Reader → ℕ → Reader
hold_of s code =
    record { head = s.head; count = s.count; done = s.done; carried = s.carried; bytes = s.bytes; held = code; device = s.device }

-- this device
abbrev pub with_device : Reader → Sensor → Reader
with_device s sensor =
    record { head = s.head; count = s.count; done = s.done; carried = s.carried; bytes = s.bytes; held = s.held; device = sensor }

-- ---- from crate capture: Whole

-- ---- a capture's result

-- code, bytes consumed, answers, end state, and what asking to finish gives
pub record Whole : Type 0 where
  pub code : ℕ
  pub consumed : ℕ
  pub answers : List ℕ
  pub reader : Reader
  pub finishing : ℕ

-- the bytes end here
abbrev pub ends_of : Reader → ℕ → Whole
ends_of s finishing = record { code = 0; consumed = 0; answers = []; reader = s; finishing = finishing }

-- a byte is refused here, with a lasting code
abbrev pub refuses_of : Reader → ℕ → Whole
refuses_of s code = record { code = code; consumed = 0; answers = []; reader = hold_of s code; finishing = code }

-- n bytes and some answers, and then the rest
abbrev pub then_of : ℕ → List ℕ → Whole → Whole
then_of n answers w = record { code = w.code; consumed = n + w.consumed; answers = answers ++ w.answers; reader = w.reader; finishing = w.finishing }

-- ---- states by section

-- in the header, so many bytes of it taken
abbrev pub heading : ℕ → ℕ → Sensor → Reader
heading head count sensor = with_head (with_count (with_device fresh_of sensor) count) head

-- in the records, k of n done, with some bytes of the next one
abbrev pub recording : ℕ → ℕ → Sensor → List ℕ → Reader
recording n k sensor l = with_carried (with_done (heading (header_length sensor) n sensor) k) (length l) (take 3 (l ++ no_bytes))

-- ---- the records

-- kind, a, b, c
pub record Quad : Type 0 where
  pub kind : ℕ
  pub a : ℕ
  pub b : ℕ
  pub c : ℕ

-- the complete records of a byte string, and the bytes over
abbrev pub quads : List ℕ → List Quad
quads [] = []
quads (k ∷ []) = []
quads (k ∷ a ∷ []) = []
quads (k ∷ a ∷ b ∷ []) = []
quads (k ∷ a ∷ b ∷ c ∷ xs) = record { kind = k; a = a; b = b; c = c } ∷ quads xs

abbrev pub over : List ℕ → List ℕ
over [] = []
over (k ∷ []) = k ∷ []
over (k ∷ a ∷ []) = k ∷ a ∷ []
over (k ∷ a ∷ b ∷ []) = k ∷ a ∷ b ∷ []
over (k ∷ a ∷ b ∷ c ∷ xs) = over xs

abbrev pub quad_of : Quad → Record
quad_of q = decode_of q.kind q.a q.b q.c

-- an event is stepped; a refused record is told by its code
abbrev pub on_record : Record → (Event → Whole) → (ℕ → Whole) → Whole
on_record (Ok e) step refuse = step e
on_record (Err why) step refuse = refuse (code_of (Err why))

-- the records in order, then the bytes over, k of n done; a refused record leaves its first three bytes consumed and carried; 5 for a
-- byte past the last counted record; the finishing code is 0 at the
-- counted end exactly
unfoldable pub records_of : ℕ → ℕ → Sensor → List Quad → List ℕ → Whole
records_of n k sensor [] [] = ends_of (recording n k sensor []) (cond (eqb k n) 0 6)
records_of n k sensor [] (x ∷ l) =
    cond (ltb k n) (then_of (length (x ∷ l)) [] (ends_of (recording n k sensor (x ∷ l)) 6)) (refuses_of (recording n k sensor []) 5)
records_of n k sensor (q ∷ qs) l =
    cond (ltb k n)
    (on_record (quad_of q)
    (λ e. then_of 4 ((sensor_effect sensor e).first ∷ (sensor_effect sensor e).second ∷ []) (records_of n (k + 1) (sensor_effect sensor e).sensor qs l))
    (λ code. then_of 3 [] (refuses_of (recording n k sensor (q.kind ∷ q.a ∷ q.b ∷ [])) code)))
    (refuses_of (recording n k sensor []) 5)

-- ---- the header

-- a number of some bytes, highest first
abbrev pub number : ℕ → List ℕ → ℕ
number n [] = n
number n (b ∷ bs) = number (n * 256 + b) bs

-- the record count, four bytes, and the records
unfoldable pub record_count_of : Sensor → List ℕ → Whole
record_count_of sensor [] = ends_of (heading (count_place sensor) 0 sensor) 6
record_count_of sensor (a ∷ []) = then_of 1 [] (ends_of (heading (count_place sensor + 1) (number 0 (a ∷ [])) sensor) 6)
record_count_of sensor (a ∷ b ∷ []) = then_of 2 [] (ends_of (heading (count_place sensor + 2) (number 0 (a ∷ b ∷ [])) sensor) 6)
record_count_of sensor (a ∷ b ∷ c ∷ []) = then_of 3 [] (ends_of (heading (count_place sensor + 3) (number 0 (a ∷ b ∷ c ∷ [])) sensor) 6)
record_count_of sensor (a ∷ b ∷ c ∷ d ∷ xs) = then_of 4 [] (records_of (number 0 (a ∷ b ∷ c ∷ d ∷ [])) 0 sensor (quads xs) (over xs))

-- the variant byte
unfoldable pub variants_of : List ℕ → Whole
variants_of [] = ends_of (heading 1 0 zero_sensor) 6
variants_of (v ∷ xs) = cond (variant_of v) (then_of 1 [] (record_count_of (sensor_powered v) xs)) (refuses_of (heading 1 0 zero_sensor) 2)

-- the device count
unfoldable pub whole_of : List ℕ → Whole
whole_of [] = ends_of fresh_of 6
whole_of (n ∷ xs) = cond (eqb n 1) (then_of 1 [] (variants_of xs)) (refuses_of fresh_of 1)
