-- Codes of the reader: the state and its ranges, what one byte does, what a call and asking to finish give.
-- Assumes nothing.
use Rattle.std.specs.Prelude.{ℕ, ◌+◌, ◌-◌, ◌*◌, ◌^◌, min, ◌≡◌, Bool, true, false, cond, ◌&&◌, ◌||◌, ltb, leb, eqb}
use Rattle.std.specs.Prelude.{List, [], ◌∷◌, ◌++◌, length, get_or, set, drop}
use Rattle.registers.specs.Page.{address_of}
use Rattle.device.specs.Bus.{powered_of}
use Rattle.device.specs.Ranges.{all_true, variant_of}
use Rattle.record.specs.Record.{Record}
use Rattle.std.specs.Prelude.{Ok, Err}
use Rattle.record.specs.Record.{decode_of, code_of}
use Rattle.pair.specs.declared.Bus.{Bus}
use Rattle.pair.specs.Bus.{zero_bus, placed_of, counted_bus, first_address, Answered, answers_of, count_place, header_length}
use Rattle.pair.specs.Ranges.{bus_ranges_of}
use Rattle.capture.specs.declared.Reader.{Reader}
use Rattle.capture.specs.declared.Fed.{Fed}

-- ---- the state

abbrev pub no_bytes : List ℕ
no_bytes = 0 ∷ 0 ∷ 0 ∷ []

-- a fresh state is all zeros
abbrev pub fresh_of : Reader
fresh_of = record { head = 0; count = 0; done = 0; carried = 0; bytes = no_bytes; held = 0; bus = zero_bus }

-- ---- the same state with one thing changed

-- so many header bytes taken
abbrev pub with_head : Reader → ℕ → Reader
with_head s head =
    record { head = head; count = s.count; done = s.done; carried = s.carried; bytes = s.bytes; held = s.held; bus = s.bus }

-- this record count
abbrev pub with_count : Reader → ℕ → Reader
with_count s count =
    record { head = s.head; count = count; done = s.done; carried = s.carried; bytes = s.bytes; held = s.held; bus = s.bus }

-- so many records done
abbrev pub with_done : Reader → ℕ → Reader
with_done s done =
    record { head = s.head; count = s.count; done = done; carried = s.carried; bytes = s.bytes; held = s.held; bus = s.bus }

-- so many bytes of a record carried, and their three places
abbrev pub with_carried : Reader → ℕ → List ℕ → Reader
with_carried s carried bytes =
    record { head = s.head; count = s.count; done = s.done; carried = carried; bytes = bytes; held = s.held; bus = s.bus }

-- holding a lasting code
abbrev pub hold_of : Reader → ℕ → Reader
hold_of s code =
    record { head = s.head; count = s.count; done = s.done; carried = s.carried; bytes = s.bytes; held = code; bus = s.bus }

-- this bus
abbrev pub with_bus : Reader → Bus → Reader
with_bus s bus =
    record { head = s.head; count = s.count; done = s.done; carried = s.carried; bytes = s.bytes; held = s.held; bus = bus }

-- so many records done with this bus, and no byte carried
abbrev pub between_of : Reader → ℕ → Bus → Reader
between_of s done bus = with_carried (with_done (with_bus s bus) done) 0 no_bytes

-- ---- the header

abbrev pub header_length_of : Reader → ℕ
header_length_of s = header_length s.bus

-- header bytes are still to come
abbrev pub in_header : Reader → Bool
in_header s = ltb s.head (header_length_of s)

-- the header is complete
abbrev pub header_done : Reader → Bool
header_done s = eqb s.head (header_length_of s)

-- bytes of the record count taken
abbrev pub count_taken : Reader → ℕ
count_taken s = s.head - count_place s.bus

-- ---- its ranges

-- 256 to the power of the count bytes taken, which are at most four
abbrev pub limit_of : ℕ → ℕ
limit_of taken = 256 ^ min taken 4

abbrev pub place_tests : Reader → List Bool
place_tests s =
    -- header bytes taken at most the header's length, 6 with one device and 7 with two (request c)
    leb s.head (header_length_of s) ∷
    -- record bytes carried 0 to 3, none before the header is complete or once all records are done
    leb s.carried 3 ∷
    (eqb s.carried 0 || (header_done s && ltb s.done s.count)) ∷
    -- unused places 0
    (ltb 0 s.carried || eqb (get_or s.bytes 0 0) 0) ∷
    (ltb 1 s.carried || eqb (get_or s.bytes 1 0) 0) ∷
    (ltb 2 s.carried || eqb (get_or s.bytes 2 0) 0) ∷
    -- the partial record count
    ltb s.count (limit_of (count_taken s)) ∷
    -- records done at most the count, and 0 before the header is complete
    leb s.done s.count ∷
    (header_done s || eqb s.done 0) ∷
    []

unfoldable pub place_of : Reader → Bool
place_of s = all_true (place_tests s)

-- a held code of 0 to 5, or 9 (request c)
abbrev pub held_test : ℕ → Bool
held_test held = leb held 5 || eqb held 9

unfoldable pub ranges_of : Reader → Bool
ranges_of s = all_true (place_of s ∷ held_test s.held ∷ bus_ranges_of s.head s.bus ∷ [])

-- ---- one byte

-- the next state, and an answer pair or none
pub record Turn : Type 0 where
  pub reader : Reader
  pub pair : Bool
  pub first : ℕ
  pub second : ℕ

-- no answer
abbrev pub quiet_of : Reader → Turn
quiet_of s = record { reader = s; pair = false; first = 0; second = 0 }

-- one more header byte
abbrev pub head_taken_of : Reader → Reader
head_taken_of s = with_head s (s.head + 1)

-- it is the device count
abbrev pub opened_of : Reader → ℕ → Reader
opened_of s devices = with_bus (head_taken_of s) (counted_bus s.bus devices)

-- request c: the second device's variant is the third header byte
abbrev pub second_variant : Reader → Bool
second_variant s = ltb 1 s.head

-- at its variant byte a device stands as after power-on
abbrev pub variant_taken_of : Reader → ℕ → Reader
variant_taken_of s variant = with_bus (head_taken_of s) (placed_of s.bus (second_variant s) (powered_of variant))

-- request c: both devices would have one address
abbrev pub one_address : Reader → ℕ → Bool
one_address s variant = second_variant s && eqb (address_of variant) (first_address s.bus)

-- one byte of the record count, highest first
abbrev pub counted_of : Reader → ℕ → Reader
counted_of s b = with_count (head_taken_of s) (s.count * 256 + b)

-- a variant byte: 2 unless it is 1, 2 or 3, then 9 where both devices have one address
abbrev pub variant_byte_of : Reader → ℕ → Reader
variant_byte_of s b = cond (variant_of b) (cond (one_address s b) (hold_of s 9) (variant_taken_of s b)) (hold_of s 2)

-- header bytes are judged as they come: 1 unless the device count is 1 or 2
unfoldable pub head_of : Reader → ℕ → Reader
head_of s b =
    cond (eqb s.head 0) (cond (eqb b 1 || eqb b 2) (opened_of s b) (hold_of s 1))
    (cond (ltb s.head (count_place s.bus)) (variant_byte_of s b)
    (counted_of s b))

abbrev pub carry_of : Reader → ℕ → Reader
carry_of s b = with_carried s (s.carried + 1) (set s.bytes s.carried b)

-- a record done: its answer pair, nothing carried
abbrev pub answered_of : Reader → Answered → Turn
answered_of s a = record { reader = between_of s (s.done + 1) a.bus; pair = true; first = a.first; second = a.second }

abbrev pub judged_of : Reader → Record → Turn
judged_of s (Ok e) = answered_of s (answers_of s.bus e)
judged_of s (Err why) = quiet_of (hold_of s (code_of (Err why)))

-- a record is judged at its fourth byte, under the device count
unfoldable pub record_of : Reader → ℕ → Turn
record_of s c = judged_of s (decode_of s.bus.devices (get_or s.bytes 0 0) (get_or s.bytes 1 0) (get_or s.bytes 2 0) c)

-- a state that holds a lasting code stays; a byte that is refused leaves such a state; 5 past the last counted record
unfoldable pub turn_of : Reader → ℕ → Turn
turn_of s b =
    cond (eqb s.held 0)
    (cond (in_header s) (quiet_of (head_of s b))
    (cond (ltb s.done s.count)
    (cond (ltb s.carried 3) (quiet_of (carry_of s b)) (record_of s b))
    (quiet_of (hold_of s 5))))
    (quiet_of s)

abbrev pub pair_of : Turn → List ℕ
pair_of t = cond t.pair (t.first ∷ t.second ∷ []) []

-- ---- a call

-- its code, the bytes consumed, the answer bytes and the state after it
pub record Out : Type 0 where
  pub code : ℕ
  pub consumed : ℕ
  pub answers : List ℕ
  pub reader : Reader

-- here the call ends: with the lasting code that the state holds, or 0
abbrev pub stop_of : Reader → Out
stop_of s = record { code = s.held; consumed = 0; answers = []; reader = s }

-- here the call ends with a code that the state does not hold: 7 or 8
abbrev pub refuse_of : Reader → ℕ → Out
refuse_of s code = record { code = code; consumed = 0; answers = []; reader = s }

-- what stands before an outcome: bytes consumed and answers written already
abbrev pub join_of : ℕ → List ℕ → Out → Out
join_of n answers o = record { code = o.code; consumed = n + o.consumed; answers = answers ++ o.answers; reader = o.reader }

-- byte by byte with so much room: a refused byte is not consumed; 7 where a valid record is complete and no room is left
unfoldable pub feed_of : Reader → List ℕ → ℕ → Out
feed_of s [] room = stop_of s
feed_of s (b ∷ bs) room =
    cond (eqb (turn_of s b).reader.held 0)
    (cond (leb (length (pair_of (turn_of s b))) room)
    (join_of 1 (pair_of (turn_of s b)) (feed_of (turn_of s b).reader bs (room - length (pair_of (turn_of s b)))))
    (refuse_of s 7))
    (stop_of (turn_of s b).reader)

-- any state: 8 first, with the state as given
abbrev pub call_of : Reader → List ℕ → ℕ → Out
call_of s xs room = cond (ranges_of s) (feed_of s xs room) (refuse_of s 8)

-- ---- asked to finish

-- the held code, then 6 unless the capture is at its counted end
abbrev pub end_of : Reader → ℕ
end_of s = cond (eqb s.held 0) (cond (header_done s && eqb s.done s.count) 0 6) s.held

abbrev pub finish_of : Reader → ℕ
finish_of s = cond (ranges_of s) (end_of s) 8

-- ---- what feed promises

abbrev pub report_of : ℕ → ℕ → ℕ → Reader → Fed
report_of code consumed written s = record { code = code; consumed = consumed; written = written; reader = s }

-- the buffer after an outcome: the answers in front, every other byte as it was
abbrev pub filled_of : Out → List ℕ → List ℕ
filled_of o entry = o.answers ++ drop (length o.answers) entry

pub record Meets (o : Out) (r : Fed) (entry exit : List ℕ) : Type 0 where
  pub code : r.code ≡ o.code
  pub consumed : r.consumed ≡ o.consumed
  pub written : r.written ≡ length o.answers
  pub reader : r.reader ≡ o.reader
  pub buffer : exit ≡ filled_of o entry

-- of a state and some bytes, with a buffer that held `entry`
abbrev pub FedWith : Reader → List ℕ → Fed → List ℕ → List ℕ → Type 0
FedWith s xs r entry exit = Meets (call_of s xs (length entry)) r entry exit
