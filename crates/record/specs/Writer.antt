-- Writers into a lent buffer: what is written, and what is refused with nothing written.
-- Assumes nothing.
use Rattle.std.specs.Prelude.{ℕ, ◌/◌, ◌%◌, ◌≡◌, Bool, cond, ◌&&◌, List, [], ◌∷◌, ◌++◌, leb, eqb, length, drop, Result, Ok, Err}
use Rattle.registers.specs.Page.{address_of}
use Rattle.device.specs.declared.Event.{Event}
use Rattle.device.specs.Ranges.{variant_of, operands_of}
use Rattle.record.specs.declared.refusal.Refusal.{Refusal}
use Rattle.record.specs.declared.refusal.Refusal.TheVariants as refusal
use Rattle.record.specs.declared.refusal.WriteRefusal.{WriteRefusal}
use Rattle.record.specs.declared.refusal.WriteRefusal.TheVariants.{Variant, Kind, Operand, Room, OneAddress}
use Rattle.record.specs.Record.{encode_of}

-- ---- a writer's result, and its code

-- 0 where it wrote
abbrev pub write_code_of : Result (Unit {0}) WriteRefusal → ℕ
write_code_of (Ok done) = 0
write_code_of (Err Variant) = 2
write_code_of (Err Kind) = 3
write_code_of (Err Operand) = 4
write_code_of (Err Room) = 7
write_code_of (Err OneAddress) = 9

-- bytes that are no event's are not written
abbrev pub of_record : Refusal → WriteRefusal
of_record refusal.Kind = Kind
of_record refusal.Operand = Operand

-- ---- what is written

-- a code, and the bytes that go to the front of the buffer
pub record Writing : Type 0 where
  pub code : ℕ
  pub bytes : List ℕ

abbrev pub writes : List ℕ → Writing
writes bytes = record { code = 0; bytes = bytes }

abbrev pub refuses : ℕ → Writing
refuses code = record { code = code; bytes = [] }

-- these bytes, but 7 for less room than n
abbrev pub fitting_of : ℕ → ℕ → List ℕ → Writing
fitting_of n room bytes = cond (leb n room) (writes bytes) (refuses 7)

-- an event: 4 for an operand outside the table, then 7 for fewer than four bytes of room
unfoldable pub write_event_of : Event → ℕ → Writing
write_event_of e room = cond (operands_of e) (cond (leb 4 room) (writes (encode_of e)) (refuses 7)) (refuses 4)

-- a record count in four bytes, highest first
unfoldable pub count_bytes_of : ℕ → List ℕ
count_bytes_of count = count / 0x1000000 % 0x100 ∷ count / 0x10000 % 0x100 ∷ count / 0x100 % 0x100 ∷ count % 0x100 ∷ []

-- beside document 01: a capture's header, device count, one variant a device (request c: one or two), record count
unfoldable pub header_of : List ℕ → ℕ → List ℕ
header_of variants count = length variants ∷ variants ++ count_bytes_of count

-- a header of one device: 2 for a variant other than 1 to 3, then 7 for fewer than six bytes of room
unfoldable pub write_header_of : ℕ → ℕ → ℕ → Writing
write_header_of variant count room = cond (variant_of variant) (cond (leb 6 room) (writes (header_of (variant ∷ []) count)) (refuses 7)) (refuses 2)

-- request c: both variants have one address
abbrev pub one_address_of : ℕ → ℕ → Bool
one_address_of first second = eqb (address_of first) (address_of second)

-- request c: a header of two devices: 2 for a variant other than 1 to 3, then 9 where both have one address, then 7 for fewer than seven bytes of room
unfoldable pub write_header2_of : ℕ → ℕ → ℕ → ℕ → Writing
write_header2_of first second count room =
    cond (variant_of first && variant_of second)
    (cond (one_address_of first second) (refuses 9)
    (cond (leb 7 room) (writes (header_of (first ∷ second ∷ []) count)) (refuses 7)))
    (refuses 2)

-- what a writer promises: its code, and a buffer that begins with the bytes and is as it was behind them
pub record Wrote (w : Writing) (code : ℕ) (entry exit : List ℕ) : Type 0 where
  pub told : code ≡ w.code
  pub buffer : exit ≡ w.bytes ++ drop (length w.bytes) entry

-- of an event, and of a header of one device or of two, into a room that held `entry`
abbrev pub WroteEvent : Event → ℕ → List ℕ → List ℕ → Type 0
WroteEvent e code entry exit = Wrote (write_event_of e (length entry)) code entry exit

abbrev pub WroteHeader : ℕ → ℕ → ℕ → List ℕ → List ℕ → Type 0
WroteHeader variant count code entry exit = Wrote (write_header_of variant count (length entry)) code entry exit

abbrev pub WroteHeader2 : ℕ → ℕ → ℕ → ℕ → List ℕ → List ℕ → Type 0
WroteHeader2 first second count code entry exit = Wrote (write_header2_of first second count (length entry)) code entry exit
