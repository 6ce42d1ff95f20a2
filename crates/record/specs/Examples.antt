-- Worked records: every kind with its largest operands, each operand broken alone, kinds outside the table, under device counts on both
-- sides of 2; the writers at both sides of their room; the headers' bytes.
-- Assumes nothing.
use Rattle.std.specs.Prelude.{ℕ, ◌≡◌, refl, List, [], ◌∷◌, map}
use Rattle.device.specs.declared.Event.TheVariants.{Write, Read, Send, Receive, Convert, Open, PowerOn, ConvertSecond, OpenSecond}
use Rattle.registers.specs.Page.{address_of}
use Rattle.device.specs.Ranges.{variant_of, operands_of}
use Rattle.record.specs.Record.{Record}
use Rattle.std.specs.Prelude.{Ok, Err}
use Rattle.record.specs.declared.refusal.Refusal.TheVariants.{Kind, Operand}
use Rattle.record.specs.Record.{code_of, decode_of, encode_of}
use Rattle.record.specs.Writer.{writes, refuses, write_event_of, count_bytes_of, header_of, write_header_of, write_header2_of}
use Rattle.record.specs.Writer.{WroteEvent, WroteHeader, WroteHeader2}
use Rattle.record.specs.Opened.{record_opened}

pub record Row : Type 0 where
  pub kind : ℕ
  pub a : ℕ
  pub b : ℕ
  pub c : ℕ
  pub read : Record

abbrev row : ℕ → ℕ → ℕ → ℕ → Record → Row
row kind a b c read = record { kind = kind; a = a; b = b; c = c; read = read }

-- kinds that read alike under every device count
abbrev pub rows : List Row
rows =
    row 0x00 0x00 0x00 0x00 (Err Kind) ∷
    row 0x0A 0x00 0x00 0x00 (Err Kind) ∷
    row 0x0A 0x80 0x01 0x01 (Err Kind) ∷
    row 0xFF 0x80 0x01 0x01 (Err Kind) ∷
    row 0x01 0x7F 0xFF 0xFF (Ok (Write 127 255 255)) ∷
    row 0x01 0x80 0x00 0x00 (Err Operand) ∷
    row 0x02 0x7F 0xFF 0x00 (Ok (Read 127 255)) ∷
    row 0x02 0x80 0x00 0x00 (Err Operand) ∷
    row 0x02 0x4C 0x00 0x01 (Err Operand) ∷
    row 0x03 0x7F 0xFF 0x00 (Ok (Send 127 255)) ∷
    row 0x03 0x80 0x00 0x00 (Err Operand) ∷
    row 0x03 0x4C 0x00 0x01 (Err Operand) ∷
    row 0x04 0x7F 0x00 0x00 (Ok (Receive 127)) ∷
    row 0x04 0x80 0x00 0x00 (Err Operand) ∷
    row 0x04 0x4C 0x01 0x00 (Err Operand) ∷
    row 0x04 0x4C 0x00 0x01 (Err Operand) ∷
    row 0x05 0xFF 0xFE 0xE0 (Ok (Convert 255 254 224)) ∷
    row 0x05 0x00 0x00 0x1F (Err Operand) ∷
    row 0x05 0x00 0x00 0xF0 (Err Operand) ∷
    row 0x06 0xFF 0x00 0x00 (Ok (Open 255)) ∷
    row 0x06 0x00 0x01 0x00 (Err Operand) ∷
    row 0x06 0x00 0x00 0x01 (Err Operand) ∷
    row 0x07 0x00 0x00 0x00 (Ok PowerOn) ∷
    row 0x07 0x01 0x00 0x00 (Err Operand) ∷
    row 0x07 0x00 0x01 0x00 (Err Operand) ∷
    row 0x07 0x00 0x00 0x01 (Err Operand) ∷
    []

-- request c: kinds 08 and 09, as they read under a device count of 2
abbrev pub seconds : List Row
seconds =
    row 0x08 0xFF 0xFE 0xE0 (Ok (ConvertSecond 255 254 224)) ∷
    row 0x08 0x80 0x01 0x00 (Ok (ConvertSecond 128 1 0)) ∷
    row 0x08 0x00 0x00 0x1F (Err Operand) ∷
    row 0x08 0x00 0x00 0xF0 (Err Operand) ∷
    row 0x09 0xFF 0x00 0x00 (Ok (OpenSecond 255)) ∷
    row 0x09 0x00 0x01 0x00 (Err Operand) ∷
    row 0x09 0x00 0x00 0x01 (Err Operand) ∷
    []

abbrev decodes : List Row → ℕ → List Record
decodes l devices = map (λ (r : Row). decode_of devices r.kind r.a r.b r.c) l

abbrev reads : List Row → List Record
reads l = map (λ (r : Row). r.read) l

pub decoded : map (decodes rows) (0 ∷ 1 ∷ 2 ∷ 3 ∷ 255 ∷ []) ≡ reads rows ∷ reads rows ∷ reads rows ∷ reads rows ∷ reads rows ∷ []
unfolding decode_of operands_of
decoded = refl

pub seconds_decoded : decodes seconds 2 ≡ reads seconds
unfolding decode_of operands_of
seconds_decoded = refl

-- 3 before 4: under any other count the kind is refused, whatever the operands
abbrev unknown : List Record
unknown = Err Kind ∷ Err Kind ∷ Err Kind ∷ Err Kind ∷ Err Kind ∷ Err Kind ∷ Err Kind ∷ []

pub seconds_unknown : map (decodes seconds) (0 ∷ 1 ∷ 3 ∷ 255 ∷ []) ≡ unknown ∷ unknown ∷ unknown ∷ unknown ∷ []
unfolding decode_of operands_of
seconds_unknown = refl

pub codes : map code_of (Ok PowerOn ∷ Err Kind ∷ Err Operand ∷ []) ≡ 0 ∷ 3 ∷ 4 ∷ []
unfolding code_of
codes = refl

-- kinds 01 to 09, with the operands that each has
pub encoded :
    map encode_of (Write 1 2 3 ∷ Read 4 5 ∷ Send 6 7 ∷ Receive 8 ∷ Convert 9 10 32 ∷ Open 11 ∷ PowerOn ∷ ConvertSecond 12 13 64 ∷ OpenSecond 14 ∷ [])
    ≡ (1 ∷ 1 ∷ 2 ∷ 3 ∷ []) ∷ (2 ∷ 4 ∷ 5 ∷ 0 ∷ []) ∷ (3 ∷ 6 ∷ 7 ∷ 0 ∷ []) ∷ (4 ∷ 8 ∷ 0 ∷ 0 ∷ []) ∷ (5 ∷ 9 ∷ 10 ∷ 32 ∷ []) ∷
    (6 ∷ 11 ∷ 0 ∷ 0 ∷ []) ∷ (7 ∷ 0 ∷ 0 ∷ 0 ∷ []) ∷ (8 ∷ 12 ∷ 13 ∷ 64 ∷ []) ∷ (9 ∷ 14 ∷ 0 ∷ 0 ∷ []) ∷ []
unfolding encode_of
encoded = refl

-- 4 before 7; room for four bytes
pub event_rooms :
    map (write_event_of (Receive 0x80)) (3 ∷ 4 ∷ []) ≡ refuses 4 ∷ refuses 4 ∷ []
unfolding write_event_of operands_of
event_rooms = refl

pub event_written : map (write_event_of (Receive 0x0C)) (3 ∷ 4 ∷ 5 ∷ []) ≡ refuses 7 ∷ writes (4 ∷ 0x0C ∷ 0 ∷ 0 ∷ []) ∷ writes (4 ∷ 0x0C ∷ 0 ∷ 0 ∷ []) ∷ []
unfolding write_event_of operands_of encode_of
event_written = refl

-- request c: a conversion of the second device is written as any event: 4 before 7
pub second_event_written :
    map (write_event_of (ConvertSecond 0x12 0x13 0x40)) (3 ∷ 4 ∷ []) ∷ map (write_event_of (OpenSecond 0x14)) (3 ∷ 5 ∷ []) ∷
    map (write_event_of (ConvertSecond 0x12 0x13 0x41)) (3 ∷ 4 ∷ []) ∷ []
    ≡ (refuses 7 ∷ writes (8 ∷ 0x12 ∷ 0x13 ∷ 0x40 ∷ []) ∷ []) ∷ (refuses 7 ∷ writes (9 ∷ 0x14 ∷ 0 ∷ 0 ∷ []) ∷ []) ∷
    (refuses 4 ∷ refuses 4 ∷ []) ∷ []
unfolding record_opened
second_event_written = refl

pub header_bytes : header_of (2 ∷ []) 0x01020304 ≡ 1 ∷ 2 ∷ 1 ∷ 2 ∷ 3 ∷ 4 ∷ []
unfolding header_of count_bytes_of
header_bytes = refl

-- request c: device count 2, the first variant, the second
pub header_2_bytes : header_of (3 ∷ 1 ∷ []) 0x05060708 ≡ 2 ∷ 3 ∷ 1 ∷ 5 ∷ 6 ∷ 7 ∷ 8 ∷ []
unfolding header_of count_bytes_of
header_2_bytes = refl

-- 2 before 7; room for six bytes
pub header_rooms : map (λ (v : ℕ). map (write_header_of v 1) (5 ∷ 6 ∷ [])) (0 ∷ 1 ∷ 3 ∷ 4 ∷ []) ≡
    (refuses 2 ∷ refuses 2 ∷ []) ∷
    (refuses 7 ∷ writes (1 ∷ 1 ∷ 0 ∷ 0 ∷ 0 ∷ 1 ∷ []) ∷ []) ∷
    (refuses 7 ∷ writes (1 ∷ 3 ∷ 0 ∷ 0 ∷ 0 ∷ 1 ∷ []) ∷ []) ∷
    (refuses 2 ∷ refuses 2 ∷ []) ∷
    []
unfolding write_header_of header_of count_bytes_of variant_of
header_rooms = refl

-- request c: the codes of two variants 0 to 4, the first by row, the second by column, in six and in seven bytes of room: 2 before 9 before 7
abbrev codes_in : ℕ → List (List ℕ)
codes_in room = map (λ (first : ℕ). map (λ (second : ℕ). (write_header2_of first second 1 room).code) (0 ∷ 1 ∷ 2 ∷ 3 ∷ 4 ∷ [])) (0 ∷ 1 ∷ 2 ∷ 3 ∷ 4 ∷ [])

pub header_2_full : codes_in 6 ≡
    (2 ∷ 2 ∷ 2 ∷ 2 ∷ 2 ∷ []) ∷
    (2 ∷ 9 ∷ 7 ∷ 7 ∷ 2 ∷ []) ∷
    (2 ∷ 7 ∷ 9 ∷ 9 ∷ 2 ∷ []) ∷
    (2 ∷ 7 ∷ 9 ∷ 9 ∷ 2 ∷ []) ∷
    (2 ∷ 2 ∷ 2 ∷ 2 ∷ 2 ∷ []) ∷
    []
unfolding write_header2_of variant_of address_of
header_2_full = refl

pub header_2_codes : codes_in 7 ≡
    (2 ∷ 2 ∷ 2 ∷ 2 ∷ 2 ∷ []) ∷
    (2 ∷ 9 ∷ 0 ∷ 0 ∷ 2 ∷ []) ∷
    (2 ∷ 0 ∷ 9 ∷ 9 ∷ 2 ∷ []) ∷
    (2 ∷ 0 ∷ 9 ∷ 9 ∷ 2 ∷ []) ∷
    (2 ∷ 2 ∷ 2 ∷ 2 ∷ 2 ∷ []) ∷
    []
unfolding write_header2_of variant_of address_of
header_2_codes = refl

-- a refusal has no bytes
pub header_2_writings :
    write_header2_of 1 4 1 7 ∷ write_header2_of 3 2 1 7 ∷ write_header2_of 1 2 1 6 ∷ write_header2_of 1 2 1 7 ∷ write_header2_of 3 1 258 8 ∷ []
    ≡ refuses 2 ∷ refuses 9 ∷ refuses 7 ∷ writes (2 ∷ 1 ∷ 2 ∷ 0 ∷ 0 ∷ 0 ∷ 1 ∷ []) ∷ writes (2 ∷ 3 ∷ 1 ∷ 0 ∷ 0 ∷ 1 ∷ 2 ∷ []) ∷ []
unfolding write_header2_of header_of count_bytes_of variant_of address_of
header_2_writings = refl

-- the promises, kept: the bytes in front, and the byte behind them as it was
pub event_kept : WroteEvent (Receive 0x0C) 0 (9 ∷ 9 ∷ 9 ∷ 9 ∷ 9 ∷ []) (4 ∷ 0x0C ∷ 0 ∷ 0 ∷ 9 ∷ [])
unfolding write_event_of operands_of encode_of
event_kept = record { told = refl; buffer = refl }

pub header_kept : WroteHeader 2 0x01020304 0 (9 ∷ 9 ∷ 9 ∷ 9 ∷ 9 ∷ 9 ∷ 9 ∷ []) (1 ∷ 2 ∷ 1 ∷ 2 ∷ 3 ∷ 4 ∷ 9 ∷ [])
unfolding write_header_of header_of count_bytes_of variant_of
header_kept = record { told = refl; buffer = refl }

pub header_2_kept : WroteHeader2 3 1 0x05060708 0 (9 ∷ 9 ∷ 9 ∷ 9 ∷ 9 ∷ 9 ∷ 9 ∷ 9 ∷ []) (2 ∷ 3 ∷ 1 ∷ 5 ∷ 6 ∷ 7 ∷ 8 ∷ 9 ∷ [])
unfolding write_header2_of header_of count_bytes_of variant_of address_of
header_2_kept = record { told = refl; buffer = refl }

pub header_2_refused : WroteHeader2 2 3 1 9 (4 ∷ 5 ∷ []) (4 ∷ 5 ∷ [])
unfolding write_header2_of variant_of address_of
header_2_refused = record { told = refl; buffer = refl }
