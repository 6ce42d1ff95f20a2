-- The bench's writer of events: an event is given as its record's four bytes, since an exported function takes no enum. On the bytes of
-- an event it is the writer of events (proofs/Twin.antt: is_the_writer); 3 is for bytes that are no event's.
-- Assumes nothing.
use Rattle.std.specs.Prelude.{ℕ, cond, List, [], ◌∷◌, leb, eqb, length}
use Rattle.record.specs.Record.{decode_of, code_of}
use Rattle.record.specs.Writer.{Writing, writes, refuses, Wrote}

-- the record's own code, request c: as under a device count of 2: 3 for a kind that is not 01 to 09, then 4 for an operand outside the table, else 0
abbrev pub judged_of : ℕ → ℕ → ℕ → ℕ → ℕ
judged_of kind a b c = code_of (decode_of 2 kind a b c)

-- that, then 7 for fewer than four bytes of room, else these four bytes
unfoldable pub write_bytes_of : ℕ → ℕ → ℕ → ℕ → ℕ → Writing
write_bytes_of kind a b c room =
    cond (eqb (judged_of kind a b c) 0) (cond (leb 4 room) (writes (kind ∷ a ∷ b ∷ c ∷ [])) (refuses 7)) (refuses (judged_of kind a b c))

-- into a room that held `entry`
abbrev pub WroteBytes : ℕ → ℕ → ℕ → ℕ → ℕ → List ℕ → List ℕ → Type 0
WroteBytes kind a b c code entry exit = Wrote (write_bytes_of kind a b c (length entry)) code entry exit
