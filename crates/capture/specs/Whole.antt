-- What a whole capture gives: its sections in order, its records by fours, with room for every answer. No record is taken byte
-- by byte here, and nothing is asked of a state.
-- Assumes nothing.
use Rattle.std.specs.Prelude.{ℕ, ◌+◌, ◌*◌, List, [], ◌∷◌, ◌++◌, cond, ◌||◌, length, take, ltb, eqb}
use Rattle.registers.specs.Page.{address_of}
use Rattle.device.specs.declared.Event.{Event}
use Rattle.device.specs.Bus.{powered_of, zero_device}
use Rattle.device.specs.Ranges.{variant_of}
use Rattle.record.specs.Record.{Record}
use Rattle.std.specs.Prelude.{Ok, Err}
use Rattle.record.specs.Record.{code_of}
use Rattle.record.specs.Fours.{Quad, quads, over, quad_of}
use Rattle.pair.specs.declared.Bus.{Bus}
use Rattle.pair.specs.Bus.{answers_of, count_place, header_length}
use Rattle.capture.specs.declared.Reader.{Reader}
use Rattle.capture.specs.Reader.{no_bytes, fresh_of, with_head, with_count, with_done, with_carried, hold_of, with_bus}

-- ---- a capture's result

-- code, bytes consumed, answers, end state, and what asking to finish gives
pub record Whole : Type 0 where
  pub code : ℕ
  pub consumed : ℕ
  pub answers : List ℕ
  pub reader : Reader
  pub finishing : ℕ

-- the bytes end here
abbrev pub ends_of : Reader → ℕ → Whole
ends_of s finishing = record { code = 0; consumed = 0; answers = []; reader = s; finishing = finishing }

-- a byte is refused here, with a lasting code
abbrev pub refuses_of : Reader → ℕ → Whole
refuses_of s code = record { code = code; consumed = 0; answers = []; reader = hold_of s code; finishing = code }

-- n bytes and some answers, and then the rest
abbrev pub then_of : ℕ → List ℕ → Whole → Whole
then_of n answers w = record { code = w.code; consumed = n + w.consumed; answers = answers ++ w.answers; reader = w.reader; finishing = w.finishing }

-- ---- states by section

-- in the header, so many bytes of it taken
abbrev pub heading : ℕ → ℕ → Bus → Reader
heading head count bus = with_head (with_count (with_bus fresh_of bus) count) head

-- in the records, k of n done, with some bytes of the next one
abbrev pub recording : ℕ → ℕ → Bus → List ℕ → Reader
recording n k bus l = with_carried (with_done (heading (header_length bus) n bus) k) (length l) (take 3 (l ++ no_bytes))

-- ---- the records

-- an event is stepped; a refused record is told by its code
abbrev pub on_record : Record → (Event → Whole) → (ℕ → Whole) → Whole
on_record (Ok e) step refuse = step e
on_record (Err why) step refuse = refuse (code_of (Err why))

-- the records in order, then the bytes over, k of n done; a refused record leaves its first three bytes consumed and carried; 5 for a
-- byte past the last counted record; the finishing code is 0 at the counted end exactly
unfoldable pub records_of : ℕ → ℕ → Bus → List Quad → List ℕ → Whole
records_of n k bus [] [] = ends_of (recording n k bus []) (cond (eqb k n) 0 6)
records_of n k bus [] (x ∷ l) =
    cond (ltb k n) (then_of (length (x ∷ l)) [] (ends_of (recording n k bus (x ∷ l)) 6)) (refuses_of (recording n k bus []) 5)
records_of n k bus (q ∷ qs) l =
    cond (ltb k n)
    (on_record (quad_of bus.devices q)
    (λ e. then_of 4 ((answers_of bus e).first ∷ (answers_of bus e).second ∷ []) (records_of n (k + 1) (answers_of bus e).bus qs l))
    (λ code. then_of 3 [] (refuses_of (recording n k bus (q.kind ∷ q.a ∷ q.b ∷ [])) code)))
    (refuses_of (recording n k bus []) 5)

-- ---- the header

-- a number of some bytes, highest first
abbrev pub number : ℕ → List ℕ → ℕ
number n [] = n
number n (b ∷ bs) = number (n * 256 + b) bs

-- the record count, four bytes, and the records
unfoldable pub record_count_of : Bus → List ℕ → Whole
record_count_of bus [] = ends_of (heading (count_place bus) 0 bus) 6
record_count_of bus (a ∷ []) = then_of 1 [] (ends_of (heading (count_place bus + 1) (number 0 (a ∷ [])) bus) 6)
record_count_of bus (a ∷ b ∷ []) = then_of 2 [] (ends_of (heading (count_place bus + 2) (number 0 (a ∷ b ∷ [])) bus) 6)
record_count_of bus (a ∷ b ∷ c ∷ []) = then_of 3 [] (ends_of (heading (count_place bus + 3) (number 0 (a ∷ b ∷ c ∷ [])) bus) 6)
record_count_of bus (a ∷ b ∷ c ∷ d ∷ xs) = then_of 4 [] (records_of (number 0 (a ∷ b ∷ c ∷ d ∷ [])) 0 bus (quads xs) (over xs))

-- the first variant taken, of one device or of two, and both: each device stands as after power-on at its variant byte
abbrev pub first_taken : ℕ → ℕ → Bus
first_taken devices v = record { devices = devices; first = powered_of v; second = zero_device }

abbrev pub both_of : ℕ → ℕ → Bus
both_of v w = record { devices = 2; first = powered_of v; second = powered_of w }

-- request c: the second variant byte, 2 before 9
unfoldable pub second_variant_of : ℕ → List ℕ → Whole
second_variant_of v [] = ends_of (heading 2 0 (first_taken 2 v)) 6
second_variant_of v (w ∷ xs) =
    cond (variant_of w)
    (cond (eqb (address_of w) (address_of v)) (refuses_of (heading 2 0 (first_taken 2 v)) 9) (then_of 1 [] (record_count_of (both_of v w) xs)))
    (refuses_of (heading 2 0 (first_taken 2 v)) 2)

-- the device count taken, no variant yet
abbrev pub none_of : ℕ → Bus
none_of devices = record { devices = devices; first = zero_device; second = zero_device }

-- the first variant byte
unfoldable pub variants_of : ℕ → List ℕ → Whole
variants_of devices [] = ends_of (heading 1 0 (none_of devices)) 6
variants_of devices (v ∷ xs) =
    cond (variant_of v)
    (then_of 1 [] (cond (eqb devices 2) (second_variant_of v xs) (record_count_of (first_taken devices v) xs)))
    (refuses_of (heading 1 0 (none_of devices)) 2)

-- the device count
unfoldable pub whole_of : List ℕ → Whole
whole_of [] = ends_of fresh_of 6
whole_of (n ∷ xs) = cond (eqb n 1 || eqb n 2) (then_of 1 [] (variants_of n xs)) (refuses_of fresh_of 1)
