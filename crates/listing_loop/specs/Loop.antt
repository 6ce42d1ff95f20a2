-- What the functions of the listing's loop promise each other: what each lays in the text that it is lent, and what a turn and the end line
-- come to. No sentence of document 01 stands here; the call promises no more than `Lists`.
-- Assumes nothing.
use Rattle.std.specs.Prelude.{◌≡◌, ℕ, ◌≤◌, ⊤, Bool, true, false, cond, ◌&&◌, List, length, take, ℤ, pos, negsuc, ◌==◌, nat_lt, Result, Ok, Err}
use Rattle.std.specs.Io.KnownBytes.{Keeps, Appends, Consumes, IsAtEnd}
use Rattle.std.specs.declared.option.Option.{Option}
use Rattle.std.specs.declared.ops.ControlFlow.{ControlFlow}
use Rattle.std.specs.declared.ops.ControlFlow.TheVariants.{Continue, Break}
use Rattle.capture.specs.declared.Reader.{Reader}
use Rattle.capture.specs.declared.Fed.{Fed}
use Rattle.capture.specs.Reader.{finish_of}
use Rattle.capture_laws.specs.Schedule.{Bytes}
use Rattle.lines.specs.Lines.{end_line_of, Laid, Lined}
use Rattle.lines_laws.specs.Turns.{end_room, Turn, End}
use Rattle.listing_loop.specs.declared.Failure.{Failure}
use Rattle.listing_loop.specs.declared.Failure.TheVariants.{NotRead, NotWritten}
use Rattle.listing_loop.specs.declared.Totals.{Totals}
use Rattle.listing_loop.specs.declared.PartLines.{PartLines}
use Rattle.listing_loop.specs.declared.steps.Listed.{Listed}
use Rattle.listing_loop.specs.declared.steps.Part.{Part}
use Rattle.listing_loop.specs.declared.steps.Went.{Went}
use Rattle.listing_loop.specs.declared.steps.EndLine.{EndLine}
use Rattle.listing_loop.specs.List.{whole, not_read_failure, not_written_failure, failed_of, totals_of, told_of}

-- ---- a part

-- more may follow a part that is not empty, if the code is 0
abbrev pub more_of : List ℕ → Fed → Bool
more_of part r = nat_lt 0 (length part) && r.code == 0

abbrev pub part_of : List ℕ → Fed → ℕ → Part
part_of part r size = record { reader = r.reader; failure = whole; more = more_of part r; size = size }

-- the text of a part's turn stands in front of the lent text, and the rest of that is as it was
pub record PartLaid (s : Reader) (part : List ℕ) (p : Part) (entry exit : List ℕ) : Type 0 where
  pub r : Fed
  pub text : List ℕ
  pub bytes : Bytes part
  pub turn : Turn s part r text
  pub laid : Laid text p.size entry exit
  pub told : p ≡ part_of part r (length text)

-- the reader after a part, and whether another turn may follow
abbrev pub reader_of : ControlFlow Reader Reader → Reader
reader_of (Continue s) = s
reader_of (Break s) = s

abbrev pub goes_of : ControlFlow Reader Reader → Bool
goes_of (Continue s) = true
goes_of (Break s) = false

-- the same as C gets it
abbrev pub part_from : PartLines → Part
part_from l = record { reader = reader_of l.next; failure = whole; more = goes_of l.next; size = l.size }

-- no part was read: nothing is laid
abbrev pub not_read_of : Reader → Part
not_read_of s = record { reader = s; failure = not_read_failure; more = false; size = 0 }

-- by what a read answered C: below 0, that it failed; else how many bytes it put to the front of the buffer
pub data ReadLaid : Reader → ℤ → List ℕ → Part → List ℕ → List ℕ → Type 0 where
  no_part : {s : Reader} {n : ℕ} {buffer text : List ℕ} → ReadLaid s (negsuc n) buffer (not_read_of s) text text
  a_part : {s : Reader} {n : ℕ} {buffer entry exit : List ℕ} {p : Part} → PartLaid s (take n buffer) p entry exit
      → ReadLaid s (pos n) buffer p entry exit

-- ---- a turn

-- what a read did to the bytes that its reader has left, where those are known: it took those that it put to the front of the buffer, none only
-- at their end; one that failed took none
abbrev pub GotBytes : Option (List ℕ) → Option (List ℕ) → Result ℕ Failure → List ℕ → Type 0
GotBytes left after (Ok n) buffer = (n ≤ length buffer) × Consumes left after (take n buffer) × (n ≡ 0 → IsAtEnd after)
GotBytes left after (Err f) buffer = (f ≡ NotRead) × Keeps left after

-- of C: the state after a part; whether another turn follows, by whether its lines were written
abbrev pub wrote_of : Part → Bool → Went
wrote_of p written = record { reader = p.reader; failure = cond written p.failure not_written_failure; goes = written && p.more }

-- a turn that did not fail: the part that it took and the text of it; of a reader and a writer whose bytes are known, `left` and `held` before it,
-- these bytes are what it read and what it wrote
pub record Took (s : Reader) (left after held grown : Option (List ℕ)) (next : ControlFlow Reader Reader) : Type 0 where
  pub part : List ℕ
  pub r : Fed
  pub text : List ℕ
  pub bytes : Bytes part
  pub turn : Turn s part r text
  pub reader : reader_of next ≡ r.reader
  pub goes : goes_of next ≡ more_of part r
  pub read : Consumes left after part
  pub wrote : Appends held grown text

-- a turn that failed: where it is told that the read did, that read took none of the bytes that are known, and nothing was written
abbrev pub Missed : Option (List ℕ) → Option (List ℕ) → Option (List ℕ) → Option (List ℕ) → Failure → Type 0
Missed left after held grown NotRead = Keeps left after × (grown ≡ held)
Missed left after held grown NotWritten = ⊤

-- ---- the end

-- of C: the end line stands in front of the lent text, and the rest of that is as it was
pub record EndLaid (last : Reader) (e : EndLine) (entry exit : List ℕ) : Type 0 where
  pub code : e.code ≡ finish_of last
  pub lined : Lined (end_line_of last.done (finish_of last)) e.size entry exit

-- of C: the result after the end line, by whether it was written
abbrev pub ended_of : Reader → ℕ → Bool → Listed
ended_of last code written = cond written (told_of last code) (failed_of not_written_failure)

-- an end line that was written, behind what a writer held whose bytes are known, and what is told then
pub record EndWritten (last : Reader) (held grown : Option (List ℕ)) (t : Totals) : Type 0 where
  pub line : List ℕ
  pub end : End last line
  pub wrote : Appends held grown line
  pub told : t ≡ totals_of last (finish_of last)

-- ---- the steps of C, one after another

-- a read, what is laid of it, and what came of the write
pub record Turned (s : Reader) (w : Went) : Type 0 where
  pub got : ℤ
  pub buffer : List ℕ
  pub part : Part
  pub blank : List ℕ
  pub page : List ℕ
  pub laid : ReadLaid s got buffer part blank page
  pub written : Bool
  pub told : w ≡ wrote_of part written

-- an end line, and what came of its write
pub record Ended (last : Reader) (r : Listed) : Type 0 where
  pub line : EndLine
  pub blank : List ℕ
  pub page : List ℕ
  pub wide : end_room ≤ length blank
  pub laid : EndLaid last line blank page
  pub written : Bool
  pub told : r ≡ ended_of last line.code written

-- the loop of c/list.c from a state on: turns for as long as none fails and another follows, then the end line; or what is told of a turn that failed
pub data Stepped : Reader → Listed → Type 0 where
  goes_on : {s : Reader} {w : Went} {r : Listed} → Turned s w → w.failure ≡ whole → w.goes ≡ true → Stepped w.reader r → Stepped s r
  ends : {s : Reader} {w : Went} {r : Listed} → Turned s w → w.failure ≡ whole → w.goes ≡ false → Ended w.reader r → Stepped s r
  fails : {s : Reader} {w : Went} → Turned s w → (w.failure ≡ whole → ⊥) → Stepped s (failed_of w.failure)
