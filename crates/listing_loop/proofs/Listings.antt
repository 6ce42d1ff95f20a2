-- `is_listing`: a whole listing tells what the whole-capture definition gives, and its output is the capture's listing, whatever the parts
-- it was read in and whatever was left unread. So, `one_listing`, two whole listings of one input are equal, and so are their outputs.
-- `allowed`: of every capture, however it is cut into parts that are read, the promise allows that result, of those parts. `two_parts` is
-- one of them, worked.
-- Assumes nothing.
use Rattle.std.proofs.Common.{◌≡◌, ℕ, ◌≤◌, List, [], ◌∷◌, ◌++◌, length, replicate, Result, Ok, Err, refl, sym, ap, ◌∙◌, append-nil, arith}
use lib.ListN.{length-replicate}
use Rattle.capture.specs.declared.Reader.{Reader}
use Rattle.capture.specs.Opened.{capture_opened}
use Rattle.capture.specs.Reader.{finish_of}
use Rattle.capture_laws.specs.Schedule.{joined, Bytes}
use Rattle.capture_laws.specs.Places.{consumed_of}
use Rattle.capture_laws.proofs.Cuts.{bytes_left, bytes_join, joined_append}
use Rattle.capture_laws.proofs.Consumed.{whole_consumed}
use Rattle.lines_laws.specs.WholeListing.{capture_listing_of}
use Rattle.lines_laws.specs.Turns.{answer_room, text_room, end_room, Unread, Output, Read, Ends}
use Rattle.lines_laws.proofs.Turns.{last_whole, last_finishing, lists}
use Rattle.lines_laws.proofs.Endings.{turns_end}
use Rattle.listing_loop.specs.declared.steps.Listed.{Listed}
use Rattle.listing_loop.specs.declared.Failure.{Failure}
use Rattle.listing_loop.specs.declared.Failure.TheVariants.{NotRead, NotWritten}
use Rattle.listing_loop.specs.declared.Totals.{Totals}
use Rattle.listing_loop.specs.List.{whole, told_of, listed_from, listed_of, Listing, Lists}
use Rattle.listing_loop.specs.List.Lists.{in_full, not_read, not_written}

-- ---- one listing

told_as : {parts : List (List ℕ)} {output : List ℕ} {last : Reader} → Output parts output last → (rest : List ℕ) → Unread last rest
    → Bytes (joined parts ++ rest) → told_of last (finish_of last) ≡ listed_of (joined parts ++ rest)
told_as {parts} o rest u k =
    let same = last_whole o rest u k in
    let consumed = ap consumed_of same ∙ sym (whole_consumed (joined parts ++ rest)) in
    let code = last_finishing o rest u k in
    λ i. record { consumed = consumed i; done = (same i).done; code = code i; failure = whole }

-- of every result that is told as whole there are such turns
pub when_whole : {r : Listed} → Lists r → r.failure ≡ whole → Listing r
when_whole (in_full w) z = w
when_whole not_read z = absurd (omega arith)
when_whole not_written z = absurd (omega arith)

pub is_listing : {r : Listed} (w : Listing r) (rest : List ℕ) → Unread w.last rest → Bytes rest
    → (r ≡ listed_of (joined w.parts ++ rest)) × (w.output ≡ capture_listing_of (joined w.parts ++ rest))
is_listing w rest u k =
    let bytes = bytes_join (joined w.parts) rest w.bytes k in
    (w.told ∙ told_as w.written rest u bytes, lists w.written rest u bytes)

pub one_listing : {r s : Listed} (v : Listing r) (w : Listing s) (rest other : List ℕ) → Unread v.last rest → Unread w.last other → Bytes rest
    → Bytes other → joined v.parts ++ rest ≡ joined w.parts ++ other → (r ≡ s) × (v.output ≡ w.output)
one_listing v w rest other t u k l same =
    let p = is_listing v rest t k in
    let q = is_listing w other u l in
    (p.0 ∙ ap listed_of same ∙ sym q.0, p.1 ∙ ap capture_listing_of same ∙ sym q.1)

-- what C gets of a result tells it
pub listed_once : (r s : Result Totals Failure) → listed_from r ≡ listed_from s → r ≡ s
listed_once (Ok t) (Ok u) e = λ i. Ok (record { consumed = (e i).consumed; done = (e i).done; code = (e i).code })
listed_once (Ok t) (Err NotRead) e = absurd (omega (arith, ap (λ (l : Listed). l.failure) e))
listed_once (Ok t) (Err NotWritten) e = absurd (omega (arith, ap (λ (l : Listed). l.failure) e))
listed_once (Err NotRead) (Ok u) e = absurd (omega (arith, ap (λ (l : Listed). l.failure) e))
listed_once (Err NotWritten) (Ok u) e = absurd (omega (arith, ap (λ (l : Listed). l.failure) e))
listed_once (Err NotRead) (Err NotRead) e = refl
listed_once (Err NotRead) (Err NotWritten) e = absurd (omega (arith, ap (λ (l : Listed). l.failure) e))
listed_once (Err NotWritten) (Err NotRead) e = absurd (omega (arith, ap (λ (l : Listed). l.failure) e))
listed_once (Err NotWritten) (Err NotWritten) e = refl

-- ---- of every capture

-- a buffer with so much room
buffer : (room : ℕ) → (lent : List ℕ) × (room ≤ length lent)
buffer room = (replicate room 0, omega (arith, length-replicate {A = ℕ} room 0))

-- a listing over exactly these parts, the empty one that is read at the end of the input behind them: it read the first of them, and the
-- rest is unread
pub record Allowed (parts : List (List ℕ)) : Type 0 where
  pub listing : Listing (listed_of (joined parts))
  pub unread : List (List ℕ)
  pub same : listing.parts ++ unread ≡ parts ++ ([] ∷ [])
  pub behind : Unread listing.last (joined unread)

of_ends : {parts : List (List ℕ)} → Ends parts → Bytes (joined parts) → Allowed parts
of_ends {parts} e k =
    let rest = joined e.unread in
    let input : joined e.used ++ rest ≡ joined parts
    = sym (joined_append e.used e.unread) ∙ ap joined e.same ∙ joined_append parts ([] ∷ []) ∙ append-nil (joined parts) in
    let bytes : Bytes (joined e.used ++ rest) = rw input k in
    record {
      listing =
          record {
            parts = e.used;
            output = e.output;
            last = e.last;
            bytes = bytes_left (joined e.used) rest bytes;
            written = e.written;
            told = ap listed_of (sym input) ∙ sym (told_as e.written rest e.behind bytes);
          };
      unread = e.unread;
      same = e.same;
      behind = e.behind;
    }

pub allowed : (parts : List (List ℕ)) → Read parts → Bytes (joined parts) → Allowed parts
allowed parts h k =
    let answers = buffer answer_room in
    let text = buffer text_room in
    let line = buffer end_room in
    of_ends (turns_end answers.0 text.0 answers.1 text.1 line.0 line.1 parts h k) k

-- two records, read in two parts: 14 bytes consumed, 2 records done, finishing code 0
pub two_parts : Listing (record { consumed = 14; done = 2; code = 0; failure = whole })
unfolding capture_opened
two_parts =
    (allowed
    ((0x01 ∷ 0x01 ∷ 0x00 ∷ 0x00 ∷ 0x00 ∷ 0x02 ∷ 0x05 ∷ 0x14 ∷ 0x00 ∷ []) ∷ (0x00 ∷ 0x02 ∷ 0x4C ∷ 0x00 ∷ 0x00 ∷ []) ∷ [])
    (omega arith) (omega arith)
    ).listing
