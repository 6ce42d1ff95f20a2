-- The steps that C calls make a listing: `stepped_lists`, whoever runs them as the loop of c/list.c does, from a fresh reader, and whatever the reads
-- and writes between them come to, is told what the call promises; and, `stepped_further` and `stepped_less`, each turn that another follows takes a byte, so
-- that the loop ends if every read and write returns.
-- Assumes nothing.
use Rattle.std.proofs.Common.{◌≡◌, ℕ, ◌-◌, ◌<◌, Bool, true, false, List, take, ℤ, None, refl, sym, ap, ◌∙◌, arith}
use Rattle.std.specs.declared.ops.ControlFlow.TheVariants.{Continue, Break}
use Rattle.std.specs.Prelude.{Ok}
use Rattle.capture.specs.declared.Reader.{Reader}
use Rattle.capture.specs.declared.Fed.{Fed}
use Rattle.capture.specs.Reader.{fresh_of, finish_of}
use Rattle.capture_laws.specs.Schedule.{Bytes}
use Rattle.capture_laws.specs.Places.{consumed_of}
use Rattle.capture_laws.proofs.Consumed.{capture_most}
use Rattle.lines_laws.specs.Turns.{Turn, End}
use Rattle.listing_loop.specs.declared.steps.Listed.{Listed}
use Rattle.listing_loop.specs.declared.steps.Part.{Part}
use Rattle.listing_loop.specs.declared.steps.Went.{Went}
use Rattle.listing_loop.specs.List.{whole, failed_of, totals_of, Lists}
use Rattle.listing_loop.specs.List.Lists.{not_read, not_written}
use Rattle.listing_loop.specs.Loop.{more_of, ReadLaid, wrote_of, Took, ended_of, EndWritten, Turned, Ended, Stepped}
use Rattle.listing_loop.specs.Loop.ReadLaid.{no_part, a_part}
use Rattle.listing_loop.specs.Loop.Stepped.{goes_on, ends, fails}
use Rattle.listing_loop.proofs.Loop.{SoFar, begun, further, less, over_lists}

-- ---- one turn

-- one that did not fail
pub record Succeeded (s : Reader) (w : Went) : Type 0 where
  pub part : List ℕ
  pub r : Fed
  pub text : List ℕ
  pub bytes : Bytes part
  pub turn : Turn s part r text
  pub reader : w.reader ≡ r.reader
  pub goes : w.goes ≡ more_of part r

succeeded_read : {s : Reader} {got : ℤ} {buffer blank page : List ℕ} {p : Part} {w : Went} → ReadLaid s got buffer p blank page → (written : Bool)
    → w ≡ wrote_of p written → w.failure ≡ whole → Succeeded s w
succeeded_read l false e z = absurd (omega (arith, ap (λ (w : Went). w.failure) e))
succeeded_read no_part true e z = absurd (omega (arith, ap (λ (w : Went). w.failure) e))
succeeded_read (a_part l) true e z =
    let told = e ∙ ap (λ (p : Part). wrote_of p true) l.told in
    record {
      part = _;
      r = l.r;
      text = l.text;
      bytes = l.bytes;
      turn = l.turn;
      reader = ap (λ (w : Went). w.reader) told;
      goes = ap (λ (w : Went). w.goes) told;
    }

pub succeeded : {s : Reader} {w : Went} → Turned s w → w.failure ≡ whole → Succeeded s w
succeeded t = succeeded_read t.laid t.written t.told

-- and one that did
failed_read : {s : Reader} {got : ℤ} {buffer blank page : List ℕ} {p : Part} {w : Went} → ReadLaid s got buffer p blank page → (written : Bool)
    → w ≡ wrote_of p written → (w.failure ≡ whole → ⊥) → Lists (failed_of w.failure)
failed_read l false e f = rw (ap (λ (w : Went). w.failure) e) not_written
failed_read no_part true e f = rw (ap (λ (w : Went). w.failure) e) not_read
failed_read (a_part l) true e f = absurd (f (ap (λ (w : Went). w.failure) (e ∙ ap (λ (p : Part). wrote_of p true) l.told)))

pub failed : {s : Reader} {w : Went} → Turned s w → (w.failure ≡ whole → ⊥) → Lists (failed_of w.failure)
failed t = failed_read t.laid t.written t.told

-- ---- as the turns of the call, of a reader and a writer whose bytes are not known

on : {s : Reader} {w : Went} → Succeeded s w → w.goes ≡ true → Took s None None None None (Continue w.reader)
on g e = record { part = g.part; r = g.r; text = g.text; bytes = g.bytes; turn = g.turn; reader = g.reader; goes = sym e ∙ g.goes; read = tt; wrote = tt }

off : {s : Reader} {w : Went} → Succeeded s w → w.goes ≡ false → Took s None None None None (Break w.reader)
off g e = record { part = g.part; r = g.r; text = g.text; bytes = g.bytes; turn = g.turn; reader = g.reader; goes = sym e ∙ g.goes; read = tt; wrote = tt }

pub stepped_further : {s : Reader} {w : Went} → SoFar s → Turned s w → w.failure ≡ whole → w.goes ≡ true → SoFar w.reader
stepped_further f t z e = further f (on (succeeded t z) e) refl

pub stepped_less : {s : Reader} {w : Went} → SoFar s → Turned s w → w.failure ≡ whole → w.goes ≡ true
    → capture_most - consumed_of w.reader < capture_most - consumed_of s
stepped_less f t z e = less f (on (succeeded t z) e) refl

-- ---- the end line

end_of : {last : Reader} {r : Listed} (d : Ended last r) → End last (take d.line.size d.page)
end_of d = record { blank = d.blank; page = d.page; size = d.line.size; wide = d.wide; lined = d.laid.lined; written = refl }

end_written : {last : Reader} {r : Listed} (d : Ended last r) → EndWritten last None None (totals_of last (finish_of last))
end_written d = record { line = _; end = end_of d; wrote = tt; told = refl }

over_ended : {s last : Reader} {r : Listed} → SoFar s → Took s None None None None (Break last) → (d : Ended last r) → (written : Bool)
    → r ≡ ended_of last d.line.code written → Lists r
over_ended {last = last} f g d true h = rw (h, d.laid.code) (over_lists f g refl None None (Ok (totals_of last (finish_of last))) (end_written d))
over_ended f g d false h = rw h not_written

-- ---- the loop

stepped : {s : Reader} {r : Listed} → SoFar s → Stepped s r → Lists r
stepped f (goes_on t z e rest) = stepped (stepped_further f t z e) rest
stepped f (ends t z e d) = over_ended f (off (succeeded t z) e) d d.written d.told
stepped f (fails t z) = failed t z

pub stepped_lists : {r : Listed} → Stepped fresh_of r → Lists r
stepped_lists = stepped (begun refl)
