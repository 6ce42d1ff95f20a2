-- The loop's turns: what is known between two of them, that each takes a byte or is the last, and what each way out gives.
-- Assumes nothing.
use Rattle.std.proofs.Common.{◌≡◌, ℕ, ◌-◌, ◌<◌, true, false, eqb, ltb, List, [], ◌∷◌, ◌++◌, length, Result, Err, Ok, IsErr, IfOk}
use Rattle.std.proofs.Common.{sym, ap, ◌∙◌, refl, append_assoc, arith, ltb-false, ltb-true, eqb-true}
use Rattle.std.specs.declared.option.Option.{Option}
use Rattle.std.specs.declared.ops.ControlFlow.{ControlFlow}
use borrow.Author.Tests.{eqb-false}
use Rattle.laws.proofs.Choices.{clash, by_test, and_left, and_right}
use Rattle.capture.specs.declared.Reader.{Reader}
use Rattle.capture.specs.declared.Fed.{Fed}
use Rattle.capture.specs.Reader.{fresh_of, ranges_of}
use Rattle.capture_laws.specs.Schedule.{joined, Bytes}
use Rattle.capture_laws.specs.Places.{consumed_of}
use Rattle.capture_laws.proofs.Cuts.{fresh_ranges, bytes_then}
use Rattle.capture_laws.proofs.Consumed.{capture_most, consumed_most}
use Rattle.lines_laws.specs.Turns.{Turn, Turns, End, Output}
use Rattle.lines_laws.specs.Turns.Turns.{at_end, refused, goes_on}
use Rattle.lines_laws.proofs.Turns.{turn_ranges, turn_taken}
use Rattle.listing_loop.specs.declared.Failure.{Failure}
use Rattle.listing_loop.specs.declared.Failure.TheVariants.{NotRead, NotWritten}
use Rattle.listing_loop.specs.declared.Totals.{Totals}
use Rattle.listing_loop.specs.List.{listed_from, Lists}
use Rattle.listing_loop.specs.Loop.{reader_of, goes_of, Took, EndWritten}
use Rattle.listing_loop.specs.List.Lists.{in_full, not_read, not_written}

-- ---- one turn or end line that failed

failed : (f : Failure) → Lists (listed_from (Err f))
failed NotRead = not_read
failed NotWritten = not_written

pub failed_lists : (r : Result Totals Failure) → IsErr r → Lists (listed_from r)
failed_lists (Ok t) e = clash (e)
failed_lists (Err f) e = failed f

-- ---- turns so far

-- the turns that led to a state; whatever turns follow from it make one row with them
pub record SoFar (s : Reader) : Type 0 where
  pub parts : List (List ℕ)
  pub text : List ℕ
  pub bytes : Bytes (joined parts)
  pub ranges : ranges_of s ≡ true
  pub onward : {later : List (List ℕ)} {texts : List ℕ} {last : Reader} → Turns s later texts last
      → Turns fresh_of (parts ++ later) (text ++ texts) last

pub begun : {s : Reader} → s ≡ fresh_of → SoFar s
begun e = rw e (record { parts = []; text = []; bytes = tt; ranges = fresh_ranges; onward = λ t. t })

no_byte : {s : Reader} {text : List ℕ} {r : Fed} (part : List ℕ) → length part ≡ 0 → Turn s part r text → Turns s (part ∷ []) text r.reader
no_byte [] e t = at_end t
no_byte (b ∷ part) e t = absurd (omega arith)

module _ {s : Reader} {left after held grown : Option (List ℕ)} {next : ControlFlow Reader Reader}
    (f : SoFar s) (g : Took s left after held grown next) where
  abbrev all : List (List ℕ)
  all = f.parts ++ (g.part ∷ [])

  all_bytes : Bytes (joined all)
  all_bytes = bytes_then f.parts g.part f.bytes g.bytes

  -- ---- another follows

  module _ (e : goes_of next ≡ true) where
    some : 0 < length g.part
    some = ltb-true 0 (length g.part) (and_left _ _ (sym g.goes ∙ e))

    zero_code : g.r.code ≡ 0
    zero_code = eqb-true g.r.code 0 (and_right (ltb 0 (length g.part)) _ (sym g.goes ∙ e))

    pub further : SoFar (reader_of next)
    further =
        rw g.reader
        (record {
          parts = all;
          text = f.text ++ g.text;
          bytes = all_bytes;
          ranges = turn_ranges g.turn g.bytes f.ranges;
          onward = λ {later} {texts} {last} t.
              rw (append_assoc f.parts (g.part ∷ []) later, append_assoc f.text g.text texts) (f.onward (goes_on g.turn some zero_code t));
        })

    pub less : capture_most - consumed_of (reader_of next) < capture_most - consumed_of s
    less =
        let grown = turn_taken g.turn g.bytes f.ranges zero_code in
        rw g.reader (omega (arith, consumed_most s f.ranges, some))

  -- ---- it is the last

  module _ (e : goes_of next ≡ false) where
    last_turn : Turns s (g.part ∷ []) g.text g.r.reader
    last_turn =
        by_test (eqb g.r.code 0)
        (λ z. by_test (ltb 0 (length g.part))
        (λ h. clash (sym e ∙ g.goes ∙ rw (h, z)))
        (λ h. let l = ltb-false 0 (length g.part) h in no_byte g.part (omega arith) g.turn))
        (λ z. refused g.turn (eqb-false g.r.code 0 z))

    output : (line : List ℕ) → End g.r.reader line → Output all ((f.text ++ g.text) ++ line) g.r.reader
    output line end = record { text = f.text ++ g.text; line = line; turns = f.onward last_turn; end = end; written = refl }

    over : {begun ended : Option (List ℕ)} {t : Totals} → EndWritten (reader_of next) begun ended t → Lists (listed_from (Ok t))
    over d =
        let same = rw g.reader at d in
        in_full
        (record {
          parts = all;
          output = (f.text ++ g.text) ++ same.line;
          last = g.r.reader;
          bytes = all_bytes;
          written = output same.line same.end;
          told = ap (λ (t : Totals). listed_from (Ok t)) same.told;
        })

    pub over_lists : (begun ended : Option (List ℕ)) (r : Result Totals Failure) → IfOk r (EndWritten (reader_of next) begun ended) → Lists (listed_from r)
    over_lists begun ended (Ok t) d = over d
    over_lists begun ended (Err f) d = failed f
