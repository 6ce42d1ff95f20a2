-- `turns_end`: however an input is cut into parts of 1 to 65,536 bytes, and whatever buffers of the listing's sizes are lent, its turns
-- over exactly these parts come to an end with an output, for which `lists` holds.
-- Assumes nothing.
use Prim.Native.Nat.{ℕ, ◌≤◌}
use mathlib.Core.Path.{◌≡◌, refl, ap, ◌∙◌}
use mathlib.Core.Bool.{true}
use mathlib.Core.List.{List, [], ◌∷◌, ◌++◌}
use native.Mathlib.Omega.{arith}
use lib.Dec.{eqb}
use lib.ListN.{length, take, drop}
use borrow.Author.Tests.{eqb-true, eqb-false}
use Rattle.laws.proofs.Choices.{by_test}
use Rattle.capture.specs.declared.Reader.{Reader}
use Rattle.capture.specs.declared.Fed.{Fed}
use Rattle.capture.specs.Reader.{fresh_of, ranges_of, call_of, finish_of, filled_of, report_of}
use Rattle.capture_laws.specs.Schedule.{joined, Bytes}
use Rattle.capture_laws.proofs.Cuts.{fresh_ranges, bytes_left, bytes_right}
use Rattle.lines.specs.Lines.{end_line_of, next_of, fitting_of, fitting_lines_of}
use Rattle.lines_laws.specs.Turns.{read_most, answer_room, text_room, end_room, Turn, Turns, Unread, Read, Ends}
use Rattle.lines_laws.specs.Turns.Turns.{at_end, refused, goes_on}
use Rattle.lines_laws.proofs.Turns.{turn_ranges, turn_held}

-- turns that end: the parts that they read, and those that are unread
record Ended (s : Reader) (parts : List (List ℕ)) : Type 0 where
  used : List (List ℕ)
  unread : List (List ℕ)
  text : List ℕ
  last : Reader
  same : used ++ unread ≡ parts ++ ([] ∷ [])
  turns : Turns s used text last
  behind : Unread last (joined unread)

module _ (lent blank : List ℕ) (room : answer_room ≤ length lent) (wide : text_room ≤ length blank) where
  -- a call's result that meets what it promises, and its text
  fed_of : Reader → List ℕ → Fed
  fed_of s part = let o = call_of s part (length lent) in report_of o.code o.consumed (length o.answers) o.reader

  abbrev answers_of : Reader → List ℕ → List ℕ
  answers_of s part = filled_of (call_of s part (length lent)) lent

  lines_laid : Reader → List ℕ → List ℕ
  lines_laid s part = fitting_lines_of (length blank) (next_of s.done) (take (fed_of s part).written (answers_of s part))

  abbrev page_of : Reader → List ℕ → List ℕ
  page_of s part = lines_laid s part ++ drop (length (lines_laid s part)) blank

  a_turn : (s : Reader) (part : List ℕ) → length part ≤ read_most → Turn s part (fed_of s part) (take (length (lines_laid s part)) (page_of s part))
  unfolding fed_of lines_laid
  a_turn s part h =
      record {
        lent = lent;
        answers = answers_of s part;
        blank = blank;
        page = page_of s part;
        size = length (lines_laid s part);
        read = h;
        room = room;
        fed = record { code = refl; consumed = refl; written = refl; reader = refl; buffer = refl };
        wide = wide;
        listed = record { told = refl; buffer = refl };
        written = refl;
      }

  -- the part behind the last is the empty one that is read at the end of the input
  turns_from : (s : Reader) (parts : List (List ℕ)) → Read parts → Bytes (joined parts) → ranges_of s ≡ true → Ended s parts
  turns_from s [] h k ok =
      record {
        used = [] ∷ [];
        unread = [];
        text = _;
        last = _;
        same = refl;
        turns = at_end (a_turn s [] (omega arith));
        behind = λ _. refl;
      }
  turns_from s (part ∷ parts) h k ok =
      let t = a_turn s part h.1 in
      let bytes = bytes_left part (joined parts) k in
      by_test (eqb (fed_of s part).code 0)
      (λ z.
      let e = turns_from (fed_of s part).reader parts h.2 (bytes_right part (joined parts) k) (turn_ranges t bytes ok) in
      record {
        used = part ∷ e.used;
        unread = e.unread;
        text = _;
        last = e.last;
        same = ap (λ (l : List (List ℕ)). part ∷ l) e.same;
        turns = goes_on t h.0 (eqb-true _ _ z) e.turns;
        behind = e.behind;
      })
      (λ z.
      record {
        used = part ∷ [];
        unread = parts ++ ([] ∷ []);
        text = _;
        last = _;
        same = refl;
        turns = refused t (eqb-false _ _ z);
        behind = λ none. absurd (eqb-false _ _ z (turn_held t bytes ok ∙ none));
      })

  pub turns_end : (page : List ℕ) → end_room ≤ length page → (parts : List (List ℕ)) → Read parts → Bytes (joined parts) → Ends parts
  turns_end page wide_end parts h k =
      let e = turns_from fresh_of parts h k fresh_ranges in
      let line : List ℕ = fitting_of (end_line_of e.last.done (finish_of e.last)) (length page) in
      record {
        used = e.used;
        unread = e.unread;
        output = _;
        last = e.last;
        same = e.same;
        behind = e.behind;
        written =
            record {
              text = e.text;
              line = _;
              turns = e.turns;
              end =
                  record {
                    blank = page;
                    page = line ++ drop (length line) page;
                    size = length line;
                    wide = wide_end;
                    lined = record { told = refl; buffer = refl };
                    written = refl;
                  };
              written = refl;
            };
      }
