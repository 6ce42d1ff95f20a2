-- `lists`: what the listing's turns and its end line write is the listing of the whole capture, whatever the parts it was read in and
-- whatever it left unread; `last_whole`, `last_finishing`: the state that they leave is the whole capture's, and so is its finishing code.
-- `never_full`: the listing's buffers hold all that a turn gives.
-- Assumes nothing.
use Prim.Native.Nat.{ℕ, ◌+◌, ◌*◌}
use mathlib.Core.Path.{◌≡◌, refl, sym, ap, ◌∙◌}
use mathlib.Core.Bool.{true}
use mathlib.Core.List.{List, [], ◌++◌, append_assoc, append-nil}
use native.Mathlib.Omega.{arith}
use lib.ListN.{length, take, drop}
use lib.Seq.{take_at}
use lib.Dec.{eqb}
use borrow.Author.Tests.{leb-true, eqb-true, eqb-false}
use Rattle.laws.proofs.Choices.{by_test}
use Rattle.capture.specs.declared.Reader.{Reader}
use Rattle.capture.specs.declared.Fed.{Fed}
use Rattle.capture.specs.Reader.{Out, fresh_of, call_of, finish_of, ranges_of, Meets}
use Rattle.capture.specs.Whole.{whole_of}
use Rattle.capture_laws.specs.Schedule.{joined, Bytes}
use Rattle.capture_laws.specs.Places.{consumed_of}
use Rattle.capture_laws.proofs.Cuts.{fresh_ranges, bytes_left, bytes_right}
use Rattle.capture.proofs.InRange.{ranges}
use Rattle.capture_laws.proofs.Rooms.{feed_fits}
use Rattle.capture_laws.proofs.Places.{stands}
use Rattle.capture_laws.proofs.Consumed.{run_consumed}
use Rattle.capture_laws.proofs.Run.{run_of, run_append, run_held, run_ranges}
use Rattle.capture_laws.proofs.Sections.{whole_run, whole_finishing}
use Rattle.lines.specs.Lines.{lines_of, end_line_of}
use Rattle.lines_laws.specs.Turns.{Turn, Turns, Unread, Output}
use Rattle.lines_laws.specs.Turns.Turns.{at_end, refused, goes_on}
use Rattle.lines_laws.proofs.Numbered.{laid_front, lined_front, end_short, not_round, lines_all, lines_append}
use Rattle.capture_laws.proofs.Fours.{run_even, run_code, held_not_7, answers_fit, done_fits}
use Rattle.lines_laws.specs.WholeListing.{capture_listing_of}

-- ---- one turn

module _ {s : Reader} {part text : List ℕ} {r : Fed} (t : Turn s part r text) (k : Bytes part) (h : ranges_of s ≡ true) where
  -- the call is the run, with room for every answer
  call_run : call_of s part (length t.lent) ≡ run_of s part
  call_run =
      let fit = answers_fit s part h t.read in
      let room = t.room in
      rw h (feed_fits s part (length t.lent) (omega arith))

  fed_run : Meets (run_of s part) r t.lent t.answers
  fed_run = rw call_run at t.fed

  -- the state that it leaves: in its ranges, with the code held, and further on by the bytes consumed
  pub turn_ranges : ranges_of r.reader ≡ true
  turn_ranges = rw fed_run.reader (run_ranges s part k h)

  pub turn_held : r.code ≡ r.reader.held
  turn_held = fed_run.code ∙ run_code s part ∙ ap (λ (u : Reader). u.held) (sym fed_run.reader)

  -- after code 0 every byte of the part is taken
  pub turn_taken : r.code ≡ 0 → consumed_of r.reader ≡ consumed_of s + length part
  turn_taken z =
      let all = (stands s part (length t.lent)).done (sym t.fed.code ∙ z) in
      let few = leb-true s.carried 3 (ranges s h).place.few in
      rw fed_run.reader (omega (arith, run_consumed s part few, ap (λ (o : Out). o.consumed) call_run, all))

  pub fed_answers : take r.written t.answers ≡ (run_of s part).answers
  fed_answers =
      let m = fed_run in
      let all = (run_of s part).answers in
      ap (take r.written) m.buffer ∙ take_at all (drop (length all) t.lent) r.written (sym m.written)

  -- and its text is all lines of the answers
  pub turn_text : text ≡ lines_of (s.done + 1) (run_of s part).answers
  turn_text =
      let all = (run_of s part).answers in
      let few = answers_fit s part h t.read in
      let small = done_fits s part h k in
      let even = run_even s part in
      let wide = t.wide in
      let fit = lines_all (length t.blank) (s.done + 1) all (omega arith) (omega arith) in
      t.written ∙ laid_front t.listed ∙ rw fed_answers (not_round (length t.blank) s.done all small fit)

  -- the buffers hold all that a turn gives: it never asks for more room, and leaves no line out
  pub never_full : (r.code ≡ 7 → ⊥) × (text ≡ lines_of (s.done + 1) (take r.written t.answers))
  never_full = (
    λ e. held_not_7 r.reader turn_ranges (sym turn_held ∙ e),
    rw fed_answers turn_text,
  )

-- ---- turns in order

-- a text and a state that are the lines and the end of a run
record Lists (s : Reader) (xs text : List ℕ) (last : Reader) : Type 0 where
  text_is : text ≡ lines_of (s.done + 1) (run_of s xs).answers
  last_is : last ≡ (run_of s xs).reader

one_turn : {s : Reader} {part text : List ℕ} {r : Fed} → Turn s part r text → Bytes part → ranges_of s ≡ true → Lists s part text r.reader
one_turn t k h = record { text_is = turn_text t k h; last_is = (fed_run t k h).reader }

-- a run, and then one from the state that it left
after_run : (xs ys : List ℕ) {s middle last : Reader} {text texts : List ℕ} → Lists s xs text middle → Lists middle ys texts last
    → Lists s (xs ++ ys) (text ++ texts) last
after_run xs ys {s} {middle} {last} {text} {texts} p q =
    let t = (run_of s xs).reader in
    let first = (run_of s xs).answers in
    let second = (run_of t ys).answers in
    let joins = sym (run_append s xs ys) in
    let next : Lists t ys texts last = rw p.last_is at q in
    let numbers : (t.done + 1) * 2 ≡ (s.done + 1) * 2 + length first = let e = run_even s xs in omega arith in
    let lines = sym (lines_append (t.done + 1) (s.done + 1) first second numbers) in
    record {
      text_is = rw (p.text_is, next.text_is) (lines ∙ ap (λ (o : Out). lines_of (s.done + 1) o.answers) joins);
      last_is = next.last_is ∙ ap (λ (o : Out). o.reader) joins;
    }

-- after a lasting code the rest changes nothing
held_rest : (s : Reader) (rest : List ℕ) → (s.held ≡ 0 → ⊥) → Lists s rest [] s
held_rest s rest n = let e = run_held s rest n in record { text_is = rw e refl; last_is = rw e refl }

-- the last one, and what is unread behind it
last_turn : {s : Reader} {part text : List ℕ} {r : Fed} → Turn s part r text → (rest : List ℕ) → Unread r.reader rest → Bytes (part ++ rest)
    → ranges_of s ≡ true → Lists s (part ++ rest) text r.reader
last_turn {part = part} {text = text} {r = r} t rest u k h =
    let one = one_turn t (bytes_left part rest k) h in
    by_test (eqb r.reader.held 0)
    (λ z. rw (u (eqb-true r.reader.held 0 z), append-nil part) one)
    (λ z. rw (append-nil text) at (after_run part rest one (held_rest r.reader rest (eqb-false r.reader.held 0 z))))

turns_list : {s last : Reader} {parts : List (List ℕ)} {text : List ℕ} → Turns s parts text last → (rest : List ℕ) → Unread last rest
    → Bytes (joined parts ++ rest) → ranges_of s ≡ true → Lists s (joined parts ++ rest) text last
turns_list (at_end t) rest u k h = last_turn t rest u k h
turns_list (refused {part = part} t n) rest u k h = rw (append-nil part) (last_turn t rest u (rw (append-nil part) at k) h)
turns_list (goes_on {part = part} {parts = parts} t m z turns) rest u k h =
    let bytes = rw (append_assoc part (joined parts) rest) at k in
    let b = bytes_left part (joined parts ++ rest) bytes in
    let p = one_turn t b h in
    let q = turns_list turns rest u (bytes_right part (joined parts ++ rest) bytes) (turn_ranges t b h) in
    rw (append_assoc part (joined parts) rest) (after_run part (joined parts ++ rest) p q)

-- ---- the theorem

module _
    {parts : List (List ℕ)} {output : List ℕ} {last : Reader} (o : Output parts output last) (rest : List ℕ) (u : Unread last rest)
    (k : Bytes (joined parts ++ rest))
  where
    abbrev capture : List ℕ
    capture = joined parts ++ rest

    as_run : Lists fresh_of capture o.text last
    as_run = turns_list o.turns rest u k fresh_ranges

    pub last_whole : last ≡ (whole_of capture).reader
    last_whole = as_run.last_is ∙ ap (λ (w : Out). w.reader) (whole_run capture)

    pub last_finishing : finish_of last ≡ (whole_of capture).finishing
    last_finishing =
        let in_ranges : ranges_of last ≡ true = rw as_run.last_is (run_ranges fresh_of capture k fresh_ranges) in
        rw in_ranges (rw last_whole (whole_finishing capture))

    pub lists : output ≡ capture_listing_of capture
    lists =
        let text : o.text ≡ lines_of 1 (whole_of capture).answers = as_run.text_is ∙ ap (λ (w : Out). lines_of 1 w.answers) (whole_run capture) in
        let short = end_short last.done (finish_of last) in
        let wide = o.end.wide in
        let end = o.end.written ∙ lined_front (end_line_of last.done (finish_of last)) (omega arith) o.end.lined in
        o.written ∙ (λ i. text i ++ (end ∙ (λ j. end_line_of (last_whole j).done (last_finishing j))) i)
