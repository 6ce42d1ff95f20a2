-- What is laid of a read, and of the end, is one: `one_read` and `one_end`, and of the pages that a caller from C lends, `one_page` and `one_last`.
-- Assumes nothing.
use Rattle.std.specs.Prelude.{◌≡◌, ℕ, ◌+◌, cond, List, [], ◌++◌, ℤ, length, drop}
use Rattle.std.proofs.Common.{refl, sym, ap, ◌∙◌, arith}
use Rattle.laws.proofs.Choices.{by_test}
use Rattle.capture.specs.declared.Reader.{Reader}
use Rattle.capture.specs.declared.Fed.{Fed}
use Rattle.capture.specs.Reader.{Out, ranges_of, refuse_of, call_of, report_of, Meets}
use Rattle.capture_laws.specs.Schedule.{Bytes}
use Rattle.capture_laws.proofs.Run.{run_of}
use Rattle.capture_laws.proofs.Rooms.{feed_fits}
use Rattle.capture_laws.proofs.Fours.{answers_fit}
use Rattle.lines.specs.Lines.{fitting_lines_of, next_of, lines_of}
use Rattle.lines.proofs.Layers.{one_line}
use Rattle.lines_laws.specs.Turns.{Turn}
use Rattle.lines_laws.proofs.Numbered.{laid_front}
use Rattle.lines_laws.proofs.Turns.{turn_text}
use Rattle.listing_loop.specs.declared.steps.Part.{Part}
use Rattle.listing_loop.specs.declared.steps.EndLine.{EndLine}
use Rattle.listing_loop.specs.declared.steps.Page.{Page}
use Rattle.listing_loop.specs.declared.steps.LastPage.{LastPage}
use Rattle.listing_loop.specs.Loop.{part_of, PartLaid, ReadLaid, EndLaid}
use Rattle.listing_loop.specs.Loop.ReadLaid.{no_part, a_part}

-- ---- a turn

-- the run, which has room for every answer; of a state out of its ranges, its refusal
outcome_of : Reader → List ℕ → Out
outcome_of s part = cond (ranges_of s) (run_of s part) (refuse_of s 8)

text_of : Reader → List ℕ → List ℕ
text_of s part = cond (ranges_of s) (lines_of (s.done + 1) (run_of s part).answers) []

no_lines : (room n : ℕ) → fitting_lines_of room n [] ≡ []
unfolding fitting_lines_of
no_lines room n = refl

told_by : {o : Out} {r : Fed} {entry exit : List ℕ} → Meets o r entry exit → r ≡ report_of o.code o.consumed (length o.answers) o.reader
told_by m = λ i. record { code = m.code i; consumed = m.consumed i; written = m.written i; reader = m.reader i }

module _ {s : Reader} {part text : List ℕ} {r : Fed} (t : Turn s part r text) (k : Bytes part) where
  met : call_of s part (length t.lent) ≡ outcome_of s part
  unfolding outcome_of
  met = by_test (ranges_of s)
      (λ h. let fit = answers_fit s part h t.read in let room = t.room in rw h (feed_fits s part (length t.lent) (omega arith)))
      (λ h. rw h refl)

  turn_result : r ≡ report_of (outcome_of s part).code (outcome_of s part).consumed (length (outcome_of s part).answers) (outcome_of s part).reader
  turn_result = told_by (rw met at t.fed)

  text_is : text ≡ text_of s part
  unfolding text_of
  text_is = by_test (ranges_of s)
      (λ h. rw h (turn_text t k h))
      (λ h.
      let none : r.written ≡ 0 = (rw h at t.fed).written in
      rw h (t.written ∙ laid_front t.listed ∙ rw none (no_lines (length t.blank) (next_of s.done))))

one_turn : {s : Reader} {part text text' : List ℕ} {r r' : Fed} → Turn s part r text → Turn s part r' text' → Bytes part → (r ≡ r') × (text ≡ text')
one_turn t v k = (turn_result t k ∙ sym (turn_result v k), text_is t k ∙ sym (text_is v k))

-- ---- a part, and a read

one_part : {s : Reader} {part entry exit exit' : List ℕ} {p q : Part} → PartLaid s part p entry exit → PartLaid s part q entry exit'
    → (p ≡ q) × (exit ≡ exit')
one_part {s} {part} {entry} v w =
    let o = one_turn v.turn w.turn v.bytes in
    let told : part_of part v.r (length v.text) ≡ part_of part w.r (length w.text) = λ i. part_of part (o.0 i) (length (o.1 i)) in
    (v.told ∙ told ∙ sym w.told, v.laid.buffer ∙ ap (λ (text : List ℕ). text ++ drop (length text) entry) o.1 ∙ sym w.laid.buffer)

pub one_read : {s : Reader} {got : ℤ} {buffer entry exit exit' : List ℕ} {p q : Part} → ReadLaid s got buffer p entry exit
    → ReadLaid s got buffer q entry exit' → (p ≡ q) × (exit ≡ exit')
one_read no_part no_part = (refl, refl)
one_read (a_part v) (a_part w) = one_part v w

-- ---- the end

pub one_end : {last : Reader} {entry exit exit' : List ℕ} {e f : EndLine} → EndLaid last e entry exit → EndLaid last f entry exit'
    → (e ≡ f) × (exit ≡ exit')
one_end v w =
    let line = one_line v.lined w.lined in
    (λ i. record { size = line.0 i; code = (v.code ∙ sym w.code) i }, line.1)

-- ---- of a caller's pages

pub one_page : {s : Reader} {got : ℤ} {old new new' : Page} {p q : Part} → ReadLaid s got old.buffer p old.text new.text
    → new.buffer ≡ old.buffer → ReadLaid s got old.buffer q old.text new'.text → new'.buffer ≡ old.buffer → (p ≡ q) × (new ≡ new')
one_page v same w also =
    let o = one_read v w in
    (o.0, λ i. record { buffer = (same ∙ sym also) i; text = o.1 i })

pub one_last : {last : Reader} {old new new' : LastPage} {e f : EndLine} → EndLaid last e old.text new.text → EndLaid last f old.text new'.text
    → (e ≡ f) × (new ≡ new')
one_last v w =
    let o = one_end v w in
    (o.0, λ i. record { text = o.1 i })
