-- Every byte that is taken stands in the state: `run_consumed`, of a run; `whole_consumed`, of a whole capture, whose end state then tells
-- how much of it was consumed; and, `refused_next`, if it is refused, the byte behind those is the refused one.
-- `consumed_most`: a state in its ranges has taken fewer bytes than `capture_most`.
-- Assumes nothing.
use Prim.Native.Nat.{ℕ, ◌+◌, ◌^◌, ◌≤◌, ◌<◌}
use mathlib.Core.Path.{◌≡◌, refl, sym, ◌∙◌}
use mathlib.Core.Bool.{Bool, true, false, cond, ◌&&◌}
use mathlib.Core.List.{List, [], ◌∷◌}
use native.Mathlib.Omega.{arith}
use lib.Dec.{ltb, eqb}
use lib.ListN.{length, get_or}
use borrow.Author.Tests.{leb-true, ltb-true, ltb-false, eqb-true, eqb-false}
use Rattle.laws.proofs.Choices.{clash, cond_ind, by_test}
use Rattle.record.specs.Record.{Record}
use Rattle.std.specs.Prelude.{Ok, Err}
use Rattle.record.specs.declared.refusal.Refusal.TheVariants.{Kind, Operand}
use Rattle.record.specs.Record.{decode_of, code_of}
use Rattle.capture.specs.declared.Reader.{Reader}
use Rattle.capture.specs.Reader.{Turn, fresh_of, header_length_of, header_done, in_header, hold_of, head_of, judged_of, record_of, turn_of, ranges_of}
use Rattle.capture.specs.Whole.{Whole, whole_of}
use Rattle.capture_laws.specs.Codes.{lasting_of}
use Rattle.capture_laws.specs.Places.{Refuses, consumed_of}
use Rattle.capture.proofs.Turns.{head_ind}
use Rattle.capture.proofs.InRange.{ranges, short_header, count_fits}
use Rattle.capture_laws.proofs.Run.{run_of, run_nil, run_on, run_stop}
use Rattle.capture_laws.proofs.Sections.{outcome, whole_run, whole_finishing}
use Rattle.capture_laws.proofs.Cuts.{whole_call}
use Rattle.capture_laws.proofs.Fours.{run_code}
use Rattle.capture_laws.proofs.Places.{stands}

-- ---- one byte

-- a byte that is taken, and only such a one, is one more
record Counted (s : Reader) (t : Reader) : Type 0 where
  taken : t.held ≡ 0 → consumed_of t ≡ consumed_of s + 1
  refused : (t.held ≡ 0 → ⊥) → consumed_of t ≡ consumed_of s
  few : t.carried ≤ 3

module _ (s : Reader) (b : ℕ) (few : s.carried ≤ 3) where
  abbrev CountedBy : Turn → Type 0
  CountedBy t = Counted s t.reader

  -- one more, and no code is held; or no more, and one is
  more : {t : Reader} → t.held ≡ 0 → consumed_of t ≡ consumed_of s + 1 → t.carried ≤ 3 → Counted s t
  more z e k = record { taken = λ _. e; refused = λ n. absurd (n z); few = k }

  same : {t : Reader} → (t.held ≡ 0 → ⊥) → consumed_of t ≡ consumed_of s → t.carried ≤ 3 → Counted s t
  same n e k = record { taken = λ z. absurd (n z); refused = λ _. e; few = k }

  module _ (none : s.held ≡ 0) where
    head_counted : Counted s (head_of s b)
    head_counted =
        let stopped : (code : ℕ) → (code ≡ 0 → ⊥) → Counted s (hold_of s code) = λ code n. same n (omega arith) few in
        head_ind s b (Counted s) (more none (omega arith) few) (stopped 1 (λ z. omega arith)) (more none (omega arith) few)
        (stopped 9 (λ z. omega arith)) (stopped 2 (λ z. omega arith)) (more none (omega arith) few)

    judged_counted : 3 ≤ s.carried → (d : Record) → CountedBy (judged_of s d)
    unfolding code_of
    judged_counted h (Ok e) = more none (omega arith) (omega arith)
    judged_counted h (Err Kind) = same (λ z. omega arith) (omega arith) few
    judged_counted h (Err Operand) = same (λ z. omega arith) (omega arith) few

  turn_counted : CountedBy (turn_of s b)
  unfolding turn_of record_of
  turn_counted =
      cond_ind CountedBy (eqb s.held 0)
      (λ z. let none = eqb-true s.held 0 z in
      cond_ind CountedBy (in_header s) (λ _. head_counted none)
      (λ _. cond_ind CountedBy (ltb s.done s.count)
      (λ _. cond_ind CountedBy (ltb s.carried 3)
      (λ e. let k = ltb-true s.carried 3 e in more none (omega arith) (omega arith))
      (λ e. judged_counted none (ltb-false s.carried 3 e) (decode_of s.bus.devices (get_or s.bytes 0 0) (get_or s.bytes 1 0) (get_or s.bytes 2 0) b)))
      (λ _. same (λ z. omega arith) (omega arith) few)))
      (λ n. same (eqb-false s.held 0 n) (omega arith) few)

-- ---- a run

pub run_consumed : (s : Reader) (xs : List ℕ) → s.carried ≤ 3 → consumed_of (run_of s xs).reader ≡ consumed_of s + (run_of s xs).consumed
run_consumed s [] few = rw (run_nil s) (omega arith)
run_consumed s (b ∷ xs) few =
    let t = turn_counted s b few in
    by_test (eqb (turn_of s b).reader.held 0)
    (λ z.
    let h = eqb-true _ _ z in
    rw (run_on s b xs h) (omega (arith, t.taken h, run_consumed (turn_of s b).reader xs t.few)))
    (λ z. let n = eqb-false _ _ z in rw (run_stop s b xs n) (omega (arith, t.refused n)))

pub whole_consumed : (xs : List ℕ) → (whole_of xs).consumed ≡ consumed_of (whole_of xs).reader
whole_consumed xs =
    let run : consumed_of (run_of fresh_of xs).reader ≡ (run_of fresh_of xs).consumed = omega (arith, run_consumed fresh_of xs (omega arith)) in
    sym (rw (whole_run xs) at run)

-- ---- how many there can be

-- more than any capture has
abbrev pub capture_most : ℕ
capture_most = 2 ^ 35

pub consumed_most : (s : Reader) → ranges_of s ≡ true → consumed_of s < capture_most
consumed_most s h =
    let place = (ranges s h).place in
    let header = leb-true s.head (header_length_of s) place.head in
    let few = leb-true s.carried 3 place.few in
    let done = leb-true s.done s.count place.done in
    omega (arith, count_fits s h, short_header s h)

-- ---- the byte behind them

not_lasting : (t : Bool) → lasting_of (cond t 0 6) ≡ true → ⊥
not_lasting true e = clash e
not_lasting false e = clash e

module _ (xs : List ℕ) where
  abbrev w : Whole
  w = whole_of xs

  -- a lasting finishing code is the one that the capture was refused with
  refused_code : lasting_of w.finishing ≡ true → w.code ≡ w.finishing
  refused_code l =
      let held : w.code ≡ w.reader.held = rw (whole_run xs) at (run_code fresh_of xs) in
      let finishing = whole_finishing xs in
      by_test (eqb w.reader.held 0)
      (λ z. absurd (not_lasting (header_done w.reader && eqb w.reader.done w.reader.count) (rw z at (rw (sym finishing) at l))))
      (λ z. held ∙ rw z at finishing)

  pub refused_next : lasting_of w.finishing ≡ true → (w.code ≡ w.finishing) × Refuses fresh_of xs (length w.answers) (outcome w)
  refused_next l =
      let code = refused_code l in
      let place = rw (whole_call xs (length w.answers) (omega arith)) at (stands fresh_of xs (length w.answers)) in
      (code, place.refuses refl (rw code l))
