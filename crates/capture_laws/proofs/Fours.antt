-- Four bytes a record: a run answers at most two bytes for each four that are carried or fed, so that a turn's buffers hold all.
-- Assumes nothing.
use Prim.Native.Nat.{ℕ, ◌+◌, ◌*◌, ◌≤◌, ◌<◌}
use mathlib.Core.Path.{◌≡◌, refl}
use mathlib.Core.Bool.{true}
use mathlib.Core.List.{List, [], ◌∷◌}
use native.Mathlib.Omega.{arith}
use lib.Dec.{ltb, eqb}
use lib.ListN.{length, get_or, length-append}
use borrow.Author.Tests.{leb-true, ltb-false, eqb-true, eqb-false}
use Rattle.laws.proofs.Choices.{cond_ind, by_test}
use Rattle.record.specs.Record.{Record}
use Rattle.std.specs.Prelude.{Ok, Err}
use Rattle.record.specs.Record.{decode_of}
use Rattle.capture.specs.declared.Reader.{Reader}
use Rattle.capture.specs.Reader.{Turn, in_header, head_of, judged_of, record_of, turn_of, pair_of, ranges_of}
use Rattle.capture_laws.specs.Schedule.{Bytes}
use Rattle.capture.proofs.Turns.{head_ind}
use Rattle.capture.proofs.InRange.{ranges, count_fits}
use Rattle.capture_laws.proofs.Held.{not_seven}
use Rattle.capture_laws.proofs.Rooms.{feed_fits}
use Rattle.capture_laws.proofs.Counts.{feed_even}
use Rattle.capture_laws.proofs.Run.{run_of, run_nil, run_on, run_stop, run_ranges}

-- ---- one byte

-- a turn's answers, twice, and what it carries on are at most what was carried and the byte
abbrev Four : Reader → Turn → Type 0
Four s t = length (pair_of t) * 2 + t.reader.carried ≤ s.carried + 1

judged_four : (s : Reader) (d : Record) → 3 ≤ s.carried → Four s (judged_of s d)
judged_four s (Ok e) h = omega arith
judged_four s (Err why) h = omega arith

head_same : (s : Reader) (b : ℕ) → (head_of s b).carried ≡ s.carried
head_same s b = head_ind s b (λ (t : Reader). t.carried ≡ s.carried) refl refl refl refl refl refl

turn_four : (s : Reader) (b : ℕ) → Four s (turn_of s b)
unfolding turn_of record_of
turn_four s b =
    cond_ind (Four s) (eqb s.held 0)
    (λ _. cond_ind (Four s) (in_header s) (λ _. omega (arith, head_same s b))
    (λ _. cond_ind (Four s) (ltb s.done s.count)
    (λ _. cond_ind (Four s) (ltb s.carried 3) (λ _. omega arith)
    (λ e. judged_four s (decode_of s.bus.devices (get_or s.bytes 0 0) (get_or s.bytes 1 0) (get_or s.bytes 2 0) b) (ltb-false s.carried 3 e)))
    (λ _. omega arith)))
    (λ _. omega arith)

-- ---- a run

run_four : (s : Reader) (xs : List ℕ) → length (run_of s xs).answers * 2 ≤ s.carried + length xs
run_four s [] = rw (run_nil s) (omega arith)
run_four s (b ∷ xs) =
    by_test (eqb (turn_of s b).reader.held 0)
    (λ z.
    let t = turn_four s b in
    let r = run_four (turn_of s b).reader xs in
    rw (run_on s b xs (eqb-true _ _ z)) (simp length-append (omega arith)))
    (λ z. rw (run_stop s b xs (eqb-false _ _ z)) (omega arith))

-- two answer bytes for each record done
pub run_even : (s : Reader) (xs : List ℕ) → (run_of s xs).reader.done * 2 ≡ s.done * 2 + length (run_of s xs).answers
run_even s xs =
    let room : ℕ = length (run_of s xs).answers in
    rw (feed_fits s xs room (omega arith)) at (feed_even s xs room)

-- a run ends with the code that its state holds
pub run_code : (s : Reader) (xs : List ℕ) → (run_of s xs).code ≡ (run_of s xs).reader.held
run_code s [] = rw (run_nil s) refl
run_code s (b ∷ xs) =
    by_test (eqb (turn_of s b).reader.held 0)
    (λ z. rw (run_on s b xs (eqb-true _ _ z)) (run_code (turn_of s b).reader xs))
    (λ z. rw (run_stop s b xs (eqb-false _ _ z)) refl)

-- no state in its ranges holds 7: a call gives it, and keeps none
pub held_not_7 : (s : Reader) → ranges_of s ≡ true → s.held ≡ 7 → ⊥
held_not_7 s h e = not_seven s.held (ranges s h).held e

-- ---- a turn

module _ (s : Reader) (xs : List ℕ) (h : ranges_of s ≡ true) where
  -- 65,536 bytes and three carried ones hold at most 16,384 records
  pub answers_fit : length xs ≤ 65536 → length (run_of s xs).answers ≤ 32768
  answers_fit k =
      let c = leb-true s.carried 3 (ranges s h).place.few in
      omega (arith, run_four s xs, run_even s xs)

  -- a record's number is at most the count, of 32 bits
  pub done_fits : Bytes xs → s.done * 2 + length (run_of s xs).answers < 8589934592
  done_fits k =
      let t = (run_of s xs).reader in
      let r = run_ranges s xs k h in
      let d = leb-true t.done t.count (ranges t r).place.done in
      omega (arith, run_even s xs, count_fits t r)
