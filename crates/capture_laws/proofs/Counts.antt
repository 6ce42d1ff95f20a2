-- Two answer bytes for each record done, and so a bound on what a call writes.
-- Assumes nothing.
use Prim.Native.Nat.{ℕ, suc, ◌+◌, ◌-◌, ◌*◌, ◌<◌}
use mathlib.Core.Path.{◌≡◌, refl, ap}
use mathlib.Core.List.{List, [], ◌∷◌}
use native.Mathlib.Omega.{arith}
use lib.ListN.{length, get_or, length-append}
use lib.Dec.{ltb, eqb}
use Rattle.record.specs.Record.{Record}
use Rattle.std.specs.Prelude.{Ok, Err}
use Rattle.record.specs.Record.{decode_of}
use Rattle.capture.specs.declared.Reader.{Reader}
use Rattle.capture.specs.Reader.{in_header, Turn, head_of, judged_of, record_of, turn_of, pair_of, feed_of, call_of, fresh_of}
use Rattle.capture_laws.specs.Schedule.{Bytes}
use borrow.Author.Tests.{leb-true, eqb-true}
use Rattle.capture.proofs.InRange.{ranges, count_fits}
use Rattle.capture_laws.proofs.Cuts.{fresh_ranges}
use Rattle.laws.proofs.Choices.{cond_ind}
use Rattle.capture.proofs.Turns.{head_ind}
use Rattle.capture.proofs.Outcomes.{feed_stop, feed_full, feed_on}
use Rattle.capture_laws.proofs.Run.{cases, feed_ranges}

-- what a turn adds to the records done, twice, is what it answers
abbrev Even : Reader → Turn → Type 0
Even s t = t.reader.done * 2 ≡ s.done * 2 + length (pair_of t)

judged_even : (s : Reader) (d : Record) → Even s (judged_of s d)
judged_even s (Ok e) = omega arith
judged_even s (Err why) = omega arith

head_same : (s : Reader) (b : ℕ) → (head_of s b).done ≡ s.done
head_same s b = head_ind s b (λ (t : Reader). t.done ≡ s.done) refl refl refl refl refl refl

turn_even : (s : Reader) (b : ℕ) → Even s (turn_of s b)
unfolding turn_of record_of
turn_even s b =
    cond_ind (Even s) (eqb s.held 0)
    (λ _. cond_ind (Even s) (in_header s) (λ _. omega (arith, head_same s b))
    (λ _. cond_ind (Even s) (ltb s.done s.count)
    (λ _. cond_ind (Even s) (ltb s.carried 3) (λ _. omega arith) (λ _. judged_even s (decode_of _ _ _ _ b)))
    (λ _. omega arith)))
    (λ _. omega arith)

-- a byte that is refused answers nothing
refused_quiet : (s : Reader) (b : ℕ) → ((turn_of s b).reader.held ≡ 0 → ⊥) → pair_of (turn_of s b) ≡ []
unfolding turn_of record_of
refused_quiet s b =
    cond_ind Quiet (eqb s.held 0)
    (λ z. cond_ind Quiet (in_header s) (λ _ _. refl)
    (λ _. cond_ind Quiet (ltb s.done s.count)
    (λ _. cond_ind Quiet (ltb s.carried 3) (λ _ _. refl) (λ _. judged_quiet (eqb-true _ _ z) (decode_of _ _ _ _ b)))
    (λ _ _. refl)))
    (λ _ _. refl)
  where
    Quiet : Turn → Type 0
    Quiet t = (t.reader.held ≡ 0 → ⊥) → pair_of t ≡ []

    judged_quiet : s.held ≡ 0 → (d : Record) → ((judged_of s d).reader.held ≡ 0 → ⊥) → pair_of (judged_of s d) ≡ []
    judged_quiet z (Ok e) n = absurd (n z)
    judged_quiet z (Err why) n = refl

pub feed_even : (s : Reader) (xs : List ℕ) (room : ℕ) → (feed_of s xs room).reader.done * 2 ≡ s.done * 2 + length (feed_of s xs room).answers
unfolding feed_of
feed_even s [] room = omega arith
feed_even s (b ∷ xs) room = cases _ s b room
    (λ n. rw (feed_stop s b xs room n) (omega (arith, turn_even s b, ap length (refused_quiet s b n))))
    (λ z l.
    let rest = feed_even (turn_of s b).reader xs (room - length (pair_of (turn_of s b))) in
    rw (feed_on s b xs room z l) (simp length-append (omega (arith, turn_even s b, rest))))
    (λ z l. rw (feed_full s b xs room z l) (omega arith))

-- a slice's rule, as a fact of the list
pub bytes_of : (xs : List ℕ) → ((i : ℕ) → get_or xs i 0 < 256) → Bytes xs
bytes_of [] h = tt
bytes_of (b ∷ xs) h = (h 0, bytes_of xs (λ i. h (suc i)))

-- a whole capture writes fewer than 2 ^ 33 bytes
pub written_small : (xs : List ℕ) (room : ℕ) → Bytes xs → length (call_of fresh_of xs room).answers < 8589934592
written_small xs room k =
    rw fresh_ranges
    (let s = (feed_of fresh_of xs room).reader in
    let h = feed_ranges fresh_of xs room k fresh_ranges in
    omega (arith, feed_even fresh_of xs room, leb-true s.done s.count (ranges s h).place.done, count_fits s h))
