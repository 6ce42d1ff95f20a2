-- The column "lasting": after a call from a state in its ranges the state holds the code if it is 1 to 5 or 9, and none after 0 and 7.
-- Assumes nothing.
use Prim.Native.Nat.{ℕ, ◌-◌}
use mathlib.Core.Path.{◌≡◌, refl}
use mathlib.Core.Bool.{true, cond}
use mathlib.Core.List.{List, [], ◌∷◌}
use lib.ListN.{length}
use Rattle.capture.specs.declared.Reader.{Reader}
use Rattle.capture.specs.Reader.{held_test, turn_of, pair_of, ranges_of, feed_of, call_of}
use Rattle.capture_laws.specs.Codes.{lasting_of}
use Rattle.capture.proofs.InRange.{ranges}
use Rattle.capture_laws.proofs.Held.{by_code}
use Rattle.capture_laws.proofs.Ways.{way, held_kept, none_before}
use Rattle.capture.proofs.Outcomes.{feed_stop, feed_on, feed_full}
use Rattle.capture_laws.proofs.Run.{cases}

abbrev kept_code : ℕ → ℕ
kept_code code = cond (lasting_of code) code 0

itself : (code : ℕ) → held_test code ≡ true → code ≡ kept_code code
itself = by_code (λ (code : ℕ). code ≡ kept_code code) refl refl refl refl refl refl refl

feed_held : (s : Reader) (xs : List ℕ) (room : ℕ) → held_test s.held ≡ true → (feed_of s xs room).reader.held ≡ kept_code (feed_of s xs room).code
unfolding feed_of
feed_held s [] room h = itself s.held h
feed_held s (b ∷ xs) room h =
    let t = turn_of s b in
    let can = held_kept (way s b) h in
    cases _ s b room
    (λ n. rw (feed_stop s b xs room n) (itself t.reader.held can))
    (λ z l. rw (feed_on s b xs room z l) (feed_held t.reader xs (room - length (pair_of t)) can))
    (λ z l. rw (feed_full s b xs room z l) (none_before (way s b) z))

pub lasts : (s : Reader) (xs : List ℕ) (room : ℕ) → ranges_of s ≡ true
    → (call_of s xs room).reader.held ≡ cond (lasting_of (call_of s xs room).code) (call_of s xs room).code 0
lasts s xs room r = rw r (feed_held s xs room (ranges s r).held)
