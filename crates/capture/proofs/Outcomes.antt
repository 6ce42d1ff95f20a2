-- One call's outcome: a byte refused, a byte taken, no room; and outcomes joined.
-- Assumes nothing.
use Prim.Native.Nat.{ℕ, ◌+◌, ◌-◌, ◌≤◌, ◌<◌}
use mathlib.Core.Path.{◌≡◌}
use mathlib.Core.List.{List, [], ◌∷◌, ◌++◌, append_assoc}
use native.Mathlib.Nat.{add_assoc, zero-add}
use lib.ListN.{length}
use borrow.Author.Tests.{ne_eqb, le-leb, lt-leb}
use Rattle.capture.specs.declared.Reader.{Reader}
use Rattle.capture.specs.Reader.{turn_of, pair_of, feed_of, Out, stop_of, refuse_of, join_of}

pub join_join : (m n : ℕ) (a b : List ℕ) (o : Out) → join_of m a (join_of n b o) ≡ join_of (m + n) (a ++ b) o
join_join m n a b o = simp (add_assoc, append_assoc)

pub join_none : (o : Out) → join_of 0 [] o ≡ o
join_none o = simp zero-add

module _ (s : Reader) (b : ℕ) (bs : List ℕ) (room : ℕ) where
  pub feed_stop : ((turn_of s b).reader.held ≡ 0 → ⊥) → feed_of s (b ∷ bs) room ≡ stop_of (turn_of s b).reader
  unfolding feed_of
  feed_stop n = simp (ne_eqb _ _ n)

  pub feed_full : (turn_of s b).reader.held ≡ 0 → room < length (pair_of (turn_of s b)) → feed_of s (b ∷ bs) room ≡ refuse_of s 7
  unfolding feed_of
  feed_full z l = simp (z, lt-leb _ _ l)

  pub feed_on : (turn_of s b).reader.held ≡ 0 → length (pair_of (turn_of s b)) ≤ room
      → feed_of s (b ∷ bs) room ≡ join_of 1 (pair_of (turn_of s b)) (feed_of (turn_of s b).reader bs (room - length (pair_of (turn_of s b))))
  unfolding feed_of
  feed_on z l = simp (z, le-leb _ _ l)
