-- Three bytes of a record carried at once are three bytes carried one by one: `three_ahead` and `three_ranges`.
-- Assumes nothing.
use Prim.Native.Nat.{ℕ, ◌<◌}
use mathlib.Core.Path.{◌≡◌, sym, ap, ◌∙◌}
use mathlib.Core.List.{List, [], ◌∷◌}
use mathlib.Core.Bool.{true}
use native.Mathlib.Omega.{arith}
use native.Mathlib.Nat.{sub-zero}
use Rattle.pair.specs.declared.Bus.{Bus}
use Rattle.pair.specs.Bus.{header_length}
use Rattle.capture.specs.declared.Reader.{Reader}
use Rattle.capture.specs.Reader.{between_of, quiet_of, carry_of, turn_of, feed_of, join_of, ranges_of}
use Rattle.capture.specs.Loops.{carrying_of}
use Rattle.capture.proofs.Turns.{carried_turn}
use Rattle.capture.proofs.Outcomes.{join_join, feed_on}
use Rattle.capture.proofs.InRange.{turn_ranges}

-- between two records, one more counted
module _ (s : Reader) (done : ℕ) (bus : Bus) (z : s.held ≡ 0) (h : s.head ≡ header_length bus) (d : done < s.count) (a b c : ℕ) where
  abbrev none : Reader
  none = between_of s done bus

  abbrev one : Reader
  one = carry_of none a

  abbrev two : Reader
  two = carry_of one b

  abbrev three : Reader
  three = carrying_of s done bus a b c

  first : turn_of none a ≡ quiet_of one
  first = carried_turn none a z h d (omega arith)

  second : turn_of one b ≡ quiet_of two
  second = carried_turn one b z h d (omega arith)

  third : turn_of two c ≡ quiet_of three
  third = carried_turn two c z h d (omega arith)

  -- a byte that is taken with no answer
  taken : (t u : Reader) (x : ℕ) (xs : List ℕ) (room : ℕ) → turn_of t x ≡ quiet_of u → u.held ≡ 0
      → feed_of t (x ∷ xs) room ≡ join_of 1 [] (feed_of u xs room)
  taken t u x xs room e n = simp (e, sub-zero) at (feed_on t x xs room (rw e n) (rw e (omega arith)))

  pub three_ahead : (xs : List ℕ) (room : ℕ) → feed_of none (a ∷ b ∷ c ∷ xs) room ≡ join_of 3 [] (feed_of three xs room)
  three_ahead xs room =
      taken none one a (b ∷ c ∷ xs) room first z
      ∙ ap (join_of 1 []) (taken one two b (c ∷ xs) room second z ∙ ap (join_of 1 []) (taken two three c xs room third z))
      ∙ ap (join_of 1 []) (join_join 1 1 [] [] (feed_of three xs room))
      ∙ join_join 1 2 [] [] (feed_of three xs room)

  pub three_ranges : a < 256 → b < 256 → c < 256 → ranges_of none ≡ true → ranges_of three ≡ true
  three_ranges la lb lc r =
      let r1 : ranges_of one ≡ true = sym (ap (λ t. ranges_of t.reader) first) ∙ turn_ranges none a la r in
      let r2 : ranges_of two ≡ true = sym (ap (λ t. ranges_of t.reader) second) ∙ turn_ranges one b lb r1 in
      sym (ap (λ t. ranges_of t.reader) third) ∙ turn_ranges two c lc r2
