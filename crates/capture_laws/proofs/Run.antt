-- Byte by byte with room for every answer: the middle between a call and the whole capture.
-- Assumes nothing.
use Prim.Native.Nat.{ℕ, ◌+◌, ◌-◌, ◌≤◌, ◌<◌}
use mathlib.Core.Path.{◌≡◌, refl, ap, sym, ◌∙◌}
use mathlib.Core.List.{List, [], ◌∷◌, ◌++◌}
use mathlib.Core.Bool.{true, cond}
use native.Mathlib.Numerals.{one-add}
use lib.ListN.{length, drop}
use lib.Dec.{leb, eqb}
use borrow.Author.Tests.{eqb-true, eqb-false, ne_eqb, leb-true, leb-false}
use Rattle.capture.specs.declared.Reader.{Reader}
use Rattle.capture.specs.Reader.{Out, stop_of, join_of, turn_of, pair_of, feed_of, ranges_of}
use Rattle.capture_laws.specs.Schedule.{after, Bytes}
use Rattle.laws.proofs.Choices.{by_test}
use Rattle.capture.proofs.Outcomes.{join_join, join_none, feed_stop, feed_full, feed_on}
use Rattle.capture.proofs.InRange.{turn_ranges}

unfoldable pub run_of : Reader → List ℕ → Out
run_of s [] = stop_of s
run_of s (b ∷ bs) =
    cond (eqb (turn_of s b).reader.held 0)
    (join_of 1 (pair_of (turn_of s b)) (run_of (turn_of s b).reader bs))
    (stop_of (turn_of s b).reader)

pub run_nil : (s : Reader) → run_of s [] ≡ stop_of s
unfolding run_of
run_nil s = refl

module _ (s : Reader) (b : ℕ) (bs : List ℕ) where
  pub run_on : (turn_of s b).reader.held ≡ 0 → run_of s (b ∷ bs) ≡ join_of 1 (pair_of (turn_of s b)) (run_of (turn_of s b).reader bs)
  unfolding run_of
  run_on z = simp z

  pub run_stop : ((turn_of s b).reader.held ≡ 0 → ⊥) → run_of s (b ∷ bs) ≡ stop_of (turn_of s b).reader
  unfolding run_of
  run_stop n = simp (ne_eqb _ _ n)

-- the three things that a byte can do to a call
pub cases : (P : Type 0) (s : Reader) (b : ℕ) (room : ℕ) → (((turn_of s b).reader.held ≡ 0 → ⊥) → P)
    → ((turn_of s b).reader.held ≡ 0 → length (pair_of (turn_of s b)) ≤ room → P)
    → ((turn_of s b).reader.held ≡ 0 → room < length (pair_of (turn_of s b)) → P) → P
cases P s b room f g k =
    by_test (eqb (turn_of s b).reader.held 0)
    (λ z. by_test (leb (length (pair_of (turn_of s b))) room) (λ l. g (eqb-true _ _ z) (leb-true _ _ l)) (λ l. k (eqb-true _ _ z) (leb-false _ _ l)))
    (λ n. f (eqb-false _ _ n))

-- a state that holds a lasting code stays
pub held_stays : (s : Reader) (b : ℕ) → (s.held ≡ 0 → ⊥) → (turn_of s b).reader ≡ s
unfolding turn_of
held_stays s b n = simp (ne_eqb _ _ n)

pub run_held : (s : Reader) (xs : List ℕ) → (s.held ≡ 0 → ⊥) → run_of s xs ≡ stop_of s
run_held s [] n = run_nil s
run_held s (b ∷ bs) n = let e = held_stays s b n in run_stop s b bs (rw e n) ∙ ap stop_of e

after_join : (n : ℕ) (a : List ℕ) (o p : Out) → join_of n a (after o p) ≡ after (join_of n a o) p
after_join n a o p = join_join n o.consumed a o.answers p

-- the rest of a run is a run from where it stands
pub run_append : (s : Reader) (xs ys : List ℕ) → run_of s (xs ++ ys) ≡ after (run_of s xs) (run_of (run_of s xs).reader ys)
run_append s [] ys = rw (run_nil s) (sym (join_none (run_of s ys)))
run_append s (b ∷ xs) ys =
    by_test (eqb (turn_of s b).reader.held 0)
    (λ z.
    let h = eqb-true _ _ z in
    let t = turn_of s b in
    let r = run_of t.reader xs in
    rw (run_on s b (xs ++ ys) h, run_on s b xs h, run_append t.reader xs ys) (after_join 1 (pair_of t) r (run_of r.reader ys)))
    (λ z. let n = eqb-false _ _ z in rw (run_stop s b (xs ++ ys) n, run_stop s b xs n, run_held (turn_of s b).reader ys n) refl)

-- a call that does not end for want of room is the run
pub feed_run : (s : Reader) (xs : List ℕ) (room : ℕ) → ((feed_of s xs room).code ≡ 7 → ⊥) → feed_of s xs room ≡ run_of s xs
unfolding feed_of
feed_run s [] room n = sym (run_nil s)
feed_run s (b ∷ xs) room n = cases _ s b room
    (λ h. feed_stop s b xs room h ∙ sym (run_stop s b xs h))
    (λ h l.
    let t = turn_of s b in
    let e = feed_on s b xs room h l in
    e ∙ ap (join_of 1 (pair_of t)) (feed_run t.reader xs (room - length (pair_of t)) (λ q. n (rw e q))) ∙ sym (run_on s b xs h))
    (λ h l. absurd (n (rw (feed_full s b xs room h l) refl)))

pub drop_one : (b : ℕ) (xs : List ℕ) (n : ℕ) → drop (1 + n) (b ∷ xs) ≡ drop n xs
drop_one b xs n = rw one-add refl

-- and where it does, or not, the run goes on from there with what is unread
pub feed_resume : (s : Reader) (xs : List ℕ) (room : ℕ)
    → run_of s xs ≡ after (feed_of s xs room) (run_of (feed_of s xs room).reader (drop (feed_of s xs room).consumed xs))
unfolding feed_of
feed_resume s [] room = rw (run_nil s) refl
feed_resume s (b ∷ xs) room = cases _ s b room
    (λ h. rw (feed_stop s b xs room h, run_stop s b xs h, run_held (turn_of s b).reader (b ∷ xs) h) refl)
    (λ h l.
    let f = feed_of (turn_of s b).reader xs (room - length (pair_of (turn_of s b))) in
    rw (feed_on s b xs room h l, run_on s b xs h, drop_one b xs f.consumed)
    (ap (join_of 1 (pair_of (turn_of s b))) (feed_resume (turn_of s b).reader xs (room - length (pair_of (turn_of s b))))
    ∙ after_join 1 (pair_of (turn_of s b)) f (run_of f.reader (drop f.consumed xs))))
    (λ h l. rw (feed_full s b xs room h l) (sym (join_none (run_of s (b ∷ xs)))))

-- the ranges along a call and a run
pub feed_ranges : (s : Reader) (xs : List ℕ) (room : ℕ) → Bytes xs → ranges_of s ≡ true → ranges_of (feed_of s xs room).reader ≡ true
unfolding feed_of
feed_ranges s [] room k h = h
feed_ranges s (b ∷ xs) room k h = let o = turn_ranges s b k.0 h in cases _ s b room
    (λ n. rw (feed_stop s b xs room n) o)
    (λ z l. rw (feed_on s b xs room z l) (feed_ranges (turn_of s b).reader xs (room - length (pair_of (turn_of s b))) k.1 o))
    (λ z l. rw (feed_full s b xs room z l) h)

pub run_ranges : (s : Reader) (xs : List ℕ) → Bytes xs → ranges_of s ≡ true → ranges_of (run_of s xs).reader ≡ true
run_ranges s [] k h = rw (run_nil s) h
run_ranges s (b ∷ xs) k h = let o = turn_ranges s b k.0 h in
    by_test (eqb (turn_of s b).reader.held 0)
    (λ z. rw (run_on s b xs (eqb-true _ _ z)) (run_ranges (turn_of s b).reader xs k.1 o))
    (λ z. rw (run_stop s b xs (eqb-false _ _ z)) o)
