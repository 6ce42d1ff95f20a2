-- A call with any room against the run with room for all. `feed_fits`: where the answers fit, they are the same. `feed_short`: where they
-- do not, the code is 7, the pairs that fit are the first of the run's, and the bytes consumed are the most of which all answers fit.
-- `one_short`: that determines the outcome.
-- Assumes nothing.
use Prim.Native.Nat.{ℕ, suc, ◌+◌, ◌-◌, ◌*◌, ◌/◌, ◌≤◌, ◌<◌}
use mathlib.Core.Path.{◌≡◌, refl, sym, ap, ◌∙◌}
use mathlib.Core.List.{List, [], ◌∷◌, ◌++◌, append-nil}
use mathlib.Core.Bool.{Bool, true, false, cond}
use mathlib.Core.Logic.{◌⊎◌, inl, inr, ⊎_elim}
use native.Mathlib.Omega.{arith}
use native.Mathlib.Nat.{sub-zero}
use lib.Dec.{leb, eqb}
use lib.ListN.{length, take, drop, length-append, length-take, take-append-drop}
use lib.Seq.{take-suc, take-take}
use borrow.Author.Tests.{leb-true, leb-false, eqb-true, eqb-false}
use Rattle.laws.proofs.Choices.{by_test}
use Rattle.capture.specs.declared.Reader.{Reader}
use Rattle.capture.specs.Reader.{Turn, Out, turn_of, pair_of, join_of, feed_of}
use Rattle.capture_laws.specs.Places.{byte_at, taken_of}
use Rattle.capture.proofs.Outcomes.{feed_stop, feed_full, feed_on}
use Rattle.capture_laws.proofs.Run.{run_of, run_nil, run_on, run_stop, run_held, run_append, feed_run, cases}
use Rattle.capture_laws.proofs.Places.{Full, ending, when_full}

pub feed_fits : (s : Reader) (xs : List ℕ) (room : ℕ) → length (run_of s xs).answers ≤ room → feed_of s xs room ≡ run_of s xs
unfolding feed_of
feed_fits s [] room h = sym (run_nil s)
feed_fits s (b ∷ xs) room h = cases _ s b room
    (λ n. feed_stop s b xs room n ∙ sym (run_stop s b xs n))
    (λ z l.
    let both = rw (run_on s b xs z) at h in
    let less : length (run_of (turn_of s b).reader xs).answers ≤ room - length (pair_of (turn_of s b)) = omega (arith, simp length-append at both) in
    let rest = feed_fits (turn_of s b).reader xs (room - length (pair_of (turn_of s b))) less in
    feed_on s b xs room z l ∙ ap (join_of 1 (pair_of (turn_of s b))) rest ∙ sym (run_on s b xs z))
    (λ z l. let both = rw (run_on s b xs z) at h in absurd (omega (arith, simp length-append at both)))

-- ---- where they do not

-- what is short: the code; the answers that fit; the bytes consumed and the state, which are those of the run that ends there, with those
-- answers; and with one byte more there are more answers than room
pub record Short (s : Reader) (xs : List ℕ) (room : ℕ) (o : Out) : Type 0 where
  pub code : o.code ≡ 7
  pub answers : o.answers ≡ take (room / 2 * 2) (run_of s xs).answers
  pub front : run_of s (take o.consumed xs) ≡ taken_of o.consumed o.answers o.reader
  pub next : room < length (run_of s (take (suc o.consumed) xs)).answers

-- a pair, then the rest with two bytes less of room
pair_first : (room : ℕ) (pair rest : List ℕ) → (pair ≡ []) ⊎ (length pair ≡ 2) → length pair ≤ room
    → pair ++ take ((room - length pair) / 2 * 2) rest ≡ take (room / 2 * 2) (pair ++ rest)
pair_first room [] rest k h = rw (sub-zero room)
pair_first room (x ∷ []) rest (inl e) h = let z : ◌≡◌ {A = ℕ} 0 1 = cc in absurd (omega arith)
pair_first room (x ∷ []) rest (inr e) h = absurd (omega arith)
pair_first room (x ∷ y ∷ []) rest k h =
    let two : room / 2 * 2 ≡ 2 + (room - 2) / 2 * 2 = omega arith in
    rw two (shift ((room - 2) / 2 * 2))
  where
    shift : (n : ℕ) → x ∷ y ∷ take n rest ≡ take (2 + n) (x ∷ y ∷ rest)
    shift n = let s : 2 + n ≡ suc (suc n) = omega arith in rw s
pair_first room (x ∷ y ∷ z ∷ l) rest (inl e) h = let z : ◌≡◌ {A = ℕ} 0 1 = cc in absurd (omega arith)
pair_first room (x ∷ y ∷ z ∷ l) rest (inr e) h = absurd (omega arith)

none_or_two : (t : Turn) → (pair_of t ≡ []) ⊎ (length (pair_of t) ≡ 2)
none_or_two t = split t.pair
  where
    split : (p : Bool) → (cond p (t.first ∷ t.second ∷ []) [] ≡ []) ⊎ (length (cond p (t.first ∷ t.second ∷ []) []) ≡ 2)
    split true = inr refl
    split false = inl refl

-- the code and the answers
record Cut (o whole : Out) (room : ℕ) : Type 0 where
  code : o.code ≡ 7
  answers : o.answers ≡ take (room / 2 * 2) whole.answers

feed_cut : (s : Reader) (xs : List ℕ) (room : ℕ) → room < length (run_of s xs).answers → Cut (feed_of s xs room) (run_of s xs) room
unfolding feed_of
feed_cut s [] room h = absurd (omega (arith, ap (λ (o : Out). length o.answers) (run_nil s)))
feed_cut s (b ∷ xs) room h = cases _ s b room
    (λ n. absurd (omega (arith, ap (λ (o : Out). length o.answers) (run_stop s b xs n))))
    (λ z l.
    let pair = pair_of (turn_of s b) in
    let rest = (run_of (turn_of s b).reader xs).answers in
    let both = rw (run_on s b xs z) at h in
    let less : room - length pair < length rest = omega (arith, simp length-append at both) in
    let r = feed_cut (turn_of s b).reader xs (room - length pair) less in
    rw (feed_on s b xs room z l, run_on s b xs z)
    (record { code = r.code; answers = rw r.answers (pair_first room pair rest (none_or_two (turn_of s b)) l) }))
    (λ z l.
    let few : room / 2 * 2 ≡ 0 = few_left room l in
    rw (feed_full s b xs room z l) (record { code = refl; answers = rw few }))
  where
    few_left : (room : ℕ) → room < length (pair_of (turn_of s b)) → room / 2 * 2 ≡ 0
    few_left room l = ⊎_elim (λ e. absurd (omega (arith, ap length e))) (λ e. omega arith) (none_or_two (turn_of s b))

-- a state that holds a code answers nothing
none_held : (s : Reader) (xs : List ℕ) (room : ℕ) → room < length (run_of s xs).answers → s.held ≡ 0
none_held s xs room h =
    by_test (eqb s.held 0) (λ e. eqb-true _ _ e)
    (λ e. absurd (omega (arith, ap (λ (o : Out). length o.answers) (run_held s xs (eqb-false _ _ e)))))

-- the run up to the byte that waits for room, and with that byte
module _ (s : Reader) (xs : List ℕ) (room : ℕ) {n : ℕ} {answers : List ℕ} {t : Reader} (f : Full s xs room n answers t) where
  run_front : run_of s (take n xs) ≡ taken_of n answers t
  run_front =
      let e = f.reached.front in
      sym (feed_run s (take n xs) room (λ q. omega (arith, ap (λ (o : Out). o.code) e))) ∙ e

  run_next : (run_of s (take (suc n) xs)).answers ≡ answers ++ pair_of (turn_of t (byte_at xs n))
  run_next =
      let b = byte_at xs n in
      rw (take-suc xs n 0 f.reached.there, run_append s (take n xs) (b ∷ []), run_front, run_on t b [] f.taken, run_nil (turn_of t b).reader)
      (ap (λ (l : List ℕ). answers ++ l) (append-nil (pair_of (turn_of t b))))

  more_answers : room < length (run_of s (take (suc n) xs)).answers
  more_answers = rw (run_next, length-append, f.pair) f.few

pub feed_short : (s : Reader) (xs : List ℕ) (room : ℕ) → room < length (run_of s xs).answers → Short s xs room (feed_of s xs room)
feed_short s xs room h =
    let c = feed_cut s xs room h in
    let f = when_full (ending s xs room (none_held s xs room h)) c.code in
    record { code = c.code; answers = c.answers; front = run_front s xs room f; next = more_answers s xs room f }

-- ---- that determines the outcome

-- more bytes, no fewer answers
answers_grow : (s : Reader) (xs : List ℕ) (n m : ℕ) → n ≤ m → length (run_of s (take n xs)).answers ≤ length (run_of s (take m xs)).answers
answers_grow s xs n m l =
    let front = take n xs in
    let later = drop n (take m xs) in
    let whole : take m xs ≡ front ++ later =
    sym (take-append-drop n (take m xs)) ∙ ap (λ (l : List ℕ). l ++ later) (take-take n m xs l) in
    rw (whole, run_append s front later, length-append) (omega arith)

module _ (s : Reader) (xs : List ℕ) (room : ℕ) {o p : Out} (x : Short s xs room o) (y : Short s xs room p) where
  -- what one has written fits, so that it stands no further than the other
  no_further : o.consumed ≤ p.consumed
  no_further =
      by_test (leb o.consumed p.consumed) (λ e. leb-true _ _ e)
      (λ e.
      let grown = answers_grow s xs (suc p.consumed) o.consumed (leb-false _ _ e) in
      let written = ap (λ (q : Out). length q.answers) x.front in
      let fits = ap length x.answers ∙ length-take (room / 2 * 2) (run_of s xs).answers in
      absurd (omega (arith, y.next)))

pub one_short : (s : Reader) (xs : List ℕ) (room : ℕ) {o p : Out} → Short s xs room o → Short s xs room p → o ≡ p
one_short s xs room {o} {p} x y =
    let same : o.consumed ≡ p.consumed = omega (arith, no_further s xs room x y, no_further s xs room y x) in
    let front : taken_of o.consumed o.answers o.reader ≡ taken_of p.consumed p.answers p.reader =
    sym x.front ∙ ap (λ (n : ℕ). run_of s (take n xs)) same ∙ y.front in
    λ i. record { code = (x.code ∙ sym y.code) i; consumed = (front i).consumed; answers = (front i).answers; reader = (front i).reader }
