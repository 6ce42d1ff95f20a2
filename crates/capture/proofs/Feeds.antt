-- The loop of `feed`, as mathematics: what holds at each turn, and what each way out gives.
-- Assumes nothing.
use Prim.Native.Nat.{ℕ, ◌+◌, ◌-◌, ◌≤◌, ◌<◌}
use mathlib.Core.Path.{◌≡◌, refl, sym, ap, ◌∙◌}
use mathlib.Core.List.{List, [], ◌∷◌, ◌++◌, append-nil}
use mathlib.Core.Bool.{true, false, not, ◌||◌}
use native.Mathlib.Omega.{arith}
use native.Mathlib.Numerals.{add-one}
use native.Mathlib.Nat.{add-zero, sub-zero, zero-add, sub-add-eq}
use lib.ListN.{length, get_or, take, drop, take-append-drop, length-append, length-drop, drop_of_length-le}
use lib.Seq.{drop-cons, length-take-le, drop-drop, drop_at, take-append-add}
use lib.Dec.{eqb}
use Rattle.laws.proofs.Choices.{by_test}
use borrow.Author.Tests.{eqb-true, eqb-false, ne_eqb, lt-leb, not-true}
use Rattle.capture.specs.declared.Reader.{Reader}
use Rattle.capture.specs.declared.Fed.{Fed}
use Rattle.capture.specs.Reader.{Turn, ranges_of, turn_of, pair_of, feed_of, call_of, Out, stop_of, refuse_of, join_of, Meets}
use Rattle.capture.specs.Loops.{Going}
use Rattle.capture.proofs.Outcomes.{join_join, feed_on, feed_stop}

-- before the first byte
pub start : (s : Reader) (input entry : List ℕ) → ranges_of s ≡ true → Going (feed_of s input (length entry)) input entry entry s 0 0
start s input entry h = record {
  ok = h;
  within = omega arith;
  room = omega arith;
  long = refl;
  rest = refl;
  same = simp (zero-add, sub-zero);
}

front : (l : List ℕ) (x y : ℕ) (m : List ℕ) {n : ℕ} → length l ≡ n → take (n + 2) (l ++ (x ∷ y ∷ m)) ≡ l ++ (x ∷ y ∷ [])
front l x y m e = rw (← e) (take-append-add l (x ∷ y ∷ m) 2)

-- a way out after `at` bytes and `written` answer bytes, where the rest of the call gives an outcome with none of either
leave : (o : Out) (entry answers : List ℕ) (at written code : ℕ) (s : Reader) → written ≤ length entry → length answers ≡ length entry
    → drop written answers ≡ drop written entry → o ≡ join_of at (take written answers) (refuse_of s code)
    → Meets o (record { code = code; consumed = at; written = written; reader = s }) entry answers
leave o entry answers at written code s w l d e =
    let n : length (take written answers) ≡ written = length-take-le written answers (omega arith) in
    record {
      code = rw e;
      consumed = rw e (simp add-zero);
      written = rw e (simp (append-nil, n));
      reader = rw e;
      buffer = rw e (simp (append-nil, n, ← d, take-append-drop));
    }

held_feed : (s : Reader) (xs : List ℕ) (room : ℕ) → (s.held ≡ 0 → ⊥) → feed_of s xs room ≡ stop_of s
unfolding feed_of turn_of
held_feed s [] room n = refl
held_feed s (x ∷ xs) room n = simp (ne_eqb _ _ n)

module _ {o : Out} {input entry answers : List ℕ} {s : Reader} {at written : ℕ} (g : Going o input entry answers s at written) where
  out : (code : ℕ) (s' : Reader) → feed_of s (drop at input) (length entry - written) ≡ refuse_of s' code
      → Meets o (record { code = code; consumed = at; written = written; reader = s' }) entry answers
  out code s' e = leave _ entry answers at written code s' g.room g.long g.rest (g.same ∙ ap (join_of at (take written answers)) e)

  pub finished : length input ≤ at → Meets o (record { code = s.held; consumed = at; written = written; reader = s }) entry answers
  unfolding feed_of
  finished h = out s.held s (rw (drop_of_length-le input h))

  -- a state that holds a code takes nothing more
  pub held : (s.held ≡ 0 → ⊥) → Meets o (record { code = s.held; consumed = at; written = written; reader = s }) entry answers
  held n = out s.held s (held_feed s (drop at input) (length entry - written) n)

  -- the end of the input, or a state that holds a code
  pub closed : (eqb at (length input) || not (eqb s.held 0)) ≡ true
      → Meets o (record { code = s.held; consumed = at; written = written; reader = s }) entry answers
  closed e =
      by_test (eqb at (length input))
      (λ t. finished (omega (arith, eqb-true at (length input) t)))
      (λ f. held (eqb-false s.held 0 (not-true _ (rw f at e))))

  module _ (h : at < length input) {t : Turn} (turn : t ≡ turn_of s (get_or input at 0)) where
    next : drop at input ≡ get_or input at 0 ∷ drop (at + 1) input
    next = rw add-one (drop-cons input at 0 h)

    pub refused : (t.reader.held ≡ 0 → ⊥)
        → Meets o (record { code = t.reader.held; consumed = at; written = written; reader = t.reader }) entry answers
    unfolding feed_of
    refused n = out t.reader.held t.reader (rw next (simp (← turn, ne_eqb _ _ n)))

    pub full : t.reader.held ≡ 0 → t.pair ≡ true → length answers - written < 2
        → Meets o (record { code = 7; consumed = at; written = written; reader = s }) entry answers
    unfolding feed_of
    full z p n = out 7 s (rw next (simp (← turn, z, p, lt-leb 2 (length entry - written) (omega (arith, g.long)))))

    -- a refused byte: the state that holds the code stands for the one before it
    pub stopped : ranges_of t.reader ≡ true → (t.reader.held ≡ 0 → ⊥) → Going o input entry answers t.reader at written
    stopped k n = record {
      ok = k;
      within = g.within;
      room = g.room;
      long = g.long;
      rest = g.rest;
      same = g.same ∙ ap (join_of at (take written answers)) (stop ∙ sym (held_feed t.reader (drop at input) (length entry - written) n));
    }
      where
        stop : feed_of s (drop at input) (length entry - written) ≡ stop_of t.reader
        stop =
            let e = feed_stop s (get_or input at 0) (drop (at + 1) input) (length entry - written) (rw turn at n) in
            rw next (rw (← turn) at e)

    -- a turn that is taken: the outcome so far, with the pair behind it
    taken : t.reader.held ≡ 0 → length (pair_of t) ≤ length entry - written
        → o ≡ join_of (at + 1) (take written answers ++ pair_of t) (feed_of t.reader (drop (at + 1) input) (length entry - written - length (pair_of t)))
    taken z l =
        let b = get_or input at 0 in
        let room = length entry - written in
        let more = drop (at + 1) input in
        let u = turn_of s b in
        g.same
        ∙ rw (next, turn)
        (ap (join_of at (take written answers)) (feed_on s b more room (rw turn at z) (rw turn at l))
        ∙ join_join at 1 (take written answers) (pair_of u) (feed_of u.reader more (room - length (pair_of u))))

    pub silent : ranges_of t.reader ≡ true → t.reader.held ≡ 0 → t.pair ≡ false → Going o input entry answers t.reader (at + 1) written
    silent k z p = record {
      ok = k;
      within = omega arith;
      room = g.room;
      long = g.long;
      rest = g.rest;
      same = simp (p, append-nil, sub-zero) at (taken z (simp p (omega arith)));
    }

    pub paired : {after : List ℕ} → ranges_of t.reader ≡ true → t.reader.held ≡ 0 → t.pair ≡ true → 2 ≤ length answers - written
        → after ≡ take written answers ++ (t.first ∷ t.second ∷ drop 2 (drop written answers)) → Going o input entry after t.reader (at + 1) (written + 2)
    paired {after} k z p n e =
        let w : length (take written answers) ≡ written = length-take-le written answers (omega (arith, g.long, g.room)) in
        let f : take (written + 2) after ≡ take written answers ++ (t.first ∷ t.second ∷ []) =
        rw e (front (take written answers) t.first t.second (drop 2 (drop written answers)) w)
        in
        record {
          ok = k;
          within = omega arith;
          room = omega (arith, g.long);
          long = rw e (simp (length-append, length-drop, w) (omega (arith, g.long)));
          rest = rw e (simp (← drop-drop, drop_at, g.rest));
          same = rw (f, sub-add-eq) (simp p at (taken z (simp p (omega (arith, g.long)))));
        }

-- at a state in its ranges the call is the feed; at another it is 8 and changes nothing
pub called : (s : Reader) (input entry : List ℕ) {r : Fed} {exit : List ℕ} → ranges_of s ≡ true
    → Meets (feed_of s input (length entry)) r entry exit → Meets (call_of s input (length entry)) r entry exit
called s input entry h m = simp h m

pub outside : (s : Reader) (input entry : List ℕ) → ranges_of s ≡ false
    → Meets (call_of s input (length entry)) (record { code = 8; consumed = 0; written = 0; reader = s }) entry entry
outside s input entry h = simp h (record { code = refl; consumed = refl; written = refl; reader = refl; buffer = refl })
