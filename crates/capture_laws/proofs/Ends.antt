-- `all_end`: whatever buffers the calls are lent, two bytes or more after each 7, feeding the parts of a capture with exactly those buffers
-- comes to an end. A call that follows a 7 writes a pair and consumes a byte (`retry`), so that the unread rest is shorter. `all_as_whole`:
-- from a fresh state that end is the whole capture's.
-- Assumes nothing.
use Prim.Native.Nat.{ℕ, zero, suc, ◌≤◌}
use mathlib.Core.Path.{◌≡◌, refl, ap}
use mathlib.Core.List.{List, [], ◌∷◌, ◌++◌}
use mathlib.Core.Bool.{true}
use native.Mathlib.Omega.{arith}
use lib.ListN.{length, drop, length-append, length-drop}
use lib.Seq.{drop-cons}
use lib.Dec.{eqb}
use borrow.Author.Tests.{eqb-true, eqb-false}
use Rattle.capture.specs.declared.Reader.{Reader}
use Rattle.capture.specs.declared.Fed.{Fed}
use Rattle.capture.specs.Reader.{Turn, Out, turn_of, pair_of, feed_of, call_of, ranges_of, fresh_of, Meets}
use Rattle.capture_laws.specs.Places.{byte_at}
use Rattle.capture_laws.specs.Schedule.{Buffer, Part, to_calls, Roomy, PartEnds, PartsEnd, joined, Bytes, SameAsWhole}
use Rattle.capture_laws.specs.Schedule.Part.{last, again}
use Rattle.capture_laws.specs.Schedule.Parts.{one, more}
use Rattle.capture_laws.proofs.Cuts.{part_run, bytes_left, bytes_right, bytes_drop, fresh_ranges, cuts}
use Rattle.laws.proofs.Choices.{cond_ind, by_test}
use Rattle.capture.proofs.Outcomes.{feed_on}
use Rattle.capture_laws.proofs.Places.{feed_stands}
use Rattle.capture_laws.proofs.Run.{feed_ranges, run_ranges}

-- the unread rest of a call that gives 7 begins with a byte that completes a valid record
pub record Waiting (s : Reader) (xs : List ℕ) : Type 0 where
  pub byte : ℕ
  pub rest : List ℕ
  pub there : xs ≡ byte ∷ rest
  pub free : (turn_of s byte).reader.held ≡ 0
  pub pair : 1 ≤ length (pair_of (turn_of s byte))

pub waiting : (s : Reader) (xs : List ℕ) (room : ℕ) → ranges_of s ≡ true → (feed_of s xs room).code ≡ 7
    → Waiting (feed_of s xs room).reader (drop (feed_of s xs room).consumed xs)
waiting s xs room h q =
    let n = (feed_of s xs room).consumed in
    let w = (feed_stands s xs room h).waits q in
    let two : 1 ≤ length (pair_of (turn_of (feed_of s xs room).reader (byte_at xs n))) = rw w.pair (omega arith) in
    record { byte = byte_at xs n; rest = drop (suc n) xs; there = drop-cons xs n 0 w.place.there; free = w.taken; pair = two }

pair_two : (t : Turn) → length (pair_of t) ≤ 2
pair_two t = cond_ind (λ (l : List ℕ). length l ≤ 2) t.pair (λ _. omega arith) (λ _. omega arith)

-- the call after a 7: a pair at least, and a byte at least
pub retry : (s : Reader) (xs : List ℕ) (room : ℕ) → 2 ≤ room → Waiting s xs
    → (1 ≤ (feed_of s xs room).consumed) × (1 ≤ length (feed_of s xs room).answers)
retry s xs room l w =
    let e = feed_on s w.byte w.rest room w.free (omega (arith, pair_two (turn_of s w.byte))) in
    rw (w.there, e) (omega arith, simp length-append (omega (arith, w.pair)))

-- a result and a buffer that meet an outcome: there is one for every outcome
abbrev result_of : Out → Fed
result_of o = record { code = o.code; consumed = o.consumed; written = length o.answers; reader = o.reader }

abbrev buffer_of : Out → List ℕ → List ℕ
buffer_of o entry = o.answers ++ drop (length o.answers) entry

met : (o : Out) (entry : List ℕ) → Meets o (result_of o) entry (buffer_of o entry)
met o entry = record { code = refl; consumed = refl; written = refl; reader = refl; buffer = refl }

feed_met : (s : Reader) (xs entry : List ℕ) → ranges_of s ≡ true
    → Meets (call_of s xs (length entry)) (result_of (feed_of s xs (length entry))) entry (buffer_of (feed_of s xs (length entry)) entry)
feed_met s xs entry h = simp h (met (feed_of s xs (length entry)) entry)

-- a part takes a call or more
a_call : {buffers : List Buffer} {s : Reader} {xs : List ℕ} {o : Out} → Part buffers s xs o → buffers ≡ [] → ⊥
a_call (last m n) e = omega (arith, ap length e)
a_call (again m q l p) e = omega (arith, ap length e)

-- one more call, then the calls that follow its 7
module _ (lent : ℕ → Buffer) (s : Reader) (xs : List ℕ) (h : ranges_of s ≡ true) where
  abbrev first : Out
  first = feed_of s xs (length (lent 0))

  at_once : (first.code ≡ 7 → ⊥) → PartEnds lent s xs
  at_once n = record { calls = 1; outcome = _; fed = last (feed_met s xs (lent 0) h) n }

  -- what follows a 7 has a call or more
  one_more : Roomy lent → first.code ≡ 7 → PartEnds (λ i. lent (suc i)) first.reader (drop first.consumed xs) → PartEnds lent s xs
  one_more l q r = some r.calls r.outcome r.fed
    where
      some : (n : ℕ) (o : Out) → Part (to_calls (λ i. lent (suc i)) n) first.reader (drop first.consumed xs) o → PartEnds lent s xs
      some zero o p = absurd (a_call p refl)
      some (suc n) o p = record { calls = suc (suc n); outcome = _; fed = again (feed_met s xs (lent 0) h) q (l 0) p }

-- from a 7 on: `fuel` bytes or fewer are unread
go : (fuel : ℕ) (lent : ℕ → Buffer) → ((i : ℕ) → 2 ≤ length (lent i)) → (s : Reader) (xs : List ℕ) → Bytes xs → ranges_of s ≡ true → Waiting s xs
    → length xs ≤ fuel → PartEnds lent s xs
go zero lent l s xs k h w f = absurd (omega (arith, ap length w.there))
go (suc fuel) lent l s xs k h w f =
    let room = length (lent 0) in
    let c = feed_of s xs room in
    by_test (eqb c.code 7)
    (λ e.
    let q = eqb-true _ _ e in
    let shorter : length (drop c.consumed xs) ≤ fuel = simp length-drop (omega (arith, (retry s xs room (l 0) w).0)) in
    one_more lent s xs h (λ i. l (suc i)) q
    (go fuel (λ i. lent (suc i)) (λ i. l (suc i)) c.reader (drop c.consumed xs) (bytes_drop c.consumed xs k)
    (feed_ranges s xs room k h) (waiting s xs room h q) shorter))
    (λ e. at_once lent s xs h (eqb-false _ _ e))

-- whatever buffers are lent, the first of any length and the others of two or more, feeding a part with them, in their order, comes to its end
pub ends : (lent : ℕ → Buffer) → Roomy lent → (s : Reader) (xs : List ℕ) → Bytes xs → ranges_of s ≡ true → PartEnds lent s xs
ends lent l s xs k h =
    let room = length (lent 0) in
    let c = feed_of s xs room in
    by_test (eqb c.code 7)
    (λ e.
    let q = eqb-true _ _ e in
    one_more lent s xs h l q
    (go (length (drop c.consumed xs)) (λ i. lent (suc i)) l c.reader (drop c.consumed xs) (bytes_drop c.consumed xs k)
    (feed_ranges s xs room k h) (waiting s xs room h q) (omega arith)))
    (λ e. at_once lent s xs h (eqb-false _ _ e))

-- and so does feeding one or more parts, each with the buffers lent to it
pub all_end : (lent : ℕ → ℕ → Buffer) → ((j : ℕ) → Roomy (lent j)) → (s : Reader) (xs : List ℕ) (ps : List (List ℕ)) → Bytes (joined (xs ∷ ps))
    → ranges_of s ≡ true → PartsEnd lent s (xs ∷ ps)
all_end lent l s xs [] k h =
    let r = ends (lent 0) (l 0) s xs (bytes_left xs [] k) h in
    record { calls = r.calls ∷ []; outcome = r.outcome; fed = one r.fed }
all_end lent l s xs (ys ∷ ps) k h =
    let b = bytes_left xs (joined (ys ∷ ps)) k in
    let r = ends (lent 0) (l 0) s xs b h in
    let ranges : ranges_of r.outcome.reader ≡ true = rw (part_run r.fed b h) (run_ranges s xs b h) in
    let q = all_end (λ j. lent (suc j)) (λ j. l (suc j)) r.outcome.reader ys ps (bytes_right xs (joined (ys ∷ ps)) k) ranges in
    record { calls = r.calls ∷ q.calls; outcome = _; fed = more r.fed q.fed }

-- so from a fresh state, however the capture is cut and whatever is lent, there is a schedule, and its outcome is the whole's
pub all_as_whole : (lent : ℕ → ℕ → Buffer) → ((j : ℕ) → Roomy (lent j)) → (xs : List ℕ) (ps : List (List ℕ)) → Bytes (joined (xs ∷ ps))
    → (e : PartsEnd lent fresh_of (xs ∷ ps)) × SameAsWhole e.outcome (joined (xs ∷ ps))
all_as_whole lent l xs ps k = let e = all_end lent l fresh_of xs ps k fresh_ranges in (e, cuts (xs ∷ ps) e.outcome k e.fed)
