-- `stands`: where a call stands, by its code, whatever the state, the bytes and the room. 0: all is consumed. 1 to 5, 7 and 9: the byte at the
-- place `consumed` is the one refused, or the one that completes a record without room. 8 and a held code: nothing moves.
-- Assumes nothing.
use Prim.Native.Nat.{ℕ, ◌+◌, ◌-◌, ◌≤◌, ◌<◌}
use mathlib.Core.Path.{◌≡◌, refl, sym, subst, ap, ◌∙◌}
use mathlib.Core.Bool.{Bool, true, false, cond}
use mathlib.Core.List.{List, [], ◌∷◌, ◌++◌}
use native.Mathlib.Numerals.{one-add}
use native.Mathlib.Omega.{arith}
use lib.Dec.{eqb}
use lib.ListN.{length, take, length-append}
use borrow.Author.Tests.{eqb-true, eqb-false}
use Rattle.laws.proofs.Choices.{cond_ind, by_test, clash}
use Rattle.capture.specs.declared.Reader.{Reader}
use Rattle.capture.specs.Reader.{Turn, Out, hold_of, quiet_of, stop_of, refuse_of, join_of, turn_of, pair_of, ranges_of, feed_of, call_of}
use Rattle.capture_laws.specs.Codes.{lasting_of}
use Rattle.capture_laws.specs.Places.{Unmoved, byte_at, taken_of, EndsBefore, Stands}
use Rattle.capture_laws.proofs.Ways.{Lasts, apart, way, refused}
use Rattle.capture_laws.proofs.Held.{not_seven}
use Rattle.capture.proofs.InRange.{ranges}
use Rattle.capture.proofs.Outcomes.{feed_stop, feed_full, feed_on}
use Rattle.capture_laws.proofs.Run.{cases, held_stays}

-- ---- the three ends of a call from a state that holds no code

-- before place n, where the bytes in front of it are taken and lead to t
pub record Reached (s : Reader) (xs : List ℕ) (room n : ℕ) (answers : List ℕ) (t : Reader) : Type 0 where
  pub there : n < length xs
  pub front : feed_of s (take n xs) room ≡ taken_of n answers t

-- there the byte completes a valid record, and fewer than two bytes of room are left
pub record Full (s : Reader) (xs : List ℕ) (room n : ℕ) (answers : List ℕ) (t : Reader) : Type 0 where
  pub reached : Reached s xs room n answers t
  pub taken : (turn_of t (byte_at xs n)).reader.held ≡ 0
  pub pair : (turn_of t (byte_at xs n)).pair ≡ true
  pub few : room < length answers + 2

pub data Ending (s : Reader) (xs : List ℕ) (room : ℕ) : Out → Type 0 where
  at_end : (n : ℕ) (answers : List ℕ) (t : Reader) → n ≡ length xs → Ending s xs room (taken_of n answers t)
  at_refusal : (n : ℕ) (answers : List ℕ) (t : Reader) (code : ℕ) → Reached s xs room n answers t → Lasts code
      → turn_of t (byte_at xs n) ≡ quiet_of (hold_of t code)
      → Ending s xs room (record { code = code; consumed = n; answers = answers; reader = hold_of t code })
  at_full : (n : ℕ) (answers : List ℕ) (t : Reader) → Full s xs room n answers t
      → Ending s xs room (record { code = 7; consumed = n; answers = answers; reader = t })

pub when_full : {s : Reader} {xs : List ℕ} {room : ℕ} {o : Out} → Ending s xs room o → o.code ≡ 7
    → Full s xs room o.consumed o.answers o.reader
when_full (at_end n answers t e) q = absurd (omega arith)
when_full (at_refusal n answers t code r m j) q = absurd (apart m refl q)
when_full (at_full n answers t f) q = f

-- no byte, and no code held
nothing : (s : Reader) → s.held ≡ 0 → stop_of s ≡ taken_of 0 [] s
nothing s z = λ i. record { code = z i; consumed = 0; answers = []; reader = s }

-- no byte is taken yet
at_start : (s : Reader) (b : ℕ) (xs : List ℕ) (room : ℕ) → s.held ≡ 0 → Reached s (b ∷ xs) room 0 [] s
unfolding feed_of
at_start s b xs room z = record { there = omega arith; front = nothing s z }

paired : (t : Turn) (room : ℕ) → room < length (pair_of t) → (t.pair ≡ true) × (room < 2)
paired t room l = split t.pair refl l
  where
    split : (p : Bool) → t.pair ≡ p → room < length (cond p (t.first ∷ t.second ∷ []) []) → (t.pair ≡ true) × (room < 2)
    split true e l = (e, l)
    split false e l = absurd (omega arith)

take_one : (b : ℕ) (xs : List ℕ) (n : ℕ) → take (1 + n) (b ∷ xs) ≡ b ∷ take n xs
take_one b xs n = rw one-add refl

-- one byte taken, and then the rest
module _ (s : Reader) (b : ℕ) (xs : List ℕ) (room : ℕ) (z : (turn_of s b).reader.held ≡ 0) (l : length (pair_of (turn_of s b)) ≤ room) where
  abbrev pair : List ℕ
  pair = pair_of (turn_of s b)

  onward : {n : ℕ} {answers : List ℕ} {t : Reader} → Reached (turn_of s b).reader xs (room - length pair) n answers t
      → Reached s (b ∷ xs) room (1 + n) (pair ++ answers) t
  onward {n} r =
      let first = ap (λ (ys : List ℕ). feed_of s ys room) (take_one b xs n) ∙ feed_on s b (take n xs) room z l in
      record { there = omega (arith, r.there); front = first ∙ ap (join_of 1 pair) r.front }

  then_rest : {o : Out} → Ending (turn_of s b).reader xs (room - length pair) o → Ending s (b ∷ xs) room (join_of 1 pair o)
  then_rest (at_end n answers t e) = at_end (1 + n) (pair ++ answers) t (omega arith)
  then_rest (at_refusal n answers t code r m j) = at_refusal (1 + n) (pair ++ answers) t code (onward r) m (rw one-add j)
  then_rest (at_full n answers t f) =
      let few : room < length (pair ++ answers) + 2 = simp length-append (omega (arith, f.few)) in
      at_full (1 + n) (pair ++ answers) t
      (record { reached = onward f.reached; taken = rw one-add f.taken; pair = rw one-add f.pair; few = few })

pub ending : (s : Reader) (xs : List ℕ) (room : ℕ) → s.held ≡ 0 → Ending s xs room (feed_of s xs room)
unfolding feed_of
ending s [] room z = subst (Ending s [] room) (sym (nothing s z)) (at_end 0 [] s refl)
ending s (b ∷ xs) room z = cases _ s b room
    (λ n.
    let r = refused (way s b) z n in
    rw (feed_stop s b xs room n, r.turn) (at_refusal 0 [] s r.code (at_start s b xs room z) r.lasts r.turn))
    (λ h l. rw (feed_on s b xs room h l) (then_rest s b xs room h l (ending (turn_of s b).reader xs (room - length (pair_of (turn_of s b))) h)))
    (λ h l.
    let p = paired (turn_of s b) room l in
    rw (feed_full s b xs room h l) (at_full 0 [] s (record { reached = at_start s b xs room z; taken = h; pair = p.0; few = p.1 })))

-- a state that holds a lasting code stops at once
pub feed_held : (s : Reader) (xs : List ℕ) (room : ℕ) → (s.held ≡ 0 → ⊥) → feed_of s xs room ≡ stop_of s
unfolding feed_of
feed_held s [] room n = refl
feed_held s (b ∷ xs) room n =
    let e = held_stays s b n in
    feed_stop s b xs room (rw e n) ∙ ap stop_of e

-- ---- by code

unmoved : (s : Reader) (code : ℕ) → Unmoved s (refuse_of s code)
unmoved s code = record { consumed = refl; answers = refl; reader = refl }

module _ (s : Reader) (xs : List ℕ) (room : ℕ) where
  -- the bytes in front, as a call takes them
  before : {n : ℕ} {answers : List ℕ} {t : Reader} {code : ℕ} {after : Reader} → ranges_of s ≡ true → Reached s xs room n answers t
      → EndsBefore s xs room (record { code = code; consumed = n; answers = answers; reader = after }) t
  before r p = record { there = p.there; front = rw r p.front }

  by_ending : {o : Out} → ranges_of s ≡ true → s.held ≡ 0 → Ending s xs room o → Stands s xs room o
  by_ending r z (at_end n answers t e) =
      record {
        done = λ _. e;
        out_of_ranges = λ q. absurd (omega arith);
        held = λ m. absurd (m z);
        refuses = λ _ q. clash q;
        waits = λ q. absurd (omega arith);
      }
  by_ending r z (at_refusal n answers t code p m j) =
      record {
        done = λ q. absurd (apart m refl q);
        out_of_ranges = λ q. absurd (apart m refl q);
        held = λ h. absurd (h z);
        refuses = λ _ _. record { before = t; place = before r p; judged = j; reader = refl };
        waits = λ q. absurd (apart m refl q);
      }
  by_ending r z (at_full n answers t f) =
      record {
        done = λ q. absurd (omega arith);
        out_of_ranges = λ q. absurd (omega arith);
        held = λ m. absurd (m z);
        refuses = λ _ q. clash q;
        waits = λ _. record { place = before r f.reached; taken = f.taken; pair = f.pair; few = f.few };
      }

  -- nothing moves: 8, or a lasting code already held
  still : {code : ℕ} → (code ≡ 0 → ⊥) → (code ≡ 7 → ⊥) → (s.held ≡ 0 → lasting_of code ≡ true → ⊥) → Stands s xs room (refuse_of s code)
  still {code} zero seven l =
      record {
        done = λ q. absurd (zero q);
        out_of_ranges = λ _. unmoved s code;
        held = λ _. unmoved s code;
        refuses = λ z q. absurd (l z q);
        waits = λ q. absurd (seven q);
      }

  pub feed_stands : ranges_of s ≡ true → Stands s xs room (feed_of s xs room)
  feed_stands r =
      by_test (eqb s.held 0)
      (λ e. let z = eqb-true s.held 0 e in by_ending r z (ending s xs room z))
      (λ e.
      let n = eqb-false s.held 0 e in
      subst (Stands s xs room) (sym (feed_held s xs room n)) (still n (not_seven s.held (ranges s r).held) (λ z _. n z)))

  pub stands : Stands s xs room (call_of s xs room)
  stands =
      cond_ind (Stands s xs room) (ranges_of s) feed_stands (λ _. still (λ q. omega arith) (λ q. omega arith) (λ _ q. clash q))
