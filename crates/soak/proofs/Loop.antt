-- The loop of `back`: what is read, and what is left. `quads_are`: a byte string's complete records are its arrays of four bytes.
-- Assumes nothing.
use Prim.Native.Nat.{ℕ, zero, suc, ◌+◌, ◌*◌, ◌/◌, ◌%◌}
use mathlib.Core.Path.{◌≡◌, refl, sym, ap, ◌∙◌}
use mathlib.Core.Bool.{true, false}
use mathlib.Core.List.{List, [], ◌∷◌, ◌++◌, map, reverse, reverse-cons}
use native.Mathlib.Omega.{arith}
use lib.IntN.{ℤ}
use lib.ListN.{length, length-append}
use Rattle.std.specs.Prelude.{Ok, Err}
use Rattle.std.proofs.lemmas.List.{reverse-append, map-append}
use Rattle.std.specs.Simd.{first_chunks}
use Rattle.device.specs.declared.Device.{Device}
use Rattle.device.specs.declared.Event.{Event}
use Rattle.record.specs.declared.refusal.Refusal.{Refusal}
use Rattle.record.specs.declared.refusal.Refusal.TheVariants.{Kind, Operand}
use Rattle.record.specs.Record.{Record, code_of}
use Rattle.record.specs.Fours.{Quad, quads}
use Rattle.soak.specs.declared.Soaked.{Soaked}
use Rattle.soak.specs.declared.Ends.{Ends}
use Rattle.soak.specs.Soak.{Running, met_of, latest_first, both_decided, refuses_of, answers_of, on_met, back_of}
use Rattle.soak.specs.Ends.{quad, quad_in, remote_of, told_if, readings_of, began_of, before_of, decided_by, pulled_by}
use Rattle.soak.proofs.Runs.{AllConvert, converts}
use Rattle.soak.proofs.Tables.{ends_by, none_read, before_is, decided_is, pulled_is}

-- ---- records by fours

pub quads_are : (xs : List ℕ) (n : ℕ) → length xs ≡ n * 4 → map quad_in (first_chunks 4 n xs) ≡ quads xs
quads_are [] zero e = refl
quads_are [] (suc n) e = absurd (omega arith)
quads_are (k ∷ []) n e = absurd (omega arith)
quads_are (k ∷ a ∷ []) n e = absurd (omega arith)
quads_are (k ∷ a ∷ b ∷ []) n e = absurd (omega arith)
quads_are (k ∷ a ∷ b ∷ c ∷ xs) zero e = absurd (omega arith)
quads_are (k ∷ a ∷ b ∷ c ∷ xs) (suc n) e = ap (λ (l : List Quad). quad k a b c ∷ l) (quads_are xs n (omega arith))

reversed : {A B : Type 0} (f : A → B) (xs : List A) → reverse (map f xs) ≡ map f (reverse xs)
reversed f [] = refl
reversed {B = B} f (x ∷ xs) =
    reverse-cons (f x) (map f xs)
    ∙ ap (λ (l : List B). l ++ (f x ∷ [])) (reversed f xs)
    ∙ sym (map-append f (reverse xs) (x ∷ []))
    ∙ ap (map f) (sym (reverse-cons x xs))

-- the records of a stretch from the end backwards
pub latest_are : (xs : List ℕ) → length xs % 4 ≡ 0 → map quad_in (reverse (first_chunks 4 (length xs / 4) xs)) ≡ latest_first xs
latest_are xs h = sym (reversed quad_in (first_chunks 4 (length xs / 4) xs)) ∙ ap reverse (quads_are xs (length xs / 4) (omega arith))

-- ---- one record of the definition

pub record EventOf (r : Record) : Type 0 where
  pub event : Event
  pub is : r ≡ Ok event

pub valid : (r : Record) → code_of r ≡ 0 → EventOf r
unfolding code_of
valid (Ok e) z = record { event = e; is = refl }
valid (Err Kind) z = absurd (omega arith)
valid (Err Operand) z = absurd (omega arith)

met_refused : (r : Record) → (code_of r ≡ 0 → ⊥) → (further : Event → Soaked) (read : ℕ) → on_met r further read ≡ refuses_of (code_of r) read
unfolding code_of
met_refused (Ok e) z further read = absurd (z refl)
met_refused (Err why) z further read = refl

module _ (d : Device) (read : List Event) where
  pub back_decided : (qs : List Quad) → both_decided d read ≡ true → back_of d read qs ≡ answers_of d read
  unfolding back_of
  back_decided [] b = refl
  back_decided (q ∷ qs) b = rw b

  pub back_refused : (q : Quad) (qs : List Quad) → both_decided d read ≡ false → (code_of (met_of q) ≡ 0 → ⊥)
      → back_of d read (q ∷ qs) ≡ refuses_of (code_of (met_of q)) (length read + 1)
  unfolding back_of
  back_refused q qs b z = rw b (met_refused (met_of q) z (λ (e : Event). back_of d (e ∷ read) qs) (length read + 1))

  pub back_met : (q : Quad) (qs : List Quad) (e : Event) → both_decided d read ≡ false → met_of q ≡ Ok e → back_of d read (q ∷ qs) ≡ back_of d (e ∷ read) qs
  unfolding back_of
  back_met q qs e b m = rw (b, m)

  pub back_none : back_of d read [] ≡ answers_of d read
  unfolding back_of
  back_none = refl

-- a refusal's code is not 0
pub refusal_code : (why : Refusal) → code_of (Err why) ≡ 0 → ⊥
unfolding code_of
refusal_code Kind e = absurd (omega arith)
refusal_code Operand e = absurd (omega arith)

-- what a record reads as an event, and as the two readings
pub record Reads (q : Quad) (s : List ℕ) (local : ℕ) (remote : ℤ) : Type 0 where
  pub event : Event
  pub is : met_of q ≡ Ok event
  pub local_is : q.a ≡ local
  pub remote_is : remote_of s q.kind q.b q.c ≡ remote

pub reads : (s : List ℕ) (q : Quad) (local : ℕ) (remote : ℤ) → readings_of s q ≡ Ok (local, remote) → Reads q s local remote
reads s q local remote = by_met (met_of q) refl
  where
    by_met : (r : Record) → met_of q ≡ r → told_if r q.a (remote_of s q.kind q.b q.c) ≡ Ok (local, remote) → Reads q s local remote
    by_met (Ok e) m t =
        let both : ◌≡◌ {A = ℕ × ℤ} (q.a, remote_of s q.kind q.b q.c) (local, remote) = cc in
        record { event = e; is = m; local_is = ap (λ (p : ℕ × ℤ). p.0) both; remote_is = ap (λ (p : ℕ × ℤ). p.1) both }
    by_met (Err why) m t = cc

pub unread : (s : List ℕ) (q : Quad) (why : Refusal) → readings_of s q ≡ Err why → met_of q ≡ Err why
unread s q why = by_met (met_of q)
  where
    by_met : (r : Record) → told_if r q.a (remote_of s q.kind q.b q.c) ≡ Err why → r ≡ Err why
    by_met (Ok e) t = cc
    by_met (Err w) t = cc

-- ---- the loop

-- of the arrays `xs`: so many are read, the last first, and those before them are left
pub record Going (d : Device) (xs : List (List ℕ)) (t : Ends) (count : ℕ) (left : List (List ℕ)) : Type 0 where
  pub read : List Event
  pub all : AllConvert read
  pub table : t ≡ ends_by d read
  pub counted : count ≡ length read
  pub split : count + length left ≡ length xs
  pub same : back_of d [] (map quad_in (reverse xs)) ≡ back_of d read (map quad_in (reverse left))

pub begin : (d : Device) (xs : List (List ℕ)) (t : Ends) → t ≡ began_of → Going d xs t 0 xs
begin d xs t e = record { read = []; all = tt; table = e ∙ none_read d; counted = refl; split = omega arith; same = refl }

module _ {d : Device} {xs : List (List ℕ)} {t : Ends} {count : ℕ} {left : List (List ℕ)} (running : Running d) (g : Going d xs t count left) where
  decided_now : decided_by t ≡ both_decided d g.read
  decided_now = ap decided_by g.table ∙ decided_is d running g.read g.all

  module _ (before : List (List ℕ)) (x : List ℕ) (e : left ≡ before ++ (x ∷ [])) where
    pub fewer : count + 1 + length before ≡ length xs
    fewer = omega (arith, g.split, ap length e, length-append before (x ∷ []))

    module _ (b : decided_by t ≡ false) where
      undecided : both_decided d g.read ≡ false
      undecided = sym decided_now ∙ b

      next : back_of d [] (map quad_in (reverse xs)) ≡ back_of d g.read (quad_in x ∷ map quad_in (reverse before))
      next = g.same ∙ ap (λ (l : List (List ℕ)). back_of d g.read (map quad_in l)) (ap reverse e ∙ reverse-append before (x ∷ []))

      pub refused : (why : Refusal) → readings_of d.settings (quad_in x) ≡ Err why
          → back_of d [] (map quad_in (reverse xs)) ≡ refuses_of (code_of (Err why)) (count + 1)
      refused why r =
          let met = unread d.settings (quad_in x) why r in
          next
          ∙ back_refused d g.read (quad_in x) (map quad_in (reverse before)) undecided (λ z. refusal_code why (ap code_of (sym met) ∙ z))
          ∙ rw (met, g.counted)

      pub onward : (local : ℕ) (remote : ℤ) → readings_of d.settings (quad_in x) ≡ Ok (local, remote) → (u : Ends)
          → u ≡ before_of d.settings t local remote → Going d xs u (count + 1) before
      unfolding converts
      onward local remote r u p =
          let v = reads d.settings (quad_in x) local remote r in
          let c = converts (quad_in x) v.event v.is in
          record {
            read = v.event ∷ g.read;
            all = (c, g.all);
            table = p ∙ ap (λ (l : ℕ). before_of d.settings t l remote) (sym v.local_is)
                ∙ ap (λ (m : ℤ). before_of d.settings t (quad_in x).a m) (sym v.remote_is)
                ∙ ap (λ (y : Ends). before_of d.settings y c.local (c.remote d.settings)) g.table
                ∙ before_is d running g.read g.all v.event c;
            counted = omega (arith, g.counted);
            split = fewer;
            same = next ∙ back_met d g.read (quad_in x) (map quad_in (reverse before)) v.event undecided v.is;
          }

  -- what the loop returns at its end
  answered : back_of d [] (map quad_in (reverse xs)) ≡ answers_of d g.read
      → record { code = 0; pulled = pulled_by d t; read = count } ≡ back_of d [] (map quad_in (reverse xs))
  answered p = rw (g.table, pulled_is d running g.read g.all, g.counted) (sym p)

  pub ends_decided : decided_by t ≡ true → record { code = 0; pulled = pulled_by d t; read = count } ≡ back_of d [] (map quad_in (reverse xs))
  ends_decided b = answered (g.same ∙ back_decided d g.read (map quad_in (reverse left)) (sym decided_now ∙ b))

  pub ends_at_start : length left ≡ 0 → record { code = 0; pulled = pulled_by d t; read = count } ≡ back_of d [] (map quad_in (reverse xs))
  ends_at_start z = answered (g.same ∙ ap (λ (l : List (List ℕ)). back_of d g.read (map quad_in (reverse l))) (none left z) ∙ back_none d g.read)
    where
      none : (l : List (List ℕ)) → length l ≡ 0 → l ≡ []
      none [] e = refl
      none (y ∷ l) e = absurd (omega arith)
