-- The loop of `lead`, as mathematics: bytes that complete no record.
-- Assumes nothing.
use Prim.Native.Nat.{ℕ, ◌+◌, ◌≤◌, ◌<◌}
use mathlib.Core.Path.{◌≡◌, refl, sym, subst}
use mathlib.Core.List.{List}
use mathlib.Core.Bool.{Bool, true, false, not, ◌||◌}
use native.Mathlib.Omega.{arith}
use lib.ListN.{length, get_or}
use lib.Dec.{T, eqb}
use borrow.Author.Tests.{eqb-true, eqb-false}
use Rattle.capture.specs.declared.Reader.{Reader}
use Rattle.capture.specs.Reader.{quiet_of, turn_of, ranges_of}
use Rattle.capture.specs.Loops.{Onward, waits_of, Led}
use Rattle.capture.proofs.InRange.{turn_ranges}
use Rattle.capture.proofs.Feeds.{silent, stopped}

-- what is known at the loop's head
pub record Leading (input : List ℕ) (s : Reader) (from : ℕ) (n : Reader) (at : ℕ) : Type 0 where
  pub ok : ranges_of n ≡ true
  pub onward : (answers : List ℕ) (written : ℕ) → Onward input answers s from written answers n at written
  pub forward : from ≤ at
  pub within : at ≤ length input

pub lead_start : (input : List ℕ) (s : Reader) (from : ℕ) → ranges_of s ≡ true → from ≤ length input → Leading input s from s from
lead_start input s from r w = record { ok = r; onward = λ answers written o entry g. g; forward = omega arith; within = w }

module _ {input : List ℕ} {s : Reader} {from : ℕ} {n : Reader} {at : ℕ} (l : Leading input s from n at) where
  pub lead_end : length input ≤ at → Led input s from n at
  lead_end e = record { onward = l.onward; forward = l.forward; within = l.within; ready = λ h z. absurd (omega arith) }

  pub lead_ready : waits_of n ≡ true → Led input s from n at
  lead_ready w = record { onward = l.onward; forward = l.forward; within = l.within; ready = λ h z. w }

  module _ (h : at < length input) (small : get_or input at 0 < 256) {m : Reader} (turn : turn_of n (get_or input at 0) ≡ quiet_of m) where
    pub kept : ranges_of m ≡ true
    kept = rw turn at (turn_ranges n (get_or input at 0) small l.ok)

    pub lead_on : m.held ≡ 0 → Leading input s from m (at + 1)
    lead_on z = record {
      ok = kept;
      onward = λ answers written o entry g. silent (l.onward answers written o entry g) h (sym turn) kept z refl;
      forward = omega (arith, l.forward);
      within = omega arith;
    }

    pub lead_stopped : (m.held ≡ 0 → ⊥) → Led input s from m at
    lead_stopped x = record {
      onward = λ answers written o entry g. stopped (l.onward answers written o entry g) h (sym turn) kept x;
      forward = l.forward;
      within = l.within;
      ready = λ e z. absurd (x z);
    }

-- what follows where the input goes on and no code is held
pub onto : {input : List ℕ} {s : Reader} {from : ℕ} {n : Reader} {at : ℕ} → Led input s from n at → (eqb at (length input) || not (eqb n.held 0)) ≡ false
    → (at < length input) × (waits_of n ≡ true)
onto {input} {s} {from} {n} {at} l e = split (eqb at (length input)) (eqb n.held 0) refl refl e
  where
    split : (x y : Bool) → eqb at (length input) ≡ x → eqb n.held 0 ≡ y → (x || not y) ≡ false
        → (at < length input) × (waits_of n ≡ true)
    split true y p q f = absurd (subst T f tt)
    split false false p q f = absurd (subst T f tt)
    split false true p q f =
        let inside : at < length input = omega (arith, eqb-false at (length input) p, l.within) in
        (inside, l.ready inside (eqb-true n.held 0 q))
