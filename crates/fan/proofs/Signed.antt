-- A byte, and one byte less another, in sixteen signed bits.
-- Assumes nothing.
use Prim.Native.Nat.{ℕ, zero, suc, ◌<◌}
use native.Mathlib.Omega.{arith}
use lib.IntN.{ℤ, pos, ◌-ℤ◌}
use lib.Signed.{mag}
use lib.Dec.{ltb}
use borrow.Author.Tests.{ltb-true, ltb-false}
use mir.Syntax.{w8, w16}
use mir.Val.{SFits}
use Rattle.laws.proofs.Choices.{by_test}

less_mag : (t h : ℕ) → t < 32768 → h < 32768 → mag (pos t -ℤ pos h) < 32768
less_mag t zero p q = omega arith
less_mag t (suc h) p q =
    by_test (ltb t (suc h))
    (λ e. rw e (omega (arith, ltb-true t (suc h) e)))
    (λ e. rw e (omega (arith, ltb-false t (suc h) e)))

pub wide : {r : ℤ} → SFits w8 r → SFits w16 r
wide h = record { sfits = omega (arith, h.sfits) }

pub pos_fits : (t : ℕ) → t < 32768 → SFits w16 (pos t)
pos_fits t p = record { sfits = omega (arith, p) }

pub less_fits : (t h : ℕ) → t < 32768 → h < 32768 → SFits w16 (pos t -ℤ pos h)
less_fits t h p q = record { sfits = omega (arith, less_mag t h p q) }
