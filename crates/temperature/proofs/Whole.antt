-- `whole`: a byte with no eighths is its degrees times 8. `in_degrees`: two such compare in eighths as they do in degrees.
-- Assumes nothing.
use mathlib.Core.Path.{◌≡◌}
use Prim.Native.Nat.{ℕ, ◌+◌, ◌*◌}
use native.Mathlib.Omega.{arith}
use lib.IntN.{ℤ, pos, negsuc, ◌*ℤ◌, +ℤ_idr}
use lib.Signed.{lt_z}
use lib.Dec.{ltb}
use borrow.Author.Tests.{lt-ltb, le-ltb, ltb-true, ltb-false}
use Rattle.laws.proofs.Choices.{by_test}
use Rattle.temperature.specs.Temperature.{degrees_of, eighths_of}
use Rattle.temperature.proofs.Laws.{eight}

ltb_8 : (a b : ℕ) → ltb (a * 8) (b * 8) ≡ ltb a b
ltb_8 a b =
    by_test (ltb a b) (λ e. rw e (lt-ltb (a * 8) (b * 8) (omega (arith, ltb-true a b e))))
    (λ e. rw e (le-ltb (a * 8) (b * 8) (omega (arith, ltb-false a b e))))

ltb_87 : (a b : ℕ) → ltb (a * 8 + 7) (b * 8 + 7) ≡ ltb a b
ltb_87 a b =
    by_test (ltb a b) (λ e. rw e (lt-ltb (a * 8 + 7) (b * 8 + 7) (omega (arith, ltb-true a b e))))
    (λ e. rw e (le-ltb (a * 8 + 7) (b * 8 + 7) (omega (arith, ltb-false a b e))))

less_8 : (x y : ℤ) → lt_z (x *ℤ pos 8) (y *ℤ pos 8) ≡ lt_z x y
less_8 (pos a) (pos b) = ltb_8 a b
less_8 (pos a) (negsuc b) = rw (eight b)
less_8 (negsuc a) (pos b) = rw (eight a)
less_8 (negsuc a) (negsuc b) = rw (eight a, eight b) (ltb_87 b a)

pub whole : (byte : ℕ) → eighths_of byte 0 ≡ degrees_of byte *ℤ pos 8
unfolding eighths_of
whole byte = +ℤ_idr (degrees_of byte *ℤ pos 8)

-- two bytes compare in eighths as in degrees
pub in_degrees : (x y : ℕ) → lt_z (eighths_of x 0) (eighths_of y 0) ≡ lt_z (degrees_of x) (degrees_of y)
in_degrees x y = rw (whole x, whole y) (less_8 (degrees_of x) (degrees_of y))
