use mathlib.Core.Path.{◌≡◌, refl}
use mathlib.Core.Bool.{not}
use Prim.Native.Nat.{◌<◌, ◌^◌, ◌-◌, suc}
use native.Mathlib.Omega.{arith}
use lib.IntN.{ℤ, pos, negsuc}
use lib.Signed.{mag}
use lib.Dec.{eqb, ltb}
use borrow.Author.Tests.{eq-eqb, ne_eqb, ltb-true}
use mir.Syntax.{w16}
use mir.Val.{of_z}
use mir.Facts.{to_z-of_z}
use Rattle.std.specs.Int.{int_max, int_min}
use Rattle.laws.proofs.Choices.{by_test}
use Rattle.temperature.specs.declared.Reading.{Reading}
use Rattle.temperature.specs.Temperature.{held_of}
use Rattle.temperature.proofs.Laws.{same}
use Rattle.temperature.proofs.hold.Goals as goal

-- A sum is held exactly where the number between the ends is another. Assumes nothing.

abbrev between : ℤ → ℤ
between z = int_max (negsuc 1023) (int_min z (pos 1023))

abbrev clamped : ℤ → Reading
clamped z = record { eighths = between z; held = not (eqb (of_z w16 (between z)) (of_z w16 z)) }

told : (z : ℤ) → mag z < 2 ^ 15 → clamped z ≡ held_of z
unfolding held_of
told (pos n) h =
    by_test (ltb 1023 n) (λ over. rw (over, ne_eqb 1023 n (λ e. omega (arith, ltb-true 1023 n over)))) (λ on. rw (on, eq-eqb n n refl))
told (negsuc n) h =
    by_test (ltb 1023 n)
    (λ under. rw (under, ne_eqb (2 ^ 16 - 1024) (2 ^ 16 - suc n) (λ e. omega (arith, ltb-true 1023 n under))))
    (λ on. rw (on, eq-eqb (2 ^ 16 - suc n) (2 ^ 16 - suc n) refl))

pub returns : goal.returns
returns c =
    let z = to_z-of_z c.ranges.sum in
    let value = rw z at c.clamp-eighths.ensures.value in
    rw (same c.clamp-eighths.result c.clamp-eighths.type_inv, value) (told c.args.sum c.ranges.sum.sfits)
