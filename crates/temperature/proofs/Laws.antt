-- Signed numbers in range, a small calculus of intervals. `Within H z` says -H ≤ z < H.
-- Assumes nothing.
use mathlib.Core.Path.{◌≡◌, refl}
use mathlib.Core.Bool.{Bool, true, false}
use Prim.Native.Nat.{ℕ, zero, suc, ◌+◌, ◌*◌, ◌/◌, ◌^◌, ◌<◌, ◌≤◌}
use native.Mathlib.Nat.{lt_of_lt_of_le}
use native.Mathlib.Omega.{arith}
use lib.IntN.{ℤ, pos, negsuc, sub_ℕ, ◌+ℤ◌, ◌-ℤ◌, ◌*ℤ◌}
use lib.Signed.{mag}
use lib.Dec.{T, leb, ltb, leb→le, lit<}
use borrow.Author.Tests.{lt-ltb, ltb-true, ltb-false}
use mir.Syntax.{w8, w16}
use mir.Val.{SFits, Fits, to_z, of_z}
use mir.Facts.{to_z-of_z}
use Rattle.temperature.specs.Temperature.{degrees_of, eighths_of, held_of}

-- a record, so that the numbers are inferred
pub record Within (H : ℕ) (z : ℤ) : Type 0 where
  pub within : mag z < H

-- ---- what an i16 asks, and that it is read back

pub fits16 : {H : ℕ} {z : ℤ} → Within H z → T (leb H (2 ^ 15)) → SFits w16 z
fits16 {H} h t = record { sfits = lt_of_lt_of_le h.within (leb→le H (2 ^ 15) t) }

pub back : {H : ℕ} {z : ℤ} → Within H z → T (leb H (2 ^ 15)) → to_z w16 (of_z w16 z) ≡ z
back h t = to_z-of_z (fits16 h t)

-- of a call's signed result: `same c.f.result c.f.ok`
pub same : (z : ℤ) → mag z < 2 ^ 15 → to_z w16 (of_z w16 z) ≡ z
same z h = to_z-of_z {w = w16} (record { sfits = h })

-- ---- sums, differences, eight times

sub_mag : (a b : ℕ) (H : ℕ) → a < H → b ≤ H → mag (sub_ℕ a b) < H
sub_mag a b H h k = split (ltb a b) refl
  where
    split : (t : Bool) → ltb a b ≡ t → mag (sub_ℕ a b) < H
    split true e = rw e (omega (arith, ltb-true a b e))
    split false e = rw e (omega (arith, ltb-false a b e))

mag_add : (x y : ℤ) (H K : ℕ) → mag x < H → mag y < K → mag (x +ℤ y) < H + K
mag_add (pos a) (pos b) H K h k = omega arith
mag_add (pos a) (negsuc b) H K h k = sub_mag a (suc b) (H + K) (omega arith) (omega arith)
mag_add (negsuc a) (pos b) H K h k = sub_mag b (suc a) (H + K) (omega arith) (omega arith)
mag_add (negsuc a) (negsuc b) H K h k = omega arith

mag_less : (x : ℤ) (n : ℕ) (H K : ℕ) → mag x < H → n ≤ K → mag (x -ℤ pos n) < H + K
mag_less (pos a) zero H K h k = omega arith
mag_less (pos a) (suc n) H K h k = sub_mag a (suc n) (H + K) (omega arith) (omega arith)
mag_less (negsuc a) zero H K h k = sub_mag zero (suc a) (H + K) (omega arith) (omega arith)
mag_less (negsuc a) (suc n) H K h k = omega arith

pub eight : (a : ℕ) → negsuc a *ℤ pos 8 ≡ negsuc (a * 8 + 7)
eight a = rw (times a)
  where
    times : (a : ℕ) → suc a * 8 ≡ suc (a * 8 + 7)
    times a = omega arith

mag_8 : (x : ℤ) (H : ℕ) → mag x < H → mag (x *ℤ pos 8) < H * 8
mag_8 (pos a) H h = omega arith
mag_8 (negsuc a) H h = rw (eight a) (omega arith)

pub within_add : {x y : ℤ} {H K : ℕ} → Within H x → Within K y → Within (H + K) (x +ℤ y)
within_add {x} {y} {H} {K} h k = record { within = mag_add x y H K h.within k.within }

pub within_less : {x : ℤ} {n H : ℕ} (K : ℕ) → Within H x → n ≤ K → Within (H + K) (x -ℤ pos n)
within_less {x} {n} {H} K h k = record { within = mag_less x n H K h.within k }

pub within_8 : {x : ℤ} {H : ℕ} → Within H x → Within (H * 8) (x *ℤ pos 8)
within_8 {x} {H} h = record { within = mag_8 x H h.within }

pub within_pos : {n : ℕ} (H : ℕ) → n < H → Within H (pos n)
within_pos H h = record { within = h }

-- ---- a byte

pub byte_within : {b : ℕ} → Fits w8 b → Within 128 (degrees_of b)
unfolding degrees_of
byte_within {b} h = record { within = split (ltb b 0x80) refl }
  where
    split : (t : Bool) → ltb b 0x80 ≡ t → mag (degrees_of b) < 128
    split true e = rw e (ltb-true b 0x80 e)
    split false e = rw (e, lt-ltb b 256 h.fits) (omega (arith, h.fits, ltb-false b 0x80 e))

-- ---- eighths

pub eighths_within : (high low : ℕ) → Fits w8 high → Fits w8 low → Within 1032 (eighths_of high low)
unfolding eighths_of
eighths_within high low h k =
    within_add (within_8 (byte_within h)) (within_pos {n = low / 32} 8 (omega (arith, k.fits)))

-- a held sum is on the scale, whatever the sum
pub held_scale : (z : ℤ) → mag (held_of z).eighths < 1024
unfolding held_of
held_scale (pos n) = split (ltb 1023 n) refl
  where
    split : (t : Bool) → ltb 1023 n ≡ t → mag (held_of (pos n)).eighths < 1024
    split true e = rw e (lit< tt)
    split false e = rw e (omega (arith, ltb-false 1023 n e))
held_scale (negsuc n) = split (ltb 1023 n) refl
  where
    split : (t : Bool) → ltb 1023 n ≡ t → mag (held_of (negsuc n)).eighths < 1024
    split true e = rw e (lit< tt)
    split false e = rw e (omega (arith, ltb-false 1023 n e))
