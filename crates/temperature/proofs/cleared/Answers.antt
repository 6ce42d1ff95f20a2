use Prim.Native.Nat.{ℕ, ◌*◌, ◌≤◌}
use native.Mathlib.Omega.{arith}
use lib.IntN.{pos}
use lib.Dec.{lit<}
use mir.Syntax.{w8}
use mir.Val.{Fits}
use mir.Facts.{to_z-of_z}
use Rattle.temperature.specs.Temperature.{cleared_of}
use Rattle.temperature.proofs.Laws.{Within, back, fits16, eighths_within, within_8, within_less, within_pos}
use Rattle.temperature.proofs.cleared.Goals as goal

-- T_CRIT less hysteresis stays in an i16, below -128 degrees too. Assumes nothing.

eight_le : {n : ℕ} → Fits w8 n → n * 8 ≤ 2048
eight_le h = omega (arith, h.fits)

limit : (c : goal.After-eighths) → Within 1032 c.eighths.result
limit c = rw c.eighths.ensures (eighths_within _ _ c.ranges.crit (record { fits = lit< tt }))

less : (c : goal.After-eighths) → Within 256 (pos c.args.hysteresis)
less c = within_pos 256 c.ranges.hysteresis.fits

pub overflow_mul-result : goal.overflow_mul-result
overflow_mul-result c = rw (back (less c) tt) (fits16 (within_8 (less c)) tt)

pub overflow_sub-result : goal.overflow_sub-result
overflow_sub-result c =
    rw (back (limit c) tt, back (less c) tt, back (within_8 (less c)) tt)
    (fits16 (within_less 2048 (limit c) (eight_le c.ranges.hysteresis)) tt)

pub returns : goal.returns
unfolding cleared_of
returns c =
    rw (to_z-of_z c.ranges.t, to_z-of_z (overflow_sub-result c), back (limit c) tt, back (less c) tt, back (within_8 (less c)) tt, c.eighths.ensures)
