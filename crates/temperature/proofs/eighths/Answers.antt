use mathlib.Core.Path.{◌∙◌}
use Prim.Native.Nat.{◌/◌}
use native.Mathlib.Omega.{arith}
use lib.IntN.{pos}
use mir.Facts.{to_z-of_z}
use Rattle.temperature.specs.Temperature.{eighths_of}
use Rattle.temperature.proofs.Laws.{Within, back, fits16, byte_within, within_8, within_add, within_pos}
use Rattle.temperature.proofs.eighths.Goals as goal

-- Eight times the degrees and the three bits stay in an i16. Assumes nothing.

whole : (c : goal.After-degrees) → Within 128 c.degrees.result
whole c = rw c.degrees.ensures (byte_within c.ranges.high)

part : (c : goal.After-degrees) → Within 8 (pos (c.args.low / 32))
part c = within_pos 8 (omega (arith, c.ranges.low))

pub overflow_mul-result : goal.overflow_mul-result
overflow_mul-result c = rw (back (whole c) tt) (fits16 (within_8 (whole c)) tt)

pub overflow_add-result : goal.overflow_add-result
overflow_add-result c =
    rw (back (whole c) tt, back (within_8 (whole c)) tt, back (part c) tt)
    (fits16 (within_add (within_8 (whole c)) (part c)) tt)

pub returns : goal.returns
unfolding eighths_of
returns c =
    to_z-of_z (overflow_add-result c)
    ∙ rw (back (whole c) tt, back (within_8 (whole c)) tt, back (part c) tt, c.degrees.ensures)
