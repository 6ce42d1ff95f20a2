use mir.Facts.{to_z-of_z}
use Rattle.temperature.specs.Temperature.{sum_of}
use Rattle.temperature.proofs.Laws.{same, fits16, within_add, eighths_within}
use Rattle.temperature.proofs.held_sum.Goals as goal

-- The sum of two numbers of eighths stays in an i16. Assumes nothing.

pub overflow_add-eighths : goal.overflow_add-eighths
overflow_add-eighths c =
    let g = c.ranges in
    rw (same c.eighths.result c.eighths.type_inv, same c.eighths-2.result c.eighths-2.type_inv, c.eighths.ensures, c.eighths-2.ensures)
    (fits16 (within_add (eighths_within _ _ g.high g.low) (eighths_within _ _ g.offset g.part)) tt)

pub returns : goal.returns
unfolding sum_of
returns c =
    cc (same c.eighths.result c.eighths.type_inv, same c.eighths-2.result c.eighths-2.type_inv, to_z-of_z (overflow_add-eighths c.before))
