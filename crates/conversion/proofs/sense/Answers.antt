use mir.Facts.{to_z-of_z}
use Rattle.temperature.proofs.Laws.{same}
use Rattle.registers.proofs.Settings.{configuration, remote_crit, local_crit, hysteresis}
use Rattle.conversion.specs.Conversion.{sensed_of}
use Rattle.conversion.proofs.sense.Goals as goal

-- The calls, last first, give the parts of the definition. Assumes nothing.

pub returns : goal.returns
unfolding sensed_of
returns c =
    let s = c.args.s in
    let queued = rw (← configuration s) at c.queued.ensures in
    let lclear = rw (← local_crit s, ← hysteresis s) at c.cleared-lclear.ensures in
    let rclear = rw (← remote_crit s, ← hysteresis s) at c.cleared-rclear.ensures in
    let here = same c.eighths-here.result c.eighths-here.type_inv in
    let remote = to_z-of_z c.ranges.remote in
    rw (
      c.latch-2.ensures,
      c.latch.ensures,
      c.live.ensures,
      rclear,
      lclear,
      c.shown-v.ensures,
      queued,
      c.count-faults.ensures,
      c.any.ensures,
      c.compare-r.ensures,
      c.remote_limits.ensures,
      c.compare-l.ensures,
      c.local_limits.ensures,
      here,
      c.eighths-here.ensures,
      remote,
    )
