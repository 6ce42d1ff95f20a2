use Rattle.conversion.specs.Conversion.{remote_limits_of}
use Rattle.temperature.proofs.Laws.{same}
use Rattle.registers.proofs.Settings.{remote_high, remote_high_part, remote_low, remote_low_part, remote_crit}
use Rattle.conversion.proofs.remote_limits.Goals as goal

pub returns : goal.returns
unfolding remote_limits_of
returns c =
    let s = c.args.s in
    let back3 = same c.eighths-3.result c.eighths-3.type_inv in
    let back2 = same c.eighths-2.result c.eighths-2.type_inv in
    let back1 = same c.eighths.result c.eighths.type_inv in
    rw (
      back3,
      back2,
      back1,
      c.eighths-3.ensures,
      c.eighths-2.ensures,
      c.eighths.ensures,
      remote_high s,
      remote_high_part s,
      remote_low s,
      remote_low_part s,
      remote_crit s,
    )
