use Rattle.conversion.specs.Conversion.{local_limits_of}
use Rattle.temperature.proofs.Laws.{same}
use Rattle.registers.proofs.Settings.{local_high, local_low, local_crit}
use Rattle.conversion.proofs.local_limits.Goals as goal

pub returns : goal.returns
unfolding local_limits_of
returns c =
    let s = c.args.s in
    let back3 = same c.eighths-3.result c.eighths-3.type_inv in
    let back2 = same c.eighths-2.result c.eighths-2.type_inv in
    let back1 = same c.eighths.result c.eighths.type_inv in
    rw (back3, back2, back1, c.eighths-3.ensures, c.eighths-2.ensures, c.eighths.ensures, local_high s, local_low s, local_crit s)
