use Rattle.std.proofs.Common.{◌+◌}
use Rattle.tach.proofs.Loop.{Going}
use Rattle.tach.proofs.measure.Given as goal

abbrev pub invariant-loop-later : goal.invariant-loop-later
invariant-loop-later l = Going l.stamps l.floor l.earlier l.slowest l.fastest l.under (l.later-index + 1)
