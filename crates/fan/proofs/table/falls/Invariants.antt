use Rattle.std.proofs.Common.{◌≡◌, ◌+◌}
use Rattle.fan.specs.Table.{temperature_of, some_of}
use Rattle.fan.proofs.Entries.{falls_at}
use Rattle.fan.proofs.table.falls.Given as goal

abbrev pub invariant-loop-entry : goal.invariant-loop-entry
invariant-loop-entry l = (l.found ≡ some_of (falls_at l.fn.table) l.entry-index) × (l.before ≡ temperature_of l.fn.table (l.entry-index + 1))
