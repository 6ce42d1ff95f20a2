use Rattle.std.proofs.Common.{◌≡◌, take}
use Rattle.std.specs.List.{list_any}
use Rattle.fan.proofs.Entries.{out}
use Rattle.fan.proofs.table.out_of_range.Given as goal

abbrev pub invariant-loop-entry : goal.invariant-loop-entry
invariant-loop-entry l = l.found ≡ list_any out (take l.entry-index l.entry-items)
