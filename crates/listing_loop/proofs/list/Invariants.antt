use Rattle.std.proofs.Common.{◌-◌}
use Rattle.capture_laws.specs.Places.{consumed_of}
use Rattle.capture_laws.proofs.Consumed.{capture_most}
use Rattle.listing_loop.proofs.Loop.{SoFar}
use Rattle.listing_loop.proofs.list.Given as goal

abbrev pub invariant-loop-next : goal.invariant-loop-next
invariant-loop-next g l = SoFar l.reader

abbrev pub decreases-loop-next : goal.decreases-loop-next
decreases-loop-next g l = capture_most - consumed_of l.reader
