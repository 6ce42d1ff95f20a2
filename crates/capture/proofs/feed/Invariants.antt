use Prim.Native.Nat.{◌-◌}
use lib.ListN.{length}
use Rattle.capture.specs.Reader.{feed_of}
use Rattle.capture.specs.Loops.{Going}
use Rattle.capture.proofs.feed.Given as goal

abbrev pub invariant-loop-at : goal.invariant-loop-at
invariant-loop-at l =
    Going (feed_of l.initial.s l.input (length l.initial.answers)) l.input l.initial.answers l.answers l.s l.at l.written

abbrev pub decreases-loop-at : goal.decreases-loop-at
decreases-loop-at l = length l.input - l.at
