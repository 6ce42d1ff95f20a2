use Rattle.capture.proofs.Records.{Running}
use Rattle.capture.proofs.running.run.Given as goal

abbrev pub invariant-loop-e : goal.invariant-loop-e
invariant-loop-e l =
    Running l.s l.input l.initial.answers l.fn.ahead.at l.start l.answers l.kind l.a l.b l.device l.done l.at l.written l.left

abbrev pub decreases-loop-e : goal.decreases-loop-e
decreases-loop-e l = l.left
