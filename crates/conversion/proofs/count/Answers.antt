use borrow.Author.Rules.{rules}
use native.Mathlib.Omega.{arith}
use Rattle.conversion.specs.Conversion.{count_of}
use Rattle.conversion.proofs.count.Goals as goal

pub returns-then-faults-lt-QUEUE : goal.returns-then-faults-lt-QUEUE
unfolding count_of
returns-then-faults-lt-QUEUE c = rw c.if-out.true (omega arith)

pub returns-else-faults-lt-QUEUE : goal.returns-else-faults-lt-QUEUE
unfolding count_of
returns-else-faults-lt-QUEUE c = rw c.if-out.true (omega arith)

pub returns-else-out : goal.returns-else-out
unfolding count_of
returns-else-out c = search rules
