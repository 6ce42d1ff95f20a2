use borrow.Author.Rules.{rules}
use Rattle.capture.specs.Loops.{waits_of}
use Rattle.capture.proofs.taking.waits.Goals as goal

pub returns : goal.returns
unfolding waits_of
returns c = search rules
