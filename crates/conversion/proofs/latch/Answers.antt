use borrow.Author.Rules.{rules}
use Rattle.conversion.specs.Conversion.{latch_of}
use Rattle.conversion.proofs.latch.Goals as goal

pub returns-then-critical : goal.returns-then-critical
unfolding latch_of
returns-then-critical c = search rules

pub returns-then-cleared : goal.returns-then-cleared
unfolding latch_of
returns-then-cleared c = search rules

pub returns-else-cleared : goal.returns-else-cleared
unfolding latch_of
returns-else-cleared c = search rules
