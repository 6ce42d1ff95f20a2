use Rattle.conversion.specs.Conversion.{queued_of}
use borrow.Author.Rules.{rules}
use Rattle.conversion.proofs.queued.Goals as goal

pub returns : goal.returns
unfolding queued_of
returns c = search rules
