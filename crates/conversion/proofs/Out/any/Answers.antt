use Rattle.conversion.specs.Conversion.{any_of}
use borrow.Author.Rules.{rules}
use Rattle.conversion.proofs.Out.any.Goals as goal

pub returns : goal.returns
unfolding any_of
returns c = search rules
