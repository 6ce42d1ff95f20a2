use Rattle.conversion.specs.Conversion.{shown_of}
use borrow.Author.Rules.{rules}
use Rattle.conversion.proofs.Out.shown.Goals as goal

pub returns : goal.returns
unfolding shown_of
returns c = search rules
