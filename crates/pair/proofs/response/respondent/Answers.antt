use mathlib.Core.Path.{◌∙◌}
use borrow.Author.Tests.{lt-ltb, le-ltb}
use Rattle.pair.specs.Bus.{respondent_of}
use Rattle.pair.proofs.Trailing.{first_low, second_low}
use Rattle.pair.proofs.response.respondent.Goals as goal

pub returns-then-address : goal.returns-then-address
unfolding respondent_of
returns-then-address c =
    c.lowest.ensures
    ∙ rw (c.mask.ensures, ← c.responds-second.ensures, ← c.responds-first.ensures, ← c.address-2.ensures, ← c.address.ensures)
    (rw (lt-ltb _ _ c.if-address.true) (first_low c.responds-first.result c.responds-second.result))

pub returns-else-address : goal.returns-else-address
unfolding respondent_of
returns-else-address c =
    c.lowest-else-address.ensures
    ∙ rw (c.mask-else-address.ensures, ← c.responds-second.ensures, ← c.responds-first.ensures, ← c.address-2.ensures, ← c.address.ensures)
    (rw (le-ltb _ _ c.if-address.false) (second_low c.responds-first.result c.responds-second.result))
