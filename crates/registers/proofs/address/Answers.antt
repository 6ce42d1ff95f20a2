use borrow.Author.Tests.{eq-eqb, ne_eqb}
use Rattle.registers.specs.Page.{address_of}
use Rattle.registers.proofs.address.Goals as goal

pub returns-then-variant-eq1 : goal.returns-then-variant-eq1
unfolding address_of
returns-then-variant-eq1 c = rw (eq-eqb _ _ c.if-variant-eq1.true)

pub returns-else-variant-eq1 : goal.returns-else-variant-eq1
unfolding address_of
returns-else-variant-eq1 c = rw (ne_eqb _ _ c.if-variant-eq1.false)
