use borrow.Author.Tests.{ne_eqb}
use Rattle.registers.specs.Page.{power_on_of}
use Rattle.registers.proofs.power_on.Goals as goal

pub returns-in-1 : goal.returns-in-1
unfolding power_on_of
returns-in-1 c = rw c.in-1.is

pub returns-in-2 : goal.returns-in-2
unfolding power_on_of
returns-in-2 c = rw c.in-2.is

pub returns-in-3 : goal.returns-in-3
unfolding power_on_of
returns-in-3 c = rw c.in-3.is

pub returns-in_default : goal.returns-in_default
unfolding power_on_of
returns-in_default c =
    let n = c.in_default.in_default-own.rest in
    rw (ne_eqb _ _ n.0.0.1, ne_eqb _ _ n.0.1, ne_eqb _ _ n.1)
