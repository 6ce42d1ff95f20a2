use Rattle.fan.specs.Fan.{code_of}
use Rattle.fan.proofs.Fan.check.Goals as goal

pub returns-then-falls : goal.returns-then-falls
unfolding code_of
returns-then-falls c = rw (← c.falls.ensures, c.if-falls.true)

pub returns-then-out_of_range-self : goal.returns-then-out_of_range-self
unfolding code_of
returns-then-out_of_range-self c =
    rw (← c.falls.ensures, c.if-falls.false, ← c.out_of_range.ensures, ← c.from.ensures, c.if-out_of_range-self.true)

pub returns : goal.returns
unfolding code_of
returns c =
    rw (← c.falls.ensures, c.if-falls.false, ← c.out_of_range.ensures, ← c.from.ensures, c.if-out_of_range-self.false)
