use Rattle.pair.specs.Hand.{other_lines_of}
use Rattle.pair.proofs.hand.other_lines.Goals as goal

pub returns-then-bus-restart : goal.returns-then-bus-restart
unfolding other_lines_of
returns-then-bus-restart c = rw (c.first.ensures, c.pins.ensures, c.picked-d.ensures, c.if-bus-restart.true)

pub returns-else-bus-restart : goal.returns-else-bus-restart
unfolding other_lines_of
returns-else-bus-restart c = rw c.if-bus-restart.false
