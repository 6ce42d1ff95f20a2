use borrow.Author.Tests.{eq-eqb, ne_eqb}
use Rattle.record.proofs.last_kind.Goals as goal

pub returns-then-devices-eq2 : goal.returns-then-devices-eq2
returns-then-devices-eq2 c = rw (eq-eqb _ _ c.if-devices-eq2.true)

pub returns-else-devices-eq2 : goal.returns-else-devices-eq2
returns-else-devices-eq2 c = rw (ne_eqb _ _ c.if-devices-eq2.false)
