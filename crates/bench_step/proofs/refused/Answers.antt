use Rattle.record.proofs.Conversions.{stopped_code}
use Rattle.bench_step.proofs.refused.Goals as goal

pub returns-then-in_range : goal.returns-then-in_range
returns-then-in_range c = rw (c.from.ensures, ← c.in_range.ensures, c.if-in_range.true) (stopped_code c.args.why)
