use Rattle.std.proofs.Common.{refl}
use Rattle.listing_loop.proofs.Loop.{begun, failed_lists, further, less, over_lists}
use Rattle.listing_loop.proofs.list.Goals as goal

pub loop-next-init : goal.loop-next-init
loop-next-init g c = begun c.fresh-reader.ensures

pub returns-in_err-next : goal.returns-in_err-next
returns-in_err-next g c = failed_lists c.from_residual.result c.from_residual.ensures.0

pub loop-next-smaller : goal.loop-next-smaller
loop-next-smaller g c = less c.loop-next.invariant (rw c.in-Continue.is at c.in_ok-next.ensures.ok) refl

pub loop-next-preserved : goal.loop-next-preserved
loop-next-preserved g c = further c.loop-next.invariant (rw c.in-Continue.is at c.in_ok-next.ensures.ok) refl

pub returns-in-Break : goal.returns-in-Break
returns-in-Break g c = over_lists c.loop-next.invariant (rw c.in-Break.is at c.in_ok-next.ensures.ok) refl _ _ c.end.result c.end.ensures.ok
