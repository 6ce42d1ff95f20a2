use Rattle.std.proofs.Common.{to_z-of_z, w64}
use Rattle.listing_loop.proofs.Making.{made_failed, made_read}
use Rattle.listing_loop.proofs.steps.lay.Goals as goal

pub returns-in-Ok : goal.returns-in-Ok
returns-in-Ok c =
    rw c.into.ensures
    (made_read c.args.reader c.args.got c.args.buffer.now (rw (to_z-of_z {w = w64} c.ranges.got) at c.in-Ok.ensures) c.min.ensures c.lay_part.ensures)

pub returns-in-Err : goal.returns-in-Err
returns-in-Err c =
    rw c.into-in-Err.ensures
    (made_failed c.args.reader c.args.got c.args.buffer.now c.args.text.now c.ranges.got (rw (to_z-of_z {w = w64} c.ranges.got) at c.in-Err.ensures))
