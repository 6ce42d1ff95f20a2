use Rattle.std.proofs.Common.{refl, arith}
use Rattle.lines.proofs.Blocks.{start, line_more, no_more, no_pair}
use Rattle.lines.proofs.record_lines.Goals as goal

-- Between two lines: the text is what is laid so far, and then the lines of the pairs to come. Assumes nothing.

pub loop-a-init : goal.loop-a-init
loop-a-init c = (start _ _ _, omega arith)

pub overflow_add-size : goal.overflow_add-size
overflow_add-size c =
    let l = c.loop-a in
    let pairs = c.as_chunks.ensures in
    let g = line_more _ l.n l.a-index pairs.front (omega (arith, pairs.front_len)) l.invariant.0 c.in-Some.ensures.laid c.in-Some.ensures.full.1 in
    omega (arith, g.within, l.invariant.1)

pub loop-a-preserved : goal.loop-a-preserved
loop-a-preserved c =
    let l = c.loop-a in
    let pairs = c.as_chunks.ensures in
    (line_more _ l.n l.a-index pairs.front (omega (arith, pairs.front_len)) l.invariant.0 c.in-Some.ensures.laid c.in-Some.ensures.full.1, l.invariant.1)

pub returns-after-loop-a : goal.returns-after-loop-a
returns-after-loop-a c =
    let l = c.loop-a in
    no_pair _ l.n l.a-index (omega (arith, c.as_chunks.ensures.front_len)) l.invariant.0

pub returns-in_default : goal.returns-in_default
returns-in_default c =
    let l = c.loop-a in
    let pairs = c.as_chunks.ensures in
    let answer = c.in_default.ensures in
    no_more _ l.n l.a-index pairs.front (omega (arith, pairs.front_len)) l.invariant.0 answer.laid (answer.full.0 refl)
