use native.Mathlib.Omega.{arith}
use Rattle.capture_laws.proofs.Counts.{bytes_of}
use Rattle.bench.proofs.Runs.{ran, small}
use Rattle.bench.proofs.run.Goals as goal

pub overflow_mul-result : goal.overflow_mul-result
overflow_mul-result c =
    let k = bytes_of c.args.bytes.now (λ i. (c.type_inv.bytes i).fits) in
    let m = rw c.fresh.ensures at c.feed-fed.ensures in
    omega (arith, small c.args.bytes.now c.args.answers.now c.feed-fed.result k m)

pub overflow_add-result : goal.overflow_add-result
overflow_add-result c =
    let k = bytes_of c.args.bytes.now (λ i. (c.type_inv.bytes i).fits) in
    let m = rw c.fresh.ensures at c.feed-fed.ensures in
    omega (arith, small c.args.bytes.now c.args.answers.now c.feed-fed.result k m)

pub returns : goal.returns
returns c =
    let m = rw c.fresh.ensures at c.feed-fed.ensures in
    rw (c.from.ensures, c.last_code-last.ensures) (ran c.args.bytes.now c.args.answers.now c.feed-fed.result m)
