use Prim.Native.Nat.{ℕ, ◌≤◌}
use native.Mathlib.Omega.{arith}
use mathlib.Core.List.{List}
use mathlib.Core.Path.{◌≡◌, sym, ◌∙◌}
use lib.ListN.{length}
use Rattle.capture.specs.declared.Reader.{Reader}
use Rattle.capture.specs.Loops.{Led}
use Rattle.capture.proofs.Leads.{Leading, kept, lead_start, lead_end, lead_ready, lead_on, lead_stopped}
use Rattle.capture.proofs.taking.lead.Goals as goal

-- the input ends there
ended : {input : List ℕ} {s : Reader} {from : ℕ} {n : Reader} {at : ℕ} → Leading input s from n at → length input ≤ at
    → Led input s from n (length input)
ended {input} {s} {from} {n} {at} l e =
    let here : at ≡ length input = omega (arith, l.within) in
    rw here at (lead_end l e)

pub loop-at-init : goal.loop-at-init
loop-at-init c =
    lead_start c.args.input.now c.args.ahead.reader c.args.ahead.at c.args.ahead.in_range c.requires

pub take_quiet-n-requires : goal.take_quiet-n-requires
take_quiet-n-requires c =
    record { in_range = c.loop-at.invariant.ok; quiet = sym c.waits.ensures ∙ c.if-waits.false }

pub loop-at-preserved : goal.loop-at-preserved
loop-at-preserved c =
    let l = c.loop-at in
    let small = (c.shared_slice_known-in-loop-at-1.given l.at).fits in
    lead_on l.invariant c.loop-at-test.true small c.take_quiet-n.ensures c.if-n-ne0.false

pub returns : goal.returns
returns c = ended c.loop-at.invariant c.loop-at-test.false

pub returns-then-waits : goal.returns-then-waits
returns-then-waits c = lead_ready c.loop-at.invariant (sym c.waits.ensures ∙ c.if-waits.true)

pub returns-then-n-ne0 : goal.returns-then-n-ne0
returns-then-n-ne0 c =
    let l = c.loop-at in
    let small = (c.shared_slice_known-in-loop-at-1.given l.at).fits in
    lead_stopped l.invariant c.loop-at-test.true small c.take_quiet-n.ensures c.if-n-ne0.true

pub invariant_of-result-then-n-ne0 : goal.invariant_of-result-then-n-ne0
invariant_of-result-then-n-ne0 c =
    let l = c.loop-at in
    let small = (c.shared_slice_known-in-loop-at-1.given l.at).fits in
    record { in_range = kept l.invariant c.loop-at-test.true small c.take_quiet-n.ensures }
