use Prim.Native.Nat.{ℕ}
use native.Mathlib.Omega.{arith}
use mathlib.Core.Path.{◌≡◌, refl, sym, ◌∙◌}
use mathlib.Core.Bool.{Bool, true}
use mathlib.Core.List.{List}
use lib.ListN.{length}
use Rattle.capture.specs.declared.Reader.{Reader}
use Rattle.capture.specs.declared.Fed.{Fed}
use Rattle.capture.specs.Reader.{ranges_of, feed_of, Meets, FedWith}
use Rattle.capture.proofs.Feeds.{start, closed, called, outside}
use Rattle.capture.proofs.Leads.{onto}
use Rattle.capture.proofs.feed.Goals as goal

-- behind the test of the ranges what meets the feed's outcome meets the call's
whole : (reader : Reader) (input before : List ℕ) {b : Bool} {r : Fed} {exit : List ℕ} → b ≡ ranges_of reader → b ≡ true
    → Meets (feed_of reader input (length before)) r before exit → FedWith reader input r before exit
whole reader input before e f m = called reader input before (sym e ∙ f) m

pub returns-then-not-in_range : goal.returns-then-not-in_range
returns-then-not-in_range c =
    let a = c.args in
    let bad = sym c.in_range.ensures ∙ c.if-not-in_range.true in
    rw (c.report.ensures, c.from.ensures) (outside a.reader a.input.now a.answers.now bad)

pub loop-at-init : goal.loop-at-init
loop-at-init c =
    let a = c.args in
    let good = sym c.in_range.ensures ∙ c.if-not-in_range.false in
    start a.reader a.input.now a.answers.now good

pub lead-ahead-requires : goal.lead-ahead-requires
lead-ahead-requires c = c.loop-at.invariant.within

-- after `lead` the outcome is no other: `c.lead-ahead.ensures.onward` of the loop's invariant

pub returns-then-at-input : goal.returns-then-at-input
returns-then-at-input c =
    let here = c.lead-ahead.ensures.onward _ _ _ _ c.loop-at.invariant in
    rw c.report-then-at-input.ensures
    (whole c.args.reader c.args.input.now c.args.answers.now c.in_range.ensures c.if-not-in_range.false (closed here c.if-at-input.true))

pub bounds-input-at : goal.bounds-input-at
bounds-input-at c =
    (onto c.lead-ahead.ensures c.if-at-input.false).0

pub no_room-requires : goal.no_room-requires
no_room-requires c =
    (onto c.lead-ahead.ensures c.if-at-input.false).1

pub returns-then-answers-written-lt2 : goal.returns-then-answers-written-lt2
returns-then-answers-written-lt2 c =
    let here = c.lead-ahead.ensures.onward _ _ _ _ c.loop-at.invariant in
    let inside = (onto c.lead-ahead.ensures c.if-at-input.false).0 in
    whole c.args.reader c.args.input.now c.args.answers.now c.in_range.ensures c.if-not-in_range.false
    (c.no_room.ensures _ _ _ _ here inside refl c.if-answers-written-lt2.true)

pub run-ran-requires : goal.run-ran-requires
run-ran-requires c =
    let on = onto c.lead-ahead.ensures c.if-at-input.false in
    record { waits = on.1; within = on.0; room = omega (arith, c.if-answers-written-lt2.false) }

pub returns-then-ran-ne0 : goal.returns-then-ran-ne0
returns-then-ran-ne0 c =
    let here = c.lead-ahead.ensures.onward _ _ _ _ c.loop-at.invariant in
    whole c.args.reader c.args.input.now c.args.answers.now c.in_range.ensures c.if-not-in_range.false
    (c.run-ran.ensures.ends c.if-ran-ne0.true _ _ here)

pub loop-at-smaller : goal.loop-at-smaller
loop-at-smaller c =
    let inside = (onto c.lead-ahead.ensures c.if-at-input.false).0 in
    omega (arith, inside, c.lead-ahead.ensures.forward, c.run-ran.ensures.forward c.if-ran-ne0.false)

pub loop-at-preserved : goal.loop-at-preserved
loop-at-preserved c =
    let here = c.lead-ahead.ensures.onward _ _ _ _ c.loop-at.invariant in
    c.run-ran.ensures.onward c.if-ran-ne0.false _ _ here
