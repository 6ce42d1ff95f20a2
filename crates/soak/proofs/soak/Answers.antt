use mathlib.Core.Path.{sym, ap, ◌∙◌}
use mathlib.Core.List.{[]}
use borrow.Author.Tests.{eqb-true}
use Rattle.soak.specs.Soak.{back_of, soak_of}
use Rattle.soak.proofs.Runs.{running}
use Rattle.soak.proofs.Loop.{latest_are}
use Rattle.soak.proofs.OneAnswer.{from_this}
use Rattle.soak.proofs.soak.Goals as goal

pub returns-then-not-in_range-clause-told : goal.returns-then-not-in_range-clause-told
unfolding soak_of
returns-then-not-in_range-clause-told c = rw (← c.in_range.ensures, c.if-not-in_range.true)

pub returns-then-configured-clause-told : goal.returns-then-configured-clause-told
unfolding soak_of
returns-then-configured-clause-told c = rw (← c.in_range.ensures, c.if-not-in_range.false, ← c.configured.ensures, c.if-configured.true)

pub returns-then-not-is_empty-clause-told : goal.returns-then-not-is_empty-clause-told
unfolding soak_of
returns-then-not-is_empty-clause-told c =
    let uneven = rw c.as_chunks.ensures.back_len at (sym c.is_empty.ensures ∙ c.if-not-is_empty.true) in
    rw (← c.in_range.ensures, c.if-not-in_range.false, ← c.configured.ensures, c.if-configured.false, uneven)

pub back-requires : goal.back-requires
back-requires c = running _ (sym c.in_range.ensures ∙ c.if-not-in_range.false) (sym c.configured.ensures ∙ c.if-configured.false)

pub returns-clause-told : goal.returns-clause-told
unfolding soak_of
returns-clause-told c =
    let even = rw c.as_chunks.ensures.back_len at (sym c.is_empty.ensures ∙ c.if-not-is_empty.false) in
    rw (c.back.ensures.told, ← c.in_range.ensures, c.if-not-in_range.false, ← c.configured.ensures, c.if-configured.false, even, c.as_chunks.ensures.front)
    (ap (back_of c.args.device []) (latest_are c.args.records.now (eqb-true _ _ even)))

pub returns-then-not-in_range-clause-same : goal.returns-then-not-in_range-clause-same
returns-then-not-in_range-clause-same c = from_this _ _ (returns-then-not-in_range-clause-told c) tt

pub returns-then-configured-clause-same : goal.returns-then-configured-clause-same
returns-then-configured-clause-same c = from_this _ _ (returns-then-configured-clause-told c) tt

pub returns-then-not-is_empty-clause-same : goal.returns-then-not-is_empty-clause-same
returns-then-not-is_empty-clause-same c = from_this _ _ (returns-then-not-is_empty-clause-told c) tt

pub returns-clause-same : goal.returns-clause-same
returns-clause-same c = from_this _ _ (returns-clause-told c) c.back.ensures.counted
