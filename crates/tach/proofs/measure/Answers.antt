use Rattle.std.proofs.Common.{ltb, sym, ap, ◌∙◌, arith, lt-ltb}
use Rattle.tach.specs.Tach.{tach_of, from_told}
use Rattle.tach.proofs.Loop.{one_at_most, number_of, start, later_many, later_at, equal_next, more, finished}
use Rattle.tach.proofs.Told.{told_back}
use Rattle.tach.proofs.measure.Goals as goal

pub returns-then-stamps-lt2-clause-told : goal.returns-then-stamps-lt2-clause-told
unfolding tach_of
returns-then-stamps-lt2-clause-told c = rw (lt-ltb _ _ c.if-stamps-lt2.true)

pub loop-later-init : goal.loop-later-init
loop-later-init c = start _ _ c.if-stamps-lt2.false

pub returns-then-later-earlier-clause-told : goal.returns-then-later-earlier-clause-told
returns-then-later-earlier-clause-told c =
    sym (equal_next c.loop-later.invariant (omega (arith, later_many c.args.stamps.now)) (rw later_at at c.if-later-earlier.true))

pub overflow_add-under : goal.overflow_add-under
overflow_add-under c =
    let under = ltb c.speed-speed.result c.args.floor in
    omega (arith, c.loop-later.invariant.few, number_of under, one_at_most under)

pub loop-later-preserved : goal.loop-later-preserved
loop-later-preserved c =
    rw (later_at, c.from-under.ensures, number_of, c.max-fastest.ensures, c.min-slowest.ensures)
    (more c.loop-later.invariant (omega (arith, later_many c.args.stamps.now))
    (rw later_at at c.if-later-earlier.false) _ (rw later_at at c.speed-speed.ensures))

pub returns-clause-told : goal.returns-clause-told
returns-clause-told c = finished c.loop-later.invariant (omega (arith, later_many c.args.stamps.now))

pub returns-then-stamps-lt2-clause-same : goal.returns-then-stamps-lt2-clause-same
returns-then-stamps-lt2-clause-same c = sym (told_back _) ∙ ap from_told (returns-then-stamps-lt2-clause-told c)

pub returns-then-later-earlier-clause-same : goal.returns-then-later-earlier-clause-same
returns-then-later-earlier-clause-same c = sym (told_back _) ∙ ap from_told (returns-then-later-earlier-clause-told c)

pub returns-clause-same : goal.returns-clause-same
returns-clause-same c = sym (told_back _) ∙ ap from_told (returns-clause-told c)
