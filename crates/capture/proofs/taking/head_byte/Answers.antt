use mathlib.Core.Path.{sym}
use Rattle.std.proofs.lemmas.Result.{err_from_is_err_and}
use Rattle.capture.proofs.Turns.{opened_told, variant_told, counted_head}
use Rattle.capture.proofs.taking.head_byte.Goals as goal

pub returns-in_err-bus : goal.returns-in_err-bus
returns-in_err-bus c =
    let a = c.args in
    let p = err_from_is_err_and c.from_residual.result c.from_residual.ensures.1 in
    rw (p.1, p.2) (sym (opened_told a.s a.b c.if-s-eq0.true (c.in_err-bus.ensures)))

pub returns-then-s-eq0 : goal.returns-then-s-eq0
returns-then-s-eq0 c =
    let a = c.args in
    sym (opened_told a.s a.b c.if-s-eq0.true (c.in_ok-bus.ensures))

pub returns-in_err-bus-2 : goal.returns-in_err-bus-2
returns-in_err-bus-2 c =
    let a = c.args in
    let before = rw (c.count_place.ensures, c.taken.ensures) at c.if-taken-count_place.true in
    let p = err_from_is_err_and c.from_residual-in_err-bus-2.result c.from_residual-in_err-bus-2.ensures.1 in
    rw (p.1, p.2) (sym (variant_told a.s a.b c.if-s-eq0.false before (c.in_err-bus-2.ensures)))

pub returns-then-taken-count_place : goal.returns-then-taken-count_place
returns-then-taken-count_place c =
    let a = c.args in
    let before = rw (c.count_place.ensures, c.taken.ensures) at c.if-taken-count_place.true in
    sym (variant_told a.s a.b c.if-s-eq0.false before (c.in_ok-bus-2.ensures))

pub returns : goal.returns
returns c =
    let a = c.args in
    let behind = rw (c.count_place.ensures, c.taken.ensures) at c.if-taken-count_place.false in
    rw c.from.ensures (sym (counted_head a.s a.b c.if-s-eq0.false behind))
