use mathlib.Core.Path.{sym, ap, ◌∙◌}
use borrow.Author.Rules.{rules}
use mir.Syntax.{w16}
use mir.Val.{SFits}
use mir.Facts.{to_z-of_z}
use Rattle.std.specs.Prelude.{Ok}
use Rattle.std.proofs.lemmas.Result.{err_from_is_err_and}
use Rattle.soak.proofs.Told.{neither, either, another_kind, is_refused, of_convert, of_open, no_other}
use Rattle.soak.proofs.readings.Goals as goal

pub returns-then-kind : goal.returns-then-kind
returns-then-kind c = sym (another_kind c.args.s _ (neither _ _ c.if-kind.true))

pub returns-in_err-local : goal.returns-in_err-local
returns-in_err-local c =
    let p = err_from_is_err_and c.from_residual.result c.from_residual.ensures.1 in
    rw (p.1, p.2) (sym (is_refused c.args.s _ (either _ _ c.if-kind.false) _ (sym c.decode.ensures ∙ c.in_err-local.was)))

pub returns-in-Convert : goal.returns-in-Convert
returns-in-Convert c =
    let event = sym c.decode.ensures ∙ c.in_ok-local.was ∙ ap Ok c.in-Convert.is in
    let told : SFits w16 c.reading.result.eighths = search rules in
    rw (to_z-of_z told, c.reading.ensures) (sym (of_convert c.args.s _ (either _ _ c.if-kind.false) _ _ _ event))

pub returns-in-Open : goal.returns-in-Open
returns-in-Open c =
    let event = sym c.decode.ensures ∙ c.in_ok-local.was ∙ ap Ok c.in-Open.is in
    let told : SFits w16 c.open_reading.result.eighths = search rules in
    rw (to_z-of_z told, c.open_reading.ensures) (sym (of_open c.args.s _ (either _ _ c.if-kind.false) _ event))

pub returns-in_default : goal.returns-in_default
returns-in_default c =
    let event = sym c.decode.ensures ∙ c.in_ok-local.was in
    absurd (no_other c.args.s _ (either _ _ c.if-kind.false) _ event c.in_default.not-Convert c.in_default.not-Open)
