use mathlib.Core.Path.{sym, ap, ◌∙◌}
use borrow.Author.Tests.{lt-ltb, le-ltb}
use Rattle.std.proofs.lemmas.Result.{err_from_is_err_and}
use Rattle.fan.specs.Fan.{duty_answer_of}
use Rattle.fan.specs.Answers.{from_told}
use Rattle.fan.proofs.Answers.{told_back}
use Rattle.fan.proofs.Rounds.{is_duty, one_duty}
use Rattle.fan.proofs.duty.Goals as goal

pub returns-in_err-within-clause-told : goal.returns-in_err-within-clause-told
unfolding duty_answer_of
returns-in_err-within-clause-told c =
    let p = err_from_is_err_and c.from_residual.result c.from_residual.ensures.1 in
    rw (p.1, p.2, c.in_err-within.ensures.0, lt-ltb _ _ c.in_err-within.ensures.1)

pub returns-in_err-within-2-clause-told : goal.returns-in_err-within-2-clause-told
unfolding duty_answer_of
returns-in_err-within-2-clause-told c =
    let p = err_from_is_err_and c.from_residual-in_err-within-2.result c.from_residual-in_err-within-2.ensures.1 in
    rw (p.1, p.2, c.in_err-within-2.ensures.0, le-ltb _ _ c.in_ok-within.ensures, lt-ltb _ _ c.in_err-within-2.ensures.1)

pub returns-clause-told : goal.returns-clause-told
unfolding duty_answer_of
returns-clause-told c =
    rw (le-ltb _ _ c.in_ok-within.ensures, le-ltb _ _ c.in_ok-within-2.ensures, one_duty _ _ _ _ c.duty.ensures (is_duty _ _))

pub returns-in_err-within-clause-same : goal.returns-in_err-within-clause-same
returns-in_err-within-clause-same c = sym (told_back _) ∙ ap from_told (returns-in_err-within-clause-told c)

pub returns-in_err-within-2-clause-same : goal.returns-in_err-within-2-clause-same
returns-in_err-within-2-clause-same c = sym (told_back _) ∙ ap from_told (returns-in_err-within-2-clause-told c)

pub returns-clause-same : goal.returns-clause-same
returns-clause-same c = sym (told_back _) ∙ ap from_told (returns-clause-told c)
