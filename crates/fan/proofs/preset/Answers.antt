use mathlib.Core.Path.{sym, ap, ◌∙◌}
use borrow.Author.Tests.{lt-ltb, le-ltb}
use Rattle.std.proofs.lemmas.Result.{err_from_is_err_and}
use Rattle.fan.specs.Fan.{preset_answer_of}
use Rattle.fan.specs.Answers.{from_told}
use Rattle.fan.proofs.Answers.{told_back}
use Rattle.fan.proofs.preset.Goals as goal

pub returns-in_err-within-clause-told : goal.returns-in_err-within-clause-told
unfolding preset_answer_of
returns-in_err-within-clause-told c =
    let p = err_from_is_err_and c.from_residual.result c.from_residual.ensures.1 in
    rw (p.1, p.2, c.in_err-within.ensures.0, lt-ltb _ _ c.in_err-within.ensures.1)

pub returns-clause-told : goal.returns-clause-told
unfolding preset_answer_of
returns-clause-told c = rw (le-ltb _ _ c.in_ok-within.ensures, c.preset.ensures)

pub returns-in_err-within-clause-same : goal.returns-in_err-within-clause-same
returns-in_err-within-clause-same c = sym (told_back _) ∙ ap from_told (returns-in_err-within-clause-told c)

pub returns-clause-same : goal.returns-clause-same
returns-clause-same c = sym (told_back _) ∙ ap from_told (returns-clause-told c)
