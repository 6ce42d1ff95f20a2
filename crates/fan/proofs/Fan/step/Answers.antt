use mathlib.Core.Path.{◌≡◌, sym, ap, ◌∙◌}
use mir.Facts.{to_z-of_z}
use Rattle.std.proofs.lemmas.Result.{err_from_is_err_and}
use Rattle.fan.specs.Answers.{refusal_code, from_driven}
use Rattle.fan.proofs.Answers.{given, answered, refuses, some_code, driven_back}
use Rattle.fan.proofs.Rounds.{is_duty, one_duty}
use Rattle.fan.proofs.Fan.step.Goals as goal

pub returns-in_err-check-clause-told : goal.returns-in_err-check-clause-told
returns-in_err-check-clause-told c =
    let p = err_from_is_err_and c.from_residual.result c.from_residual.ensures.1 in
    let code : refusal_code c.in_err-check.field-0.0 ≡ given c.args.self.now c.args.earlier = rw c.of-table.ensures at c.in_err-check.ensures in
    rw (p.1, p.2, refuses c.args.self.now c.args.earlier c.args.reading (λ e. some_code _ (code ∙ e)), code)

pub returns-clause-told : goal.returns-clause-told
returns-clause-told c =
    let table = c.of-table.ensures in
    let duty = one_duty _ _ _ _ c.duty.ensures (is_duty _ _) in
    let accepted : given c.args.self.now c.args.earlier ≡ 0 = sym (rw table at c.in_ok-check.ensures) in
    let answer = answered c.args.self.now c.args.earlier c.args.reading accepted in
    rw (answer, duty, c.value-value.ensures, c.step-number.ensures, table, to_z-of_z c.ranges.reading)

pub returns-in_err-check-clause-same : goal.returns-in_err-check-clause-same
returns-in_err-check-clause-same c = sym (driven_back _) ∙ ap from_driven (returns-in_err-check-clause-told c)

pub returns-clause-same : goal.returns-clause-same
returns-clause-same c = sym (driven_back _) ∙ ap from_driven (returns-clause-told c)
