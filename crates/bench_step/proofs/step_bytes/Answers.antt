use mathlib.Core.Path.{sym, ap, ◌∙◌}
use Rattle.bench_step.specs.BenchStep.{from_taken}
use Rattle.bench_step.proofs.Twin.{is_step, is_refused, taken_back}
use Rattle.bench_step.proofs.step_bytes.Goals as goal

pub returns-in-Ok-clause-told : goal.returns-in-Ok-clause-told
returns-in-Ok-clause-told c = rw c.step.ensures.told (sym (is_step _ _ _ _ _ _ (sym c.decode.ensures ∙ c.in-Ok.is)))

pub returns-in-Ok-clause-same : goal.returns-in-Ok-clause-same
returns-in-Ok-clause-same c = sym (taken_back c.args.d _) ∙ ap from_taken (returns-in-Ok-clause-told c)

pub returns-in-Err-clause-told : goal.returns-in-Err-clause-told
returns-in-Err-clause-told c = rw c.refused.ensures (sym (is_refused _ _ _ _ _ _ (sym c.decode.ensures ∙ c.in-Err.is)))

pub returns-in-Err-clause-same : goal.returns-in-Err-clause-same
returns-in-Err-clause-same c = sym (taken_back c.args.d _) ∙ ap from_taken (returns-in-Err-clause-told c)
