use mathlib.Core.Path.{sym}
use Rattle.std.proofs.lemmas.Result.{err_from_is_err_and}
use Rattle.bench_write.proofs.Twin.{same_code, refused, written}
use Rattle.bench_write.proofs.write_event.Goals as goal

pub returns-in_err-e : goal.returns-in_err-e
returns-in_err-e c =
    let p = err_from_is_err_and c.from_residual.result c.from_residual.ensures.1 in
    rw (p.1, p.2, same_code _) (refused _ _ _ _ _ (sym c.in_err-e.ensures))

pub returns : goal.returns
returns c = written _ _ _ _ _ (sym c.in_ok-e.ensures) c.write_event.ensures
