use borrow.Author.Rules.{rules}
use mathlib.Core.Path.{◌≡◌, ◌∙◌}
use lib.ListN.{length}
use Rattle.device.proofs.Steps.{powered_zero}
use Rattle.pair.proofs.Zeros.{same, same_exactly}
use Rattle.pair.proofs.ranges.absent.Goals as goal

pub returns : goal.returns
unfolding same
returns c =
    let long : length c.args.d.settings ≡ 14 = search rules in
    let told : c.eq.result ≡ same c.args.d c.powered.result = c.eq.ensures in
    (rw (c.powered.ensures, powered_zero) at told) ∙ same_exactly c.args.d long
