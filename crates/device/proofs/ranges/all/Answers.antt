use Rattle.std.proofs.Common.{rules, ◌∙◌}
use Rattle.std.proofs.lemmas.Iterator.Search.{all_from_yields_List}
use Rattle.std.proofs.lemmas.Iterator.{YieldsList-from_slice}
use Rattle.device.proofs.Tests.{list_all_true}
use Rattle.device.proofs.ranges.all.Goals as goal

pub returns : goal.returns
returns c =
    all_from_yields_List (λ t. t) _ _ _ c.all.ensures.ran (YieldsList-from_slice c.args.tests.now cc) (λ x b q k. search rules)
    ∙ list_all_true c.args.tests.now
