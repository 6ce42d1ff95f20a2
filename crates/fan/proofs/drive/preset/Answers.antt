use mathlib.Core.Path.{◌∙◌}
use native.Mathlib.Omega.{arith}
use borrow.Author.Tests.{eq-eqb, ne_eqb}
use Rattle.fan.specs.Drive.{preset_of}
use Rattle.fan.proofs.Rounds.{halved, counted_max}
use Rattle.fan.proofs.drive.preset.Goals as goal

pub returns-then-n-eq1 : goal.returns-then-n-eq1
unfolding preset_of
returns-then-n-eq1 c =
    let n = c.from-n.ensures ∙ c.max.ensures ∙ counted_max _ in
    rw (← n, eq-eqb _ _ c.if-n-eq1.true)

pub returns : goal.returns
unfolding preset_of
returns c =
    let n = c.from-n.ensures ∙ c.max.ensures ∙ counted_max _ in
    rw (c.div_ceil.ensures, ← n, ne_eqb _ _ c.if-n-eq1.false, halved _ 1) (omega arith)
