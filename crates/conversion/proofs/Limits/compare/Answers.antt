use borrow.Author.Rules.{rules}
use mir.Syntax.{w16}
use mir.Val.{SFits}
use mir.Facts.{to_z-of_z}
use Rattle.conversion.specs.Conversion.{out_of}
use Rattle.conversion.proofs.Limits.compare.Goals as goal

pub returns : goal.returns
unfolding out_of
returns c =
    let high : SFits w16 c.args.self.high = search rules in
    let low : SFits w16 c.args.self.low = search rules in
    let crit : SFits w16 c.args.self.crit = search rules in
    rw (c.above-2.ensures, c.below.ensures, c.above.ensures, to_z-of_z c.ranges.t, to_z-of_z high, to_z-of_z low, to_z-of_z crit)
