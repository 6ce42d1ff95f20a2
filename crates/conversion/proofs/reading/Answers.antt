use Rattle.conversion.specs.Conversion.{reading_of}
use Rattle.registers.proofs.Settings.{offset, offset_part}
use Rattle.conversion.proofs.reading.Goals as goal

pub returns : goal.returns
unfolding reading_of
returns c =
    let s = c.args.s in
    rw (c.held_sum.ensures, offset s, offset_part s)
