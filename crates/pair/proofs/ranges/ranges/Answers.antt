use Rattle.pair.specs.Ranges.{bus_ranges_of}
use Rattle.pair.proofs.ranges.ranges.Goals as goal

pub returns : goal.returns
unfolding bus_ranges_of
returns c =
    simp (
      c.all.ensures,
      c.absent.ensures,
      c.ranged-2.ensures,
      c.address-2.ensures,
      c.address.ensures,
      c.variant-2.ensures,
      c.ranged.ensures,
      c.variant.ensures,
      c.counted.ensures,
    )
