use Rattle.capture.specs.Reader.{ranges_of}
use Rattle.capture.proofs.ranges.in_range.Goals as goal

pub returns : goal.returns
unfolding ranges_of
returns c = simp (c.all.ensures, c.ranges-2.ensures, c.place.ensures)
