use Rattle.capture.specs.Reader.{place_of}
use Rattle.capture.proofs.ranges.place.Goals as goal

pub returns : goal.returns
unfolding place_of
returns c =
    simp (
      c.all.ensures,
      c.limit.ensures,
      c.count_place.ensures,
      c.taken.ensures,
      c.within.ensures,
      c.complete-complete.ensures,
      c.from.ensures,
    )
