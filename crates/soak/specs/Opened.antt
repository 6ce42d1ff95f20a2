-- `soak_opened` on the `unfolding` line of a theorem that is computed opens every definition of `Soak` and of the crates below.
-- Assumes nothing.
use Rattle.record.specs.Opened.{record_opened}
use Rattle.soak.specs.Soak.{met_of, decided_of, back_of, soak_of}

unfoldable pub soak_opened : Unit {0}
unfolding record_opened met_of decided_of back_of soak_of
soak_opened = tt
