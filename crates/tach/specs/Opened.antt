-- `tach_opened` on the `unfolding` line of a theorem that is computed opens every definition of this crate.
-- Assumes nothing.
use Rattle.tach.specs.Tach.{slowest_of, fastest_of, under_of, some_of, tach_of}

unfoldable pub tach_opened : Unit {0}
unfolding slowest_of fastest_of under_of some_of tach_of
tach_opened = tt
