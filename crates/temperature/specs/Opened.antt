-- `temperature_opened` on the `unfolding` line of a theorem that is computed opens every definition of this crate and of those below it.
-- Assumes nothing.
use Rattle.temperature.specs.Temperature.{degrees_of, eighths_of, sum_of, held_of, cleared_of}

unfoldable pub temperature_opened : Unit {0}
unfolding degrees_of eighths_of sum_of held_of cleared_of
temperature_opened = tt
