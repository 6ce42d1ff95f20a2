-- `conversion_opened` on the `unfolding` line of a theorem that is computed opens every definition of this crate and of those below it.
-- Assumes nothing.
use Rattle.temperature.specs.Opened.{temperature_opened}
use Rattle.registers.specs.Opened.{registers_opened}
use Rattle.conversion.specs.Conversion.{reading_of, local_limits_of, remote_limits_of, out_of, any_of, count_of}
use Rattle.conversion.specs.Conversion.{queued_of, shown_of, live_of, latch_of, sensed_of}

unfoldable pub conversion_opened : Unit {0}
unfolding temperature_opened registers_opened reading_of local_limits_of remote_limits_of out_of any_of count_of queued_of shown_of live_of latch_of sensed_of
conversion_opened = tt
