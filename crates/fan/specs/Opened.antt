-- `fan_opened` on the `unfolding` line of a theorem that is computed opens every definition of this crate.
-- Assumes nothing.
use Rattle.fan.specs.Table.{stands_of, highest, step_of, some_of, falls_of, out_of}
use Rattle.fan.specs.Drive.{duty_of, preset_of}
use Rattle.fan.specs.Fan.{code_of, step_answer_of, duty_answer_of, preset_answer_of}

unfoldable pub fan_opened : Unit {0}
unfolding stands_of highest step_of some_of falls_of out_of duty_of preset_of code_of step_answer_of duty_answer_of preset_answer_of
fan_opened = tt
