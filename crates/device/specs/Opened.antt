-- `device_opened` on the `unfolding` line of a theorem that is computed opens every definition of this crate and of those below it.
-- Assumes nothing.
use Rattle.conversion.specs.Opened.{conversion_opened}
use Rattle.device.specs.Pins.{comparator_of, watched_of, alert_of, tcrit_of, pins_of, first_of}
use Rattle.device.specs.Bus.{masked_of, stored_of, fired_of, put_of, status_read_of, low_read_of, read_only_value_of}
use Rattle.device.specs.Bus.{value_of, after_read_of, get_of, point_of, responds_of, respond_of}
use Rattle.device.specs.Bus.{takes_of, converted_of, sense_of, powered_of}
use Rattle.device.specs.Ranges.{variant_of, masks_of, ranged_of, operands_of, second_of}
use Rattle.device.specs.Step.{effect_of, answer_of, step_of}

unfoldable pins_opened : Unit {0}
unfolding comparator_of watched_of alert_of tcrit_of pins_of first_of
pins_opened = tt

unfoldable writes_opened : Unit {0}
unfolding masked_of stored_of fired_of put_of
writes_opened = tt

unfoldable reads_opened : Unit {0}
unfolding status_read_of low_read_of read_only_value_of value_of after_read_of get_of point_of responds_of respond_of
reads_opened = tt

unfoldable converts_opened : Unit {0}
unfolding takes_of converted_of sense_of powered_of
converts_opened = tt

unfoldable ranges_opened : Unit {0}
unfolding variant_of masks_of ranged_of operands_of second_of
ranges_opened = tt

unfoldable step_opened : Unit {0}
unfolding effect_of answer_of step_of
step_opened = tt

unfoldable pub device_opened : Unit {0}
unfolding conversion_opened pins_opened writes_opened reads_opened converts_opened ranges_opened step_opened
device_opened = tt
