-- `pair_opened` on the `unfolding` line of a theorem that is computed opens every definition of this crate and of those below it.
-- Assumes nothing.
use Rattle.record.specs.Opened.{record_opened}
use Rattle.pair.specs.Bus.{respondent_of, among_of, names_of, bus_effect_of, lines_of, bus_answer_of}
use Rattle.pair.specs.Ranges.{unsensed_of, absent_of, bus_ranges_of}

unfoldable pub pair_opened : Unit {0}
unfolding record_opened respondent_of among_of names_of bus_effect_of lines_of bus_answer_of unsensed_of absent_of bus_ranges_of
pair_opened = tt
