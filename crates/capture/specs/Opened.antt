-- `capture_opened` on the `unfolding` line of a theorem that is computed opens every definition of this crate and of those below it.
-- Assumes nothing.
use Rattle.pair.specs.Opened.{pair_opened}
use Rattle.capture.specs.Reader.{place_of, ranges_of, head_of, record_of, turn_of, feed_of}
use Rattle.capture.specs.Whole.{records_of, record_count_of, second_variant_of, variants_of, whole_of}

unfoldable pub capture_opened : Unit {0}
unfolding pair_opened place_of ranges_of head_of record_of turn_of feed_of records_of record_count_of second_variant_of variants_of whole_of
capture_opened = tt
