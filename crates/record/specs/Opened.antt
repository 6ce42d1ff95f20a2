-- `record_opened` on the `unfolding` line of a theorem that is computed opens every definition of this crate and of those below it.
-- Assumes nothing.
use Rattle.device.specs.Opened.{device_opened}
use Rattle.record.specs.Record.{code_of, decode_of, encode_of}
use Rattle.record.specs.Writer.{write_event_of, count_bytes_of, header_of, write_header_of, write_header2_of}

unfoldable pub record_opened : Unit {0}
unfolding device_opened code_of decode_of encode_of write_event_of count_bytes_of header_of write_header_of write_header2_of
record_opened = tt
