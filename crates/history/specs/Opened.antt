-- `history_opened` on the `unfolding` line of a theorem that is computed opens every definition that an account and its verdicts stand on.
-- Assumes nothing.
use Rattle.conversion.specs.Opened.{conversion_opened}
use Rattle.device.specs.Ranges.{variant_of, operands_of}
use Rattle.record.specs.Record.{code_of, decode_of}
use Rattle.capture_laws.specs.Events.{events_of, variants_in}
use Rattle.history.specs.Account.{without_d7, start_of, store_in, ask_in, write_in, is_taken, convert_in, noted_of, account_from, account_of}
use Rattle.history.specs.Verdict.{live_at, below_at, verdict_of}

-- what a capture's records are
unfoldable records_opened : Unit {0}
unfolding conversion_opened variant_of operands_of code_of decode_of events_of variants_in
records_opened = tt

unfoldable pub history_opened : Unit {0}
unfolding records_opened without_d7 start_of store_in ask_in write_in is_taken convert_in noted_of account_from account_of live_at below_at verdict_of
history_opened = tt
