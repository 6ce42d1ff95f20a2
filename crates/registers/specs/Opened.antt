-- `registers_opened` on the `unfolding` line of a theorem that is computed opens every definition of this crate and of those below it.
-- Assumes nothing.
use Rattle.registers.specs.Page.{readable_of, writable_of, known_of, write_position_of, read_position_of, setting_of, changed_of, settable_of, read_at_of}
use Rattle.registers.specs.Page.{kept_of, power_on_of, read_only_of, address_of}

unfoldable pub registers_opened : Unit {0}
unfolding readable_of writable_of known_of write_position_of read_position_of setting_of changed_of settable_of read_at_of kept_of power_on_of
    read_only_of address_of
registers_opened = tt
