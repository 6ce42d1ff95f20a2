use lib.Bits.{bit_and}
use Rattle.registers.specs.Page.{kept_of}
use Rattle.registers.proofs.Settings.{write_below, write_changed}
use Rattle.device.specs.Bus.{stored_of}
use Rattle.device.proofs.bus.stored.Goals as goal

pub bounds-settings-i : goal.bounds-settings-i
bounds-settings-i c = write_below _ _ c.requires

pub returns : goal.returns
unfolding stored_of
returns c =
    rw (c.configured.ensures, c.kept.ensures, write_changed _ _ _ (bit_and c.args.v (kept_of c.args.reg)) c.requires)
