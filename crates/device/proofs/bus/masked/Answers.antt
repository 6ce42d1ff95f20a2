use Rattle.registers.proofs.Settings.{configuration, change_configuration}
use Rattle.device.specs.Bus.{masked_of}
use Rattle.device.proofs.bus.masked.Goals as goal

pub returns : goal.returns
unfolding masked_of
returns c =
    let s = c.args.d.settings in
    rw (configuration s, change_configuration s)
