use Rattle.registers.proofs.Settings.{filter_alert}
use Rattle.device.specs.Pins.{comparator_of}
use Rattle.device.proofs.outputs.comparator.Goals as goal

pub returns : goal.returns
unfolding comparator_of
returns c = rw (c.has.ensures, filter_alert c.args.d.settings)
