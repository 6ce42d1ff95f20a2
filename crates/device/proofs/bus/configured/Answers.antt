use Rattle.registers.proofs.Settings.{configuration}
use Rattle.device.proofs.bus.configured.Goals as goal

pub returns : goal.returns
returns c = rw (c.has.ensures, configuration c.args.settings)
