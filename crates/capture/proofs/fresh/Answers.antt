use Rattle.device.proofs.Steps.{powered_zero}
use Rattle.capture.proofs.fresh.Goals as goal

pub returns : goal.returns
returns c = rw (c.powered-absent.ensures, powered_zero)
