use Rattle.conversion.specs.Conversion.{live_of}
use Rattle.conversion.proofs.live.Goals as goal

pub returns : goal.returns
unfolding live_of
returns c = cc
