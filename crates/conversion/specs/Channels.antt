-- The two channels, local and remote, and the T_CRIT latch of each (P8).
-- Assumes nothing.
use Rattle.std.specs.Prelude.{Bool}
use Rattle.conversion.specs.declared.Sensed.{Sensed}

pub data Channel : Type 0 where
  local_channel : Channel
  remote_channel : Channel

abbrev pub latch_at : Channel → Sensed → Bool
latch_at local_channel n = n.llatch
latch_at remote_channel n = n.rlatch
