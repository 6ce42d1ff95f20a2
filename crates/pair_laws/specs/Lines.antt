-- Request c, the joined lines: a device of the bus that pulls one.
-- Assumes nothing.
use Rattle.std.specs.Prelude.{◌≡◌, Bool, true}
use Rattle.device.specs.declared.Device.{Device}
use Rattle.pair.specs.declared.Bus.{Bus}
use Rattle.pair.specs.Bus.{picked_of}
use Rattle.pair_laws.specs.Devices.{present_of}

-- some device of the bus pulls the line
pub record Pulled (line : Device → Bool) (p : Bus) : Type 0 where
  pub second : Bool
  pub present : present_of p second ≡ true
  pub pulls : line (picked_of p second) ≡ true
