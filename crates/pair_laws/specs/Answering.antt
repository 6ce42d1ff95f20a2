-- Request c, the alert response: when a device of two answers, the mask by which it is named, and what is then so of the bus.
-- Assumes nothing.
use Rattle.std.specs.Prelude.{ℕ, ◌+◌, ◌*◌, ◌<◌, ◌≡◌, Bool, true, false, not, ltb}
use Rattle.registers.specs.Bits.{has, alert_mask}
use Rattle.registers.specs.Page.{setting_of}
use Rattle.device.specs.Pins.{alert_of}
use Rattle.device.specs.Bus.{masked_of, responds_of}
use Rattle.pair.specs.declared.Bus.{Bus}
use Rattle.pair.specs.declared.Named.{Named}
use Rattle.pair.specs.Bus.{picked_of, first_address, second_address, Done, lines_of}
use Rattle.pair.specs.Mask.{mask_of, at_bit}
use Rattle.pair_laws.specs.Devices.{address_at, alone_named}

-- P9 lets it answer, and if it lets the other answer too, its own address is the lower
pub record Answers (p : Bus) (second : Bool) : Type 0 where
  pub may : responds_of (picked_of p second) ≡ true
  pub lower : responds_of (picked_of p (not second)) ≡ true → address_at p second < address_at p (not second)

-- ---- the mask

-- the device with the lower address is the second
abbrev pub lower_of : Bus → Bool
lower_of p = ltb (second_address p) (first_address p)

-- the devices that P9 lets answer, ordered by address, whichever came first in the header
abbrev pub alerting_mask : Bus → ℕ
alerting_mask p = mask_of (responds_of (picked_of p (lower_of p))) (responds_of (picked_of p (not (lower_of p))))

-- the device at a bit of it
abbrev pub device_at : Bus → ℕ → Named
device_at p i = at_bit i (alone_named (lower_of p)) (alone_named (not (lower_of p)))

-- ---- what the answer does

-- P9 of the device that answers; the other as it was, and ALERT of the bus now the other's alone
pub record Answered (p : Bus) (second : Bool) (o : Done) : Type 0 where
  pub acknowledged : o.acknowledged ≡ true
  pub byte : o.byte ≡ address_at p second * 2 + 1
  pub taken : o.taken ≡ false
  pub held : o.held ≡ false
  -- of the one that answers the mask bit becomes 1, and nothing else changes
  pub own : picked_of o.bus second ≡ masked_of (picked_of p second)
  pub mask : has (setting_of (picked_of o.bus second).settings 0x03) alert_mask ≡ true
  pub released : alert_of (picked_of o.bus second) ≡ false
  pub other : picked_of o.bus (not second) ≡ picked_of p (not second)
  pub line : (lines_of o.bus).alert ≡ alert_of (picked_of p (not second))
