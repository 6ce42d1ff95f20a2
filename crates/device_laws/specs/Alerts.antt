-- P6 to P9 and request b in the bits that documents 01 and 02 print: what pulls the two pins, the first answer byte, and what an alert response and a read of
-- status do.
-- Assumes nothing.
use Rattle.std.specs.Prelude.{ℕ, ◌+◌, ◌*◌, ◌<◌, ◌≡◌, Bool, true, false, not, ◌||◌, ◌&&◌, cond}
use Rattle.std.specs.Int.Bits.{bit_or}
use Rattle.registers.specs.Bits.{has}
use Rattle.registers.specs.Page.{setting_of, address_of}
use Rattle.device.specs.declared.Device.{Device}
use Rattle.device.specs.declared.Outcome.{Outcome}
use Rattle.device.specs.Pins.{alert_of, tcrit_of}

-- one of D6 LHIGH, D5 LLOW, D4 RHIGH, D3 RLOW, D1 RCRIT, D0 LCRIT is set: not OPEN, and not D7
abbrev pub any_of_six : ℕ → Bool
any_of_six byte = has byte 0x40 || has byte 0x20 || has byte 0x10 || has byte 0x08 || has byte 0x02 || has byte 0x01

-- P9: answered exactly if ALERT is pulled and BF D0 is 0; then the mask bit, D7 of 03, becomes 1, and nothing else changes
pub record Responds (d : Device) (o : Outcome) : Type 0 where
  pub acknowledged : o.acknowledged ≡ (alert_of d && not (has (setting_of d.settings 0xBF) 0x01))
  pub byte : o.byte ≡ cond o.acknowledged (address_of d.variant * 2 + 1) 0
  pub taken : o.taken ≡ false
  pub held : o.held ≡ false
  pub variant : o.device.variant ≡ d.variant
  pub pointer : o.device.pointer ≡ d.pointer
  pub pending : o.device.pending ≡ d.pending
  -- request a: it keeps no low byte and lets none go
  pub low : o.device.low ≡ d.low
  pub lowkept : o.device.lowkept ≡ d.lowkept
  pub status : o.device.status ≡ d.status
  pub sensed : o.device.sensed ≡ d.sensed
  pub mask : setting_of o.device.settings 0x03 ≡ cond o.acknowledged (bit_or (setting_of d.settings 0x03) 0x80) (setting_of d.settings 0x03)
  pub others : (r : ℕ) → (r ≡ 0x03 → ⊥) → setting_of o.device.settings r ≡ setting_of d.settings r

-- P6: status is returned and cleared, the mask bit becomes 1 if BF D0 is 0 and one of the six was set, and the pointer is 02 (P10)
pub record StatusRead (d : Device) (o : Outcome) : Type 0 where
  pub acknowledged : o.acknowledged ≡ true
  pub byte : o.byte ≡ d.status
  pub taken : o.taken ≡ false
  pub held : o.held ≡ false
  pub cleared : o.device.status ≡ 0
  pub variant : o.device.variant ≡ d.variant
  pub pointer : o.device.pointer ≡ 0x02
  pub pending : o.device.pending ≡ d.pending
  -- request a: it keeps no low byte and lets none go
  pub low : o.device.low ≡ d.low
  pub lowkept : o.device.lowkept ≡ d.lowkept
  -- latches and live byte too
  pub sensed : o.device.sensed ≡ d.sensed
  pub mask : setting_of o.device.settings 0x03
      ≡ cond (not (has (setting_of d.settings 0xBF) 0x01) && any_of_six d.status) (bit_or (setting_of d.settings 0x03) 0x80) (setting_of d.settings 0x03)
  pub others : (r : ℕ) → (r ≡ 0x03 → ⊥) → setting_of o.device.settings r ≡ setting_of d.settings r

-- the first answer byte: the pins of the device as it stands after the event, acknowledged, conversion taken, request b: reading held, the rest 0
pub record FirstByte (after : Device) (acknowledged taken held : Bool) (byte : ℕ) : Type 0 where
  pub d0 : has byte 0x01 ≡ alert_of after
  pub d1 : has byte 0x02 ≡ tcrit_of after
  pub d2 : has byte 0x04 ≡ acknowledged
  pub d3 : has byte 0x08 ≡ taken
  pub d4 : has byte 0x10 ≡ held
  pub rest : byte < 0x20
