-- P2, P4, P5, P11 and request b of a device: what a taken conversion does to it, field by field, and conversions in a row. Request c: those of a
-- second device, kinds 08 and 09, are among them.
-- Assumes nothing.
use Rattle.std.specs.Prelude.{ℕ, ◌≡◌, Bool, true, false, ◌||◌, List, [], ◌∷◌, ℤ, pos}
use Rattle.registers.specs.Bits.{has}
use Rattle.device_laws.specs.AfterConversion.{AfterConversion, outside_any}
use Rattle.device_laws.specs.Moves.{sample_of, held_by}
use Rattle.device.specs.declared.Device.{Device}
use Rattle.device.specs.declared.Outcome.{Outcome}
use Rattle.device.specs.declared.Event.{Event}
use Rattle.device.specs.declared.Event.TheVariants.{Write, Read, Send, Receive, Convert, Open, PowerOn, ConvertSecond, OpenSecond}
use Rattle.device.specs.Profile.{IsConversion}
use Rattle.device.specs.Step.{effect_of}

-- ---- the operands of a conversion; of any other event they are not asked

abbrev pub local_in : Event → ℕ
local_in (Write a w v) = 0
local_in (Read a r) = 0
local_in (Send a r) = 0
local_in (Receive a) = 0
local_in (Convert local high low) = local
local_in (Open local) = local
local_in PowerOn = 0
local_in (ConvertSecond local high low) = local
local_in (OpenSecond local) = local

abbrev pub open_in : Event → Bool
open_in (Write a w v) = false
open_in (Read a r) = false
open_in (Send a r) = false
open_in (Receive a) = false
open_in (Convert local high low) = false
open_in (Open local) = true
open_in PowerOn = false
open_in (ConvertSecond local high low) = false
open_in (OpenSecond local) = true

-- P2: sample plus the offset of 11 and 12, held to -1024..1023; 1016 with no offset for an open diode
abbrev pub reading_in : Device → Event → ℤ
reading_in d (Write a w v) = pos 0
reading_in d (Read a r) = pos 0
reading_in d (Send a r) = pos 0
reading_in d (Receive a) = pos 0
reading_in d (Convert local high low) = sample_of d high low
reading_in d (Open local) = pos 1016
reading_in d PowerOn = pos 0
reading_in d (ConvertSecond local high low) = sample_of d high low
reading_in d (OpenSecond local) = pos 1016

-- ---- a taken conversion

pub record Converted (d : Device) (e : Event) (o : Outcome) : Type 0 where
  pub local : o.device.sensed.local ≡ local_in e
  pub remote : o.device.sensed.remote ≡ reading_in d e
  pub sensed : AfterConversion d.settings d.sensed (open_in e) o.device.sensed
  -- P5: every bit of status stays, every live bit comes to it, and no other
  pub gathers : (mask : ℕ) → has o.device.status mask ≡ (has d.status mask || has o.device.sensed.live mask)
  -- P11: a pending one-shot is used up
  pub pending : o.device.pending ≡ false
  pub variant : o.device.variant ≡ d.variant
  pub pointer : o.device.pointer ≡ d.pointer
  -- request a: a kept low byte stays that of its own reading
  pub low : o.device.low ≡ d.low
  pub lowkept : o.device.lowkept ≡ d.lowkept
  pub settings : o.device.settings ≡ d.settings
  pub acknowledged : o.acknowledged ≡ false
  -- request b: with the diode connected, sample plus offset is off the scale
  pub held : o.held ≡ held_by d e
  pub byte : o.byte ≡ 0

-- ---- conversions in a row

abbrev pub after_all : Device → List Event → Device
after_all d [] = d
after_all d (e ∷ es) = after_all (effect_of d e).device es

-- a taken conversion whose remote reading is outside one of its three limits
pub record Fault (d : Device) (e : Event) : Type 0 where
  pub conversion : IsConversion e
  pub taken : (effect_of d e).taken ≡ true
  pub outside : outside_any d.settings (effect_of d e).device.sensed.remote ≡ true

abbrev pub Faults : Device → List Event → Type 0
Faults d [] = Unit {0}
Faults d (e ∷ es) = Fault d e × Faults (effect_of d e).device es
