-- What power-on leaves, field by field, in numbers that document 01 and source document 004 print.
-- Assumes nothing.
use Rattle.std.specs.Prelude.{ℕ, ◌≡◌, false, cond, List, [], ◌∷◌, pos, eqb}
use Rattle.device.specs.declared.Device.{Device}
use Rattle.device.specs.declared.Outcome.{Outcome}

-- 03 to 08, 11 to 14, 19, 20, 21, BF: rate 8, high limits 70, remote T_CRIT 110, local 85 or the LM89-1D's 105, hysteresis 10, others 0
abbrev pub printed_of : ℕ → List ℕ
printed_of variant = 0 ∷ 8 ∷ 70 ∷ 0 ∷ 70 ∷ 0 ∷ 0 ∷ 0 ∷ 0 ∷ 0 ∷ 110 ∷ cond (eqb variant 3) 105 85 ∷ 10 ∷ 0 ∷ []

-- the variant stays; everything else is as printed, whatever stood before
pub record PoweredOn (before : Device) (o : Outcome) : Type 0 where
  pub variant : o.device.variant ≡ before.variant
  -- P10
  pub pointer : o.device.pointer ≡ 0x00
  pub pending : o.device.pending ≡ false
  pub status : o.device.status ≡ 0
  -- request a: no low byte kept
  pub low : o.device.low ≡ 0
  pub lowkept : o.device.lowkept ≡ false
  pub local : o.device.sensed.local ≡ 0
  pub remote : o.device.sensed.remote ≡ pos 0
  pub live : o.device.sensed.live ≡ 0
  pub count : o.device.sensed.faults ≡ 0
  pub local_latch : o.device.sensed.llatch ≡ false
  pub remote_latch : o.device.sensed.rlatch ≡ false
  pub settings : o.device.settings ≡ printed_of before.variant
  pub acknowledged : o.acknowledged ≡ false
  pub taken : o.taken ≡ false
  -- request b
  pub held : o.held ≡ false
  pub byte : o.byte ≡ 0
