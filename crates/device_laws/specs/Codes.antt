-- A step's codes, line by line: which code a step gives, and exactly when.
-- Assumes nothing.
use Rattle.std.specs.Prelude.{ℕ, ◌≡◌, true, false}
use Rattle.device.specs.declared.Device.{Device}
use Rattle.device.specs.declared.Event.{Event}
use Rattle.device.specs.Ranges.{variant_of, ranged_of, operands_of, second_of}

-- the device is of a variant and in its ranges
pub record Ready (d : Device) : Type 0 where
  pub variant : variant_of d.variant ≡ true
  pub ranges : ranged_of d ≡ true

-- stepping device d by event e gives this code
pub data Steps (d : Device) (e : Event) : ℕ → Type 0 where
  -- 8: the device handed in is of no variant, or out of its ranges
  no_variant : variant_of d.variant ≡ false → Steps d e 8
  out_of_ranges : ranged_of d ≡ false → Steps d e 8
  -- 3, by request c: a conversion of a second device, kind 08 or 09
  second : Ready d → second_of e ≡ true → Steps d e 3
  -- 4: an operand outside the table
  operand : Ready d → second_of e ≡ false → operands_of e ≡ false → Steps d e 4
  -- 0: none of the others applies
  stepped : Ready d → second_of e ≡ false → operands_of e ≡ true → Steps d e 0
