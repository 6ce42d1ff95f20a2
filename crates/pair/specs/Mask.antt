-- The mask of the devices that P9 lets answer, ordered by address, and its lowest set bit.
-- Assumes nothing.
use Rattle.std.specs.Prelude.{ℕ, ◌/◌, ◌%◌, ◌^◌, ◌<◌, ◌≡◌, Bool, cond, eqb}
use Rattle.std.specs.Int.Bits.{bit_or}
use Rattle.conversion.specs.Conversion.{bit_of}
use Rattle.pair.specs.declared.Named.{Named}
use Rattle.pair.specs.declared.Named.TheVariants.{Neither}

-- bit i of a mask
abbrev pub bit : ℕ → ℕ → ℕ
bit mask i = mask / 2 ^ i % 2

-- i is the lowest set bit of a mask
pub record Lowest (mask i : ℕ) : Type 0 where
  pub set : bit mask i ≡ 1
  pub clear : (k : ℕ) → k < i → bit mask k ≡ 0

-- bit 0 is the device with the lower address
abbrev pub mask_of : Bool → Bool → ℕ
mask_of low high = bit_or (bit_of low 1) (bit_of high 2)

-- the device at a bit of the mask
abbrev pub at_bit : ℕ → Named → Named → Named
at_bit at low high = cond (eqb at 0) low (cond (eqb at 1) high Neither)
