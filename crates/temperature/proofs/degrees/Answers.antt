use mathlib.Core.Path.{◌≡◌, refl, ◌∙◌}
use Prim.Native.Nat.{ℕ, ◌<◌}
use mir.Syntax.{w8}
use mir.Val.{to_z}
use mir.Facts.{to_z-of_z}
use Rattle.laws.proofs.Tables.{agree}
use Rattle.temperature.specs.Temperature.{degrees_of}
use Rattle.temperature.proofs.Laws.{same}
use Rattle.temperature.proofs.degrees.Goals as goal

-- A byte as a signed number is the byte in degrees. Assumes nothing.

signed : (b : ℕ) → b < 256 → to_z w8 b ≡ degrees_of b
unfolding degrees_of
signed = agree (to_z w8) degrees_of 256 refl

pub returns : goal.returns
returns c =
    same c.from.result c.from.type_inv
    ∙ c.from.ensures
    ∙ to_z-of_z {w = w8} (record { sfits = c.cast_signed.type_inv })
    ∙ c.cast_signed.ensures
    ∙ signed c.args.b c.ranges.b.fits
