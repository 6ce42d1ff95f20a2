-- `forgets`: after power-on nothing but the variant depends on what stood before. `powered_on`: what it is, field by field.
-- Assumes nothing.
use mathlib.Core.Path.{◌≡◌, refl, ap}
use mathlib.Core.Bool.{true}
use Prim.Native.Nat.{ℕ, zero, suc}
use native.Mathlib.Omega.{arith}
use lib.IntN.{pos}
use lib.Dec.{leb}
use borrow.Author.Tests.{leb-true}
use Rattle.laws.proofs.Choices.{clash, and_right}
use Rattle.temperature.specs.Temperature.{degrees_of, eighths_of}
use Rattle.registers.specs.Page.{power_on_of}
use Rattle.registers.proofs.Entries.{zero_at}
use Rattle.device.specs.declared.Device.{Device}
use Rattle.device.specs.declared.Event.TheVariants.{PowerOn}
use Rattle.device.specs.Bus.{silent_of, powered_of}
use Rattle.device.specs.Ranges.{variant_of}
use Rattle.device.specs.Step.{effect_of}
use Rattle.device_laws.specs.PowerOn.{printed_of, PoweredOn}

pub forgets : (d e : Device) → d.variant ≡ e.variant → effect_of d PowerOn ≡ effect_of e PowerOn
unfolding effect_of
forgets d e same = ap (λ (v : ℕ). silent_of (powered_of v)) same

table : (v : ℕ) → variant_of v ≡ true → power_on_of v ≡ printed_of v
unfolding variant_of power_on_of
table zero h = clash h
table (suc zero) h = refl
table (suc (suc zero)) h = refl
table (suc (suc (suc zero))) h = refl
table (suc (suc (suc (suc n)))) h =
    let v = suc (suc (suc (suc n))) in absurd (omega (arith, leb-true v 3 (and_right (leb 1 v) (leb v 3) h)))

no_eighths : eighths_of 0 0 ≡ pos 0
unfolding eighths_of degrees_of
no_eighths = refl

pub powered_on : (d : Device) → variant_of d.variant ≡ true → PoweredOn d (effect_of d PowerOn)
unfolding effect_of powered_of
powered_on d h =
    record {
      variant = refl;
      pointer = refl;
      pending = refl;
      status = zero_at d.variant 0x02 refl;
      low = refl;
      lowkept = refl;
      local = zero_at d.variant 0x00 refl;
      remote = rw (zero_at d.variant 0x01 refl, zero_at d.variant 0x10 refl) no_eighths;
      live = refl;
      count = refl;
      local_latch = refl;
      remote_latch = refl;
      settings = table d.variant h;
      acknowledged = refl;
      taken = refl;
      held = refl;
      byte = refl;
    }
