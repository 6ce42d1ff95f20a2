-- `powered_zero`: power-on of no variant leaves all zeros. `step_effect`: in range, of its own kinds
-- and with operands in the table a step is the effect with code 0.
-- `one_step`: two results that meet the step's promise are equal.
-- `ranged_after` and `variant_after`: a step, refused or not, leaves neither the ranges nor the variants.
-- Assumes nothing.
use mathlib.Core.Path.{◌≡◌, refl, sym, ap, ◌∙◌}
use mathlib.Core.Bool.{Bool, true, false, ◌&&◌, cond}
use Rattle.device.specs.declared.Device.{Device}
use Rattle.device.specs.declared.Event.{Event}
use Rattle.device.specs.declared.Accepted.{Accepted}
use Rattle.device.specs.declared.Refusal.{Refusal}
use Rattle.device.specs.declared.Refusal.TheVariants.{OutOfRange, Kind, Operand}
use Rattle.std.specs.Prelude.{Result, Ok, Err}
use Rattle.temperature.specs.Temperature.{degrees_of, eighths_of}
use Rattle.registers.specs.Page.{power_on_of, read_only_of}
use Rattle.device.specs.Bus.{powered_of, zero_device}
use Rattle.device.specs.Ranges.{variant_of, ranged_of, operands_of, second_of}
use Rattle.device.specs.Step.{effect_of, refused_of, stepped_of, told_of, from_told, step_of}
use Rattle.device.proofs.InRange.{kept}
use Rattle.device.proofs.Untouched.{same_variant}

pub powered_zero : powered_of 0 ≡ zero_device
unfolding powered_of power_on_of read_only_of eighths_of degrees_of
powered_zero = refl

pub step_effect : (d : Device) (e : Event) → variant_of d.variant ≡ true → ranged_of d ≡ true → second_of e ≡ false → operands_of e ≡ true
    → step_of d e ≡ stepped_of (effect_of d e)
unfolding step_of
step_effect d e variant ranged own operands = rw (variant, ranged, own, operands)

pub told_back : (d : Device) (r : Result Accepted Refusal) → from_told (told_of d r) ≡ r
told_back d (Ok a) = refl
told_back d (Err OutOfRange) = refl
told_back d (Err Kind) = refl
told_back d (Err Operand) = refl

pub same_told : (d : Device) (r s : Result Accepted Refusal) → told_of d r ≡ told_of d s → r ≡ s
same_told d r s e = sym (told_back d r) ∙ ap from_told e ∙ told_back d s

pub one_step : (d : Device) (e : Event) {r s : Result Accepted Refusal} → told_of d r ≡ step_of d e → told_of d s ≡ step_of d e → r ≡ s
one_step d e p q = same_told d _ _ (p ∙ sym q)

-- what holds of a device and of its effect holds after a step, refused or not
pub step_ind : (P : Device → Type 0) (d : Device) (e : Event) → P d → P (effect_of d e).device → P (step_of d e).device
unfolding step_of
step_ind P d e before after = split (variant_of d.variant && ranged_of d) (second_of e) (operands_of e)
  where
    split : (s t u : Bool) → P (cond s (cond t (refused_of d 3) (cond u (stepped_of (effect_of d e)) (refused_of d 4))) (refused_of d 8)).device
    split true true u = before
    split true false true = after
    split true false false = before
    split false t u = before

pub ranged_after : (d : Device) (e : Event) → ranged_of d ≡ true → ranged_of (step_of d e).device ≡ true
ranged_after d e r = step_ind (λ (x : Device). ranged_of x ≡ true) d e r (kept d e r)

pub variant_after : (d : Device) (e : Event) → variant_of d.variant ≡ true → variant_of (step_of d e).device.variant ≡ true
variant_after d e v = step_ind (λ (x : Device). variant_of x.variant ≡ true) d e v (ap variant_of (same_variant d e) ∙ v)
