-- A step's codes, both ways: `step_exactly`, each code is given exactly if its line of the table says so. Request c: `second_refused`, a conversion of a
-- second device gets 3 from a step, whatever its operands, with answer bytes 0 and the device as it was.
-- Assumes nothing.
use Prim.Native.Nat.{ℕ}
use mathlib.Core.Path.{◌≡◌}
use mathlib.Core.Logic.{◌↔◌}
use mathlib.Core.Bool.{true, and-false}
use Rattle.laws.proofs.Choices.{by_test}
use Rattle.laws.proofs.Exactly.{by_lines}
use Rattle.device.specs.declared.Device.{Device}
use Rattle.device.specs.declared.Event.{Event}
use Rattle.device.specs.Ranges.{variant_of, ranged_of, operands_of, second_of}
use Rattle.device.specs.Step.{refused_of, step_of}
use Rattle.device_laws.specs.Codes.{Ready, Steps}
use Rattle.device_laws.specs.Codes.Steps.{no_variant, out_of_ranges, second, operand, stepped}

module _ (d : Device) (e : Event) where
  pub second_refused : Ready d → second_of e ≡ true → step_of d e ≡ refused_of d 3
  unfolding step_of
  second_refused r other = rw (r.variant, r.ranges, other)

  steps : (code : ℕ) → Steps d e code → (step_of d e).code ≡ code
  unfolding step_of
  steps _ (no_variant bad) = simp bad
  steps _ (out_of_ranges bad) = simp (bad, and-false)
  steps _ (second r other) = simp (r.variant, r.ranges, other)
  steps _ (operand r own bad) = simp (r.variant, r.ranges, own, bad)
  steps _ (stepped r own good) = simp (r.variant, r.ranges, own, good)

  told : {code : ℕ} → Steps d e code → Steps d e (step_of d e).code
  told {code} l = rw (steps code l) l

  ready_line : Ready d → Steps d e (step_of d e).code
  ready_line r =
      by_test (second_of e) (λ s. told (second r s)) (λ s. by_test (operands_of e) (λ o. told (stepped r s o)) (λ o. told (operand r s o)))

  line : Steps d e (step_of d e).code
  line =
      by_test (variant_of d.variant)
      (λ v. by_test (ranged_of d) (λ r. ready_line (record { variant = v; ranges = r })) (λ r. told (out_of_ranges r)))
      (λ v. told (no_variant v))

  pub step_exactly : (code : ℕ) → ((step_of d e).code ≡ code) ↔ Steps d e code
  step_exactly = by_lines (Steps d e) _ line steps
