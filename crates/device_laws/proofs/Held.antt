-- Request b. `shown_exactly`: D4 of the first answer byte, for every device and event. `step_shows` and `step_rest`: of every step, refused ones too,
-- and D5 to D7 are 0. `highest_not` and `lowest_not`: a sum of exactly 1023 or -1024 is not held. `untaken_not`: nor is a conversion that is not
-- taken. `others_never`, `open_never`: no other event shows it, an open diode neither. `told`: what it tells of the reading. Kinds 05 and 08 are alike
-- here, and 06 and 09.
-- Assumes nothing.
use mathlib.Core.Path.{◌≡◌, refl, sym, ap, ◌∙◌}
use mathlib.Core.Bool.{Bool, true, false, ◌&&◌, and-false, cond}
use Prim.Native.Nat.{ℕ, ◌<◌}
use lib.IntN.{ℤ, pos, neg_ℤ}
use lib.Dec.{eqb, lit<}
use Rattle.laws.proofs.Choices.{clash}
use Rattle.temperature.specs.Temperature.{held_of}
use Rattle.temperature.proofs.Held.{held_tells, held_eighths, held_not, held_high, held_low, held_other}
use Rattle.registers.specs.Bits.{has}
use Rattle.device.specs.declared.Device.{Device}
use Rattle.device.specs.declared.Event.{Event}
use Rattle.device.specs.declared.Event.TheVariants.{Write, Read, Send, Receive, Convert, Open, PowerOn, ConvertSecond, OpenSecond}
use Rattle.device.specs.Ranges.{variant_of, ranged_of, operands_of, second_of}
use Rattle.device.specs.Step.{effect_of, refused_of, stepped_of, step_of}
use Rattle.device_laws.specs.Moves.{taken_of, sum_at, sample_of, remote_after, off_scale, held_by}
use Rattle.device_laws.specs.Held.{shows_held, connected, Samples, Opens, Told}
use Rattle.device_laws.specs.Held.Samples.{kind_05, kind_08}
use Rattle.device_laws.specs.Held.Opens.{kind_06, kind_09}
use Rattle.device_laws.proofs.Alerts.{answer_bits}
use Rattle.device_laws.proofs.Moves.{held_exactly, remote_moves}

-- ---- D4, exactly

pub shown_exactly : (d : Device) (e : Event) → shows_held (effect_of d e) ≡ held_by d e
shown_exactly d e = (answer_bits (effect_of d e)).d4 ∙ held_exactly d e

-- a refused step answers 0
pub step_shows : (d : Device) (e : Event) → has (step_of d e).first 0x10 ≡ (eqb (step_of d e).code 0 && held_by d e)
unfolding step_of
step_shows d e = split (variant_of d.variant && ranged_of d) (second_of e) (operands_of e)
  where
    split : (s t u : Bool) →
        let r = cond s (cond t (refused_of d 3) (cond u (stepped_of (effect_of d e)) (refused_of d 4))) (refused_of d 8) in
        has r.first 0x10 ≡ (eqb r.code 0 && held_by d e)
    split true true u = refl
    split true false true = shown_exactly d e
    split true false false = refl
    split false t u = refl

pub step_rest : (d : Device) (e : Event) → (step_of d e).first < 0x20
unfolding step_of
step_rest d e = split (variant_of d.variant && ranged_of d) (second_of e) (operands_of e)
  where
    split : (s t u : Bool) → (cond s (cond t (refused_of d 3) (cond u (stepped_of (effect_of d e)) (refused_of d 4))) (refused_of d 8)).first < 0x20
    split true true u = lit< tt
    split true false true = (answer_bits (effect_of d e)).rest
    split true false false = lit< tt
    split false t u = lit< tt

-- ---- where it is not shown

module _ (d : Device) (local high low : ℕ) where
  sample_held : (e : Event) → Samples local high low e → held_by d e ≡ (taken_of d && off_scale (sum_at d high low))
  sample_held _ kind_05 = refl
  sample_held _ kind_08 = refl

  sample_remote : (e : Event) → Samples local high low e → remote_after d e ≡ cond (taken_of d) (sample_of d high low) d.sensed.remote
  sample_remote _ kind_05 = refl
  sample_remote _ kind_08 = refl

module _ (d : Device) (local high low : ℕ) (e : Event) (sample : Samples local high low e) where
  sample_shows : shows_held (effect_of d e) ≡ (taken_of d && off_scale (sum_at d high low))
  sample_shows = shown_exactly d e ∙ sample_held d local high low e sample

  unshown : (sum : ℤ) → off_scale sum ≡ false → sum_at d high low ≡ sum → shows_held (effect_of d e) ≡ false
  unshown sum on h = sample_shows ∙ ap (λ (z : ℤ). taken_of d && off_scale z) h ∙ ap (λ (t : Bool). taken_of d && t) on ∙ and-false (taken_of d)

  pub highest_not : sum_at d high low ≡ pos 1023 → shows_held (effect_of d e) ≡ false
  highest_not = unshown (pos 1023) refl

  pub lowest_not : sum_at d high low ≡ neg_ℤ (pos 1024) → shows_held (effect_of d e) ≡ false
  lowest_not = unshown (neg_ℤ (pos 1024)) refl

  pub untaken_not : taken_of d ≡ false → shows_held (effect_of d e) ≡ false
  untaken_not h = sample_shows ∙ ap (λ (t : Bool). t && off_scale (sum_at d high low)) h

pub others_never : (d : Device) (e : Event) → connected e ≡ false → shows_held (effect_of d e) ≡ false
others_never d (Write a w v) h = shown_exactly d (Write a w v)
others_never d (Read a r) h = shown_exactly d (Read a r)
others_never d (Send a r) h = shown_exactly d (Send a r)
others_never d (Receive a) h = shown_exactly d (Receive a)
others_never d (Convert local high low) h = clash (sym h)
others_never d (Open local) h = shown_exactly d (Open local)
others_never d PowerOn h = shown_exactly d PowerOn
others_never d (ConvertSecond local high low) h = clash (sym h)
others_never d (OpenSecond local) h = shown_exactly d (OpenSecond local)

pub open_never : (d : Device) (e : Event) → Opens e → shows_held (effect_of d e) ≡ false
open_never d _ (kind_06 local) = others_never d (Open local) refl
open_never d _ (kind_09 local) = others_never d (OpenSecond local) refl

-- ---- what it tells of the reading

module _ (d : Device) (local high low : ℕ) (e : Event) (sample : Samples local high low e) (taken : taken_of d ≡ true) where
  shows : shows_held (effect_of d e) ≡ off_scale (sum_at d high low)
  shows = sample_shows d local high low e sample ∙ ap (λ (t : Bool). t && off_scale (sum_at d high low)) taken

  reads : (effect_of d e).device.sensed.remote ≡ (held_of (sum_at d high low)).eighths
  reads = remote_moves d e ∙ sample_remote d local high low e sample ∙ rw taken (sym (held_eighths (sum_at d high low)))

  pub told : Told (sum_at d high low) (effect_of d e)
  told =
      let sum = sum_at d high low in
      record {
        shown = shows;
        within = λ h. reads ∙ held_not sum (held_tells sum ∙ sym shows ∙ h);
        beyond = λ h same. held_other sum (held_tells sum ∙ sym shows ∙ h) (sym reads ∙ same);
        above = λ h. reads ∙ held_high sum h;
        below = λ h. reads ∙ held_low sum h;
      }
