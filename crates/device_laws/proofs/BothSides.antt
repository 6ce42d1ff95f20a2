-- `both_sides`: document 01's "Both sides of each line", all ten lines.
-- Assumes nothing.
use mathlib.Core.Path.{◌≡◌, refl}
use mathlib.Core.Bool.{Bool, true, false}
use mathlib.Core.List.{List, [], ◌∷◌, map}
use Prim.Native.Nat.{ℕ, ◌<◌, ◌≤◌}
use native.Mathlib.Omega.{arith}
use native.Mathlib.Decide.{dec_lt}
use lib.IntN.{ℤ, pos, negsuc, ◌-ℤ◌}
use lib.Signed.{mag, lt_z}
use lib.Dec.{lit<}
use borrow.Author.Tests.{le-ltb}
use Rattle.laws.proofs.Choices.{cond_ind}
use Rattle.temperature.proofs.Laws.{eighths_within}
use Rattle.temperature.specs.declared.Reading.{Reading}
use Rattle.temperature.specs.Temperature.{degrees_of, eighths_of, cleared_of}
use Rattle.registers.specs.Page.{setting_of}
use Rattle.conversion.specs.Conversion.{latch_of, sensed_of}
use Rattle.device.specs.declared.Event.{Event}
use Rattle.device.specs.declared.Event.TheVariants.{Write, Read, Send, Receive, Convert, Open, PowerOn, ConvertSecond, OpenSecond}
use Rattle.device.specs.Bus.{takes_of, converted_of, sense_of, powered_of}
use Rattle.device.specs.Opened.{device_opened}
use Rattle.device.specs.Step.{effect_of, step_of}
use Rattle.device.specs.declared.Device.{Device}
use Rattle.device.specs.declared.Outcome.{Outcome}
use Rattle.device.specs.Profile.{IsConversion}
use Rattle.device.specs.Run.{replies_of, after_of}
use Rattle.device_laws.specs.Exchange.{events_in, replies_in}
use Rattle.device_laws.specs.BothSides.{heard, Line, table, Conversions, BothSides}
use Rattle.device_laws.specs.Conversions.{after_all}
use Rattle.device.proofs.Steps.{step_ind}

ten_lines : map (λ (l : Line). replies_of (after_of (powered_of 1) l.scene) (events_in l.exchanges)) table
    ≡ map (λ (l : Line). replies_in l.exchanges) table
unfolding device_opened
ten_lines = refl

all_heard : map (λ (l : Line). heard (replies_of (powered_of 1) l.scene)) table ≡ map (λ (l : Line). true) table
unfolding device_opened
all_heard = refl

-- ---- local T_CRIT -128, hysteresis 1

not_below : (z : ℤ) → mag z < 1032 → lt_z z (negsuc 1031) ≡ false
not_below (pos n) h = refl
not_below (negsuc n) h = le-ltb 1031 n (omega arith)

limit : eighths_of 0x80 0 -ℤ pos 8 ≡ negsuc 1031
unfolding eighths_of degrees_of
limit = refl

large : (local : ℕ) → 256 ≤ local → lt_z (eighths_of local 0) (negsuc 1031) ≡ false
unfolding eighths_of degrees_of
large local h = rw (le-ltb local 0x80 (omega arith), le-ltb local 256 h)

-- no byte is strictly below -129 degrees, and no larger number either
not_cleared : (local : ℕ) → cleared_of (eighths_of local 0) 0x80 1 ≡ false
unfolding cleared_of
not_cleared local = split (dec_lt local 256)
  where
    split : Dec (local < 256) → lt_z (eighths_of local 0) (eighths_of 0x80 0 -ℤ pos 8) ≡ false
    split (yes h) = rw limit (not_below (eighths_of local 0) (eighths_within local 0 (record { fits = h }) (record { fits = lit< tt })).within)
    split (no h) = rw limit (large local (omega arith))

-- the latch set, and the two registers as they are
record Stuck (d : Device) : Type 0 where
  latch : d.sensed.llatch ≡ true
  crit : setting_of d.settings 0x20 ≡ 0x80
  less : setting_of d.settings 0x21 ≡ 0x01

holds : (critical : Bool) → latch_of critical false true ≡ true
unfolding latch_of
holds true = refl
holds false = refl

converted_stuck : (d : Device) (local : ℕ) (remote : ℤ) (broken : Bool) → Stuck d → Stuck (converted_of d local remote broken)
unfolding converted_of sensed_of
converted_stuck d local remote broken h =
    record { latch = rw (h.crit, h.less, not_cleared local, h.latch) (holds _); crit = h.crit; less = h.less }

sense_stuck : (d : Device) (local : ℕ) (remote : Reading) (broken : Bool) → Stuck d → Stuck (sense_of d local remote broken).device
unfolding sense_of
sense_stuck d local remote broken h =
    cond_ind (λ (o : Outcome). Stuck o.device) (takes_of d) (λ _. converted_stuck d local remote.eighths broken h) (λ _. h)

effect_stuck : (d : Device) (e : Event) → IsConversion e → Stuck d → Stuck (effect_of d e).device
unfolding effect_of
effect_stuck d (Write a w v) c h = absurd c
effect_stuck d (Read a r) c h = absurd c
effect_stuck d (Send a r) c h = absurd c
effect_stuck d (Receive a) c h = absurd c
effect_stuck d (Convert local high low) c h = sense_stuck d local _ false h
effect_stuck d (Open local) c h = sense_stuck d local _ true h
effect_stuck d PowerOn c h = absurd c
effect_stuck d (ConvertSecond local high low) c h = sense_stuck d local _ false h
effect_stuck d (OpenSecond local) c h = sense_stuck d local _ true h

run_stuck : (d : Device) (es : List Event) → Conversions es → Stuck d → (after_of d es).sensed.llatch ≡ true
run_stuck d [] c h = h.latch
run_stuck d (e ∷ es) c h = run_stuck (step_of d e).device es c.1 (step_ind Stuck d e h (effect_stuck d e c.0 h))

effects_stuck : (d : Device) (es : List Event) → Conversions es → Stuck d → (after_all d es).sensed.llatch ≡ true
effects_stuck d [] c h = h.latch
effects_stuck d (e ∷ es) c h = effects_stuck (effect_of d e).device es c.1 (effect_stuck d e c.0 h)

pub both_sides : BothSides
both_sides =
    record {
      scenes = all_heard;
      lines = ten_lines;
      never = λ d latch crit less es c. run_stuck d es c (record { latch = latch; crit = crit; less = less });
      never_second = λ d latch crit less es c. effects_stuck d es c (record { latch = latch; crit = crit; less = less });
    }
