-- `converted`: what a taken conversion does, one of a second device too. `live_depends`: what the live byte depends on.
-- `count_in_a_row`: the fault count over faults in a row (P4). Request c: `second_alike` and `second_open_alike`, kinds 08 and 09 are 05 and 06.
-- Assumes nothing.
use mathlib.Core.Path.{◌≡◌, refl, ◌∙◌}
use mathlib.Core.Bool.{Bool, true}
use mathlib.Core.List.{List, [], ◌∷◌}
use Prim.Native.Nat.{ℕ, ◌+◌, min, ◌≤◌}
use native.Mathlib.Omega.{arith}
use lib.ListN.{length}
use Rattle.laws.proofs.Choices.{by_test, clash}
use Rattle.temperature.specs.declared.Reading.{Reading}
use Rattle.temperature.specs.Temperature.{sum_of, open_reading}
use Rattle.temperature.proofs.Held.{held_eighths}
use Rattle.conversion.specs.Conversion.{reading_of, sensed_of}
use Rattle.device_laws.specs.AfterConversion.{SameLimits}
use Rattle.device_laws.proofs.AfterConversion.{after_conversion, same_live}
use Rattle.device_laws.proofs.Bits.{has_or}
use Rattle.device.specs.declared.Device.{Device}
use Rattle.device.specs.declared.Event.{Event}
use Rattle.device.specs.declared.Event.TheVariants.{Write, Read, Send, Receive, Convert, Open, PowerOn, ConvertSecond, OpenSecond}
use Rattle.device.specs.Bus.{takes_of, converted_of, taking_of, sense_of}
use Rattle.device.specs.Profile.{IsConversion}
use Rattle.device.specs.Step.{effect_of}
use Rattle.device_laws.specs.Moves.{sum_at, held_by}
use Rattle.device_laws.specs.Conversions.{local_in, open_in, reading_in, Converted, after_all, Fault, Faults}
use Rattle.device_laws.proofs.Moves.{held_exactly}

-- ---- request c: of the device at hand

pub second_alike : (d : Device) (local high low : ℕ) → effect_of d (ConvertSecond local high low) ≡ effect_of d (Convert local high low)
unfolding effect_of
second_alike d local high low = refl

pub second_open_alike : (d : Device) (local : ℕ) → effect_of d (OpenSecond local) ≡ effect_of d (Open local)
unfolding effect_of
second_open_alike d local = refl

-- ---- a taken conversion

-- the reading of a conversion, and whether it was held; of any other event it is not asked
abbrev remote_in : Device → Event → Reading
remote_in d (Write a w v) = open_reading
remote_in d (Read a r) = open_reading
remote_in d (Send a r) = open_reading
remote_in d (Receive a) = open_reading
remote_in d (Convert local high low) = reading_of d.settings high low
remote_in d (Open local) = open_reading
remote_in d PowerOn = open_reading
remote_in d (ConvertSecond local high low) = reading_of d.settings high low
remote_in d (OpenSecond local) = open_reading

reading_in_lem : (d : Device) (e : Event) → IsConversion e → (remote_in d e).eighths ≡ reading_in d e
unfolding reading_of sum_of
reading_in_lem d (Write a w v) c = absurd c
reading_in_lem d (Read a r) c = absurd c
reading_in_lem d (Send a r) c = absurd c
reading_in_lem d (Receive a) c = absurd c
reading_in_lem d (Convert local high low) c = held_eighths (sum_at d high low)
reading_in_lem d (Open local) c = refl
reading_in_lem d PowerOn c = absurd c
reading_in_lem d (ConvertSecond local high low) c = held_eighths (sum_at d high low)
reading_in_lem d (OpenSecond local) c = refl

-- any conversion, by its operands
sensed_in : (d : Device) (e : Event) → IsConversion e → effect_of d e ≡ sense_of d (local_in e) (remote_in d e) (open_in e)
unfolding effect_of
sensed_in d (Write a w v) c = absurd c
sensed_in d (Read a r) c = absurd c
sensed_in d (Send a r) c = absurd c
sensed_in d (Receive a) c = absurd c
sensed_in d (Convert local high low) c = refl
sensed_in d (Open local) c = refl
sensed_in d PowerOn c = absurd c
sensed_in d (ConvertSecond local high low) c = refl
sensed_in d (OpenSecond local) c = refl

sense_takes : (d : Device) (local : ℕ) (remote : Reading) (diode_open : Bool) → (sense_of d local remote diode_open).taken ≡ true
    → sense_of d local remote diode_open ≡ taking_of d local remote diode_open
unfolding sense_of
sense_takes d local remote diode_open h = by_test (takes_of d) (λ t. rw t) (λ t. clash (rw t at h))

taken_effect : (d : Device) (e : Event) → IsConversion e → (effect_of d e).taken ≡ true → effect_of d e ≡ taking_of d (local_in e) (remote_in d e) (open_in e)
taken_effect d e c h =
    sensed_in d e c ∙ sense_takes d (local_in e) (remote_in d e) (open_in e) (rw (sensed_in d e c) at h)

pub converted : (d : Device) (e : Event) → IsConversion e → (effect_of d e).taken ≡ true → Converted d e (effect_of d e)
unfolding converted_of sensed_of
converted d e c h =
    let remote = (remote_in d e).eighths in
    let n = sensed_of d.settings d.sensed (local_in e) remote (open_in e) in
    let told : (remote_in d e).held ≡ held_by d e = rw (taken_effect d e c h) at (held_exactly d e) in
    rw (taken_effect d e c h)
    (record {
      local = refl;
      remote = reading_in_lem d e c;
      sensed = after_conversion d.settings d.sensed (local_in e) remote (open_in e);
      gathers = has_or d.status n.live;
      pending = refl;
      variant = refl;
      pointer = refl;
      low = refl;
      lowkept = refl;
      settings = refl;
      acknowledged = refl;
      held = told;
      byte = refl;
    })

-- ---- what the live byte depends on

-- limits, D0 of 03, fault count, readings and whether the diode is open: no status, pointer, latch, mask, standby or older live bit
pub live_depends : (d other : Device) (e : Event) → IsConversion e → (effect_of d e).taken ≡ true → (effect_of other e).taken ≡ true
    → SameLimits d.settings other.settings → reading_in d e ≡ reading_in other e → d.sensed.faults ≡ other.sensed.faults
    → (effect_of d e).device.sensed.live ≡ (effect_of other e).device.sensed.live
unfolding converted_of
live_depends d other e c h k limits reading count =
    rw (taken_effect d e c h, taken_effect other e c k, reading_in_lem d e c, reading_in_lem other e c, reading)
    (same_live d.settings other.settings d.sensed other.sensed (local_in e) (reading_in other e) (open_in e) limits count)

-- ---- the fault count

counted : (d : Device) (e : Event) → Fault d e → (effect_of d e).device.sensed.faults ≡ min 3 (d.sensed.faults + 1)
counted d e h = (converted d e h.conversion h.taken).sensed.count ∙ rw h.outside

-- n faults in a row count min 3 (count + n), so the seventh still counts 3
pub count_in_a_row : (d : Device) (es : List Event) → Faults d es → d.sensed.faults ≤ 3
    → (after_all d es).sensed.faults ≡ min 3 (d.sensed.faults + length es)
count_in_a_row d [] h within = omega arith
count_in_a_row d (e ∷ es) h within =
    let one = counted d e h.0 in
    let rest = count_in_a_row (effect_of d e).device es h.1 (omega arith) in
    rest ∙ omega arith
