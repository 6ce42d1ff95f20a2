-- Request a. `untorn`: after a read of 01, whatever comes between but another read of 01 or 10 or power-on, a read of 10 gives the low byte of
-- the reading whose high byte was read; `untorn_second`: so it does at a second device, whose conversions are of kinds 08 and 09 (request c).
-- `unmoved`, and `unmoved_between` of a row: nothing else keeps a low byte or lets one go. `latest`: with nothing kept, 10 is the low byte of the latest
-- reading. `by_pointer`: a receive, the alert response apart, is a read of the register at the pointer. `acknowledged_reads`: what these call a read is
-- acknowledged.
-- Assumes nothing.
use mathlib.Core.Path.{◌≡◌, refl, sym, ap, ◌∙◌}
use mathlib.Core.Bool.{Bool, true, false, cond, ◌||◌, ◌&&◌}
use mathlib.Core.List.{List, [], ◌∷◌}
use Prim.Native.Nat.{ℕ}
use lib.Dec.{eqb, leb}
use borrow.Author.Tests.{eqb-true}
use Rattle.laws.proofs.Choices.{clash, and_left, and_right, or_left}
use Rattle.temperature.specs.Temperature.{high_byte_of, low_byte_of}
use Rattle.temperature.proofs.Bytes.{eighths_back}
use Rattle.registers.specs.Page.{r_set, among}
use Rattle.device.specs.declared.Device.{Device}
use Rattle.device.specs.declared.Event.{Event}
use Rattle.device.specs.declared.Event.TheVariants.{Write, Read, Send, Receive, Convert, Open, PowerOn, ConvertSecond, OpenSecond}
use Rattle.device.specs.Ranges.{variant_of, ranged_of, operands_of, second_of}
use Rattle.device.specs.Step.{Stepped, effect_of, stepped_of, step_of}
use Rattle.device.specs.Run.{after_of}
use Rattle.device.proofs.InRange.{named, kept}
use Rattle.device.proofs.Untouched.{same_variant}
use Rattle.device.proofs.Steps.{step_effect, step_ind, ranged_after, variant_after}
use Rattle.device_laws.specs.Moves.{own_of, answers_alert, acknowledged_of, kept_low, low_after_read, low_after, register_byte, byte_read}
use Rattle.device_laws.specs.Conversions.{after_all}
use Rattle.device_laws.specs.LowByte.{reads_of, moves_low, Between, BetweenSecond, OneReading}
use Rattle.device_laws.proofs.Moves.{low_moves, acknowledged_exactly}
use Rattle.device_laws.proofs.Registers.{byte_exactly}

-- ---- reads

-- what holds of a read byte of r at the own address, and of a receive there with the pointer at r, holds of every read of r
reads_ind : (P : Event → Type 0) (d : Device) (r : ℕ)
    → ((a s : ℕ) → (own_of d a && eqb s r) ≡ true → P (Read a s))
    → ((a : ℕ) → (own_of d a && eqb d.pointer r) ≡ true → P (Receive a))
    → (e : Event) → reads_of d e r ≡ true → P e
reads_ind P d r read receive (Write a w v) h = clash h
reads_ind P d r read receive (Read a s) h = read a s h
reads_ind P d r read receive (Send a s) h = clash h
reads_ind P d r read receive (Receive a) h = receive a h
reads_ind P d r read receive (Convert local high low) h = clash h
reads_ind P d r read receive (Open local) h = clash h
reads_ind P d r read receive PowerOn h = clash h
reads_ind P d r read receive (ConvertSecond local high low) h = clash h
reads_ind P d r read receive (OpenSecond local) h = clash h

reads_operands : (d : Device) (e : Event) (r : ℕ) → reads_of d e r ≡ true → operands_of e ≡ true
unfolding operands_of
reads_operands d e r =
    reads_ind (λ (x : Event). operands_of x ≡ true) d r
    (λ a s h. own_address a (and_left (own_of d a) (eqb s r) h))
    (λ a h. own_address a (and_left (own_of d a) (eqb d.pointer r) h)) e
  where
    split : (t : Bool) → leb (cond t 0x4C 0x4D) 0x7F ≡ true
    split true = refl
    split false = refl

    own_address : (a : ℕ) → own_of d a ≡ true → leb a 0x7F ≡ true
    own_address a h = ap (λ (x : ℕ). leb x 0x7F) (eqb-true a _ h) ∙ split (eqb d.variant 1)

reads_own : (d : Device) (e : Event) (r : ℕ) → reads_of d e r ≡ true → second_of e ≡ false
unfolding second_of
reads_own d e r = reads_ind (λ (x : Event). second_of x ≡ false) d r (λ a s h. refl) (λ a h. refl) e

module _ (d : Device) (r : ℕ) (readable : among r r_set ≡ true) where
  own_readable : (own : Bool) (s : ℕ) → (own && eqb s r) ≡ true → (own && among s r_set) ≡ true
  own_readable true s h = ap (λ (x : ℕ). among x r_set) (eqb-true s r h) ∙ readable
  own_readable false s h = clash h

  -- P10: such a read is acknowledged
  pub acknowledged_reads : (e : Event) → reads_of d e r ≡ true → (effect_of d e).acknowledged ≡ true
  acknowledged_reads e h =
      acknowledged_exactly d e
      ∙ reads_ind (λ (x : Event). acknowledged_of d x ≡ true) d r
      (λ a s i. own_readable (own_of d a) s i)
      (λ a i. or_left _ (eqb a 0x0C && answers_alert d) (own_readable (own_of d a) d.pointer i)) e h

  -- and its byte is the register's
  reads_byte : (e : Event) → reads_of d e r ≡ true → byte_read d e ≡ register_byte d r
  reads_byte =
      reads_ind (λ (x : Event). byte_read d x ≡ register_byte d r) d r
      (λ a s h. chosen (own_of d a) s _ h) (λ a h. chosen (own_of d a) d.pointer _ h)
    where
      known : (t : Bool) (x other : ℕ) → t ≡ true → cond t x other ≡ x
      known true x other h = refl
      known false x other h = clash h

      chosen : (own : Bool) (s other : ℕ) → (own && eqb s r) ≡ true → cond (own && among s r_set) (register_byte d s) other ≡ register_byte d r
      chosen own s other h =
          known (own && among s r_set) (register_byte d s) other (own_readable own s h)
          ∙ ap (register_byte d) (eqb-true s r (and_right own (eqb s r) h))

-- a receive, the alert response apart, is a read of the register at the pointer, with the same answers and the same device after it
pub by_pointer : (d : Device) (a : ℕ) → eqb a 0x0C ≡ false → step_of d (Receive a) ≡ step_of d (Read a d.pointer)
unfolding step_of operands_of second_of effect_of
by_pointer d a h = rw h

-- ---- what moves the kept low byte

-- a read of 01, whatever was kept
keeps : (d : Device) (e : Event) → reads_of d e 0x01 ≡ true → low_after d e ≡ (low_byte_of d.sensed.remote, true)
keeps d = reads_ind (λ (x : Event). low_after d x ≡ (low_byte_of d.sensed.remote, true)) d 0x01 (λ a s h. rw h) (λ a h. rw h)

leaves : (d : Device) (e : Event) → moves_low d e ≡ false → low_after d e ≡ kept_low d
leaves d e = at_event e
  where
    neither : (x y z : Bool) (k : ℕ × Bool) → (x || y || z) ≡ false → cond x k (cond y (0, false) (kept_low d)) ≡ kept_low d
    neither true y z k h = clash (sym h)
    neither false true z k h = clash (sym h)
    neither false false z k h = refl

    read : (own : Bool) (r : ℕ) → (own && eqb r 0x01 || own && eqb r 0x10 || false) ≡ false → low_after_read d own r ≡ kept_low d
    read own r h = neither (own && eqb r 0x01) (own && eqb r 0x10) false _ h

    at_event : (e : Event) → moves_low d e ≡ false → low_after d e ≡ kept_low d
    at_event (Write a w v) h = refl
    at_event (Read a r) h = read (own_of d a) r h
    at_event (Send a r) h = refl
    at_event (Receive a) h = read (own_of d a) d.pointer h
    at_event (Convert local high low) h = refl
    at_event (Open local) h = refl
    at_event PowerOn h = clash (sym h)
    at_event (ConvertSecond local high low) h = refl
    at_event (OpenSecond local) h = refl

-- nothing but reads of 01 and of 10 and power-on keeps a low byte or lets one go; no refused event does
pub unmoved : (d : Device) (e : Event) → moves_low d e ≡ false → kept_low (step_of d e).device ≡ kept_low d
unmoved d e h = step_ind (λ (n : Device). kept_low n ≡ kept_low d) d e refl (low_moves d e ∙ leaves d e h)

pub unmoved_between : (d : Device) (es : List Event) → Between d es → kept_low (after_of d es) ≡ kept_low d
unmoved_between d [] b = refl
unmoved_between d (e ∷ es) b = unmoved_between (step_of d e).device es b.1 ∙ unmoved d e b.0

unmoved_second : (d : Device) (es : List Event) → BetweenSecond d es → kept_low (after_all d es) ≡ kept_low d
unmoved_second d [] b = refl
unmoved_second d (e ∷ es) b = unmoved_second (effect_of d e).device es b.1 ∙ low_moves d e ∙ leaves d e b.0

-- ---- a pair

-- a variant, and in its ranges
abbrev Sound : Device → Type 0
Sound d = (variant_of d.variant ≡ true) × (ranged_of d ≡ true)

sound_step : (d : Device) (e : Event) → Sound d → Sound (step_of d e).device
sound_step d e s = (variant_after d e s.0, ranged_after d e s.1)

sound_after : (d : Device) (es : List Event) → Sound d → Sound (after_of d es)
sound_after d [] s = s
sound_after d (e ∷ es) s = sound_after (step_of d e).device es (sound_step d e s)

sound_second : (d : Device) (es : List Event) → Sound d → Sound (after_all d es)
sound_second d [] s = s
sound_second d (e ∷ es) s = sound_second (effect_of d e).device es (ap variant_of (same_variant d e) ∙ s.0, kept d e s.1)

module _ (d : Device) (s : Sound d) (e : Event) where
  read_step : (r : ℕ) → reads_of d e r ≡ true → step_of d e ≡ stepped_of (effect_of d e)
  read_step r h = step_effect d e s.0 s.1 (reads_own d e r h) (reads_operands d e r h)

  read_second : (r : ℕ) → among r r_set ≡ true → reads_of d e r ≡ true → (step_of d e).second ≡ register_byte d r
  read_second r m h = ap (λ (t : Stepped). t.second) (read_step r h) ∙ byte_exactly d e s.0 ∙ reads_byte d r m e h

  read_code : (r : ℕ) → reads_of d e r ≡ true → (step_of d e).code ≡ 0
  read_code r h = ap (λ (t : Stepped). t.code) (read_step r h)

  read_keeps : reads_of d e 0x01 ≡ true → kept_low (step_of d e).device ≡ (low_byte_of d.sensed.remote, true)
  read_keeps h = ap (λ (t : Stepped). kept_low t.device) (read_step 0x01 h) ∙ low_moves d e ∙ keeps d e h

-- a read of 10 with nothing kept: the low byte of the latest reading
pub latest : (d : Device) (e : Event) → variant_of d.variant ≡ true → ranged_of d ≡ true
    → reads_of d e 0x10 ≡ true → d.lowkept ≡ false → (step_of d e).second ≡ low_byte_of d.sensed.remote
latest d e variant ranged h none = read_second d (variant, ranged) e 0x10 refl h ∙ rw none

-- a read of 01, and one of 10 of a device that keeps the same low byte still
one_reading : (d : Device) (first : Event) (n : Device) (last : Event) → Sound d → Sound n
    → reads_of d first 0x01 ≡ true → kept_low n ≡ kept_low (step_of d first).device → reads_of n last 0x10 ≡ true
    → OneReading d.sensed.remote (step_of d first) (step_of n last)
one_reading d first n last s t begins same ends =
    let reading = d.sensed.remote in
    let low_kept : kept_low n ≡ (low_byte_of reading, true) = same ∙ read_keeps d s first begins in
    let high_read : (step_of d first).second ≡ high_byte_of reading = read_second d s first 0x01 refl begins in
    let low_read : (step_of n last).second ≡ low_byte_of reading =
    read_second n t last 0x10 refl ends ∙ ap (λ (k : ℕ × Bool). cond k.1 k.0 (low_byte_of n.sensed.remote)) low_kept in
    record {
      first_code = read_code d s first 0x01 begins;
      last_code = read_code n t last 0x10 ends;
      high = high_read;
      low = low_read;
      eighths = rw (high_read, low_read) (eighths_back reading (named d s.1).under (named d s.1).over);
    }

-- the device may hold a kept byte already: a second read of 01 keeps anew
pub untorn : (d : Device) (first : Event) (between : List Event) (last : Event) → variant_of d.variant ≡ true → ranged_of d ≡ true
    → reads_of d first 0x01 ≡ true → Between (step_of d first).device between → reads_of (after_of d (first ∷ between)) last 0x10 ≡ true
    → OneReading d.sensed.remote (step_of d first) (step_of (after_of d (first ∷ between)) last)
untorn d first between last variant ranged begins b ends =
    let s : Sound d = (variant, ranged) in
    let n = after_of d (first ∷ between) in
    one_reading d first n last s (sound_after d (first ∷ between) s) begins (unmoved_between (step_of d first).device between b) ends

pub untorn_second : (d : Device) (first : Event) (between : List Event) (last : Event) → variant_of d.variant ≡ true → ranged_of d ≡ true
    → reads_of d first 0x01 ≡ true → BetweenSecond (step_of d first).device between → reads_of (after_all (step_of d first).device between) last 0x10 ≡ true
    → OneReading d.sensed.remote (step_of d first) (step_of (after_all (step_of d first).device between) last)
untorn_second d first between last variant ranged begins b ends =
    let s : Sound d = (variant, ranged) in
    let m = (step_of d first).device in
    one_reading d first (after_all m between) last s (sound_second m between (sound_step d first s)) begins (unmoved_second m between b) ends
