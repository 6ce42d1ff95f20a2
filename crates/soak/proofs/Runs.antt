-- Conversions in run mode. `converts`: a valid 05 or 06 is a conversion that every device in run mode takes. `running_after`, `settings_after`: they leave
-- it in run mode, under the same settings. `alone`: what they make of a channel's latch depends on the settings, on that latch and, on the remote channel,
-- on the fault count before them, and on nothing else.
-- Assumes nothing.
use Prim.Native.Nat.{ℕ, ◌≤◌}
use mathlib.Core.Path.{◌≡◌, refl, sym, ap, ◌∙◌}
use mathlib.Core.Bool.{Bool, true, false, ◌||◌, ◌&&◌}
use mathlib.Core.List.{List, [], ◌∷◌}
use native.Mathlib.Omega.{arith}
use lib.IntN.{ℤ}
use lib.Dec.{eqb}
use lib.ListN.{get_or}
use borrow.Author.Tests.{le-leb, leb-true}
use Rattle.laws.proofs.Choices.{clash, cond_ind, by_test, and_left, and_right}
use Rattle.temperature.specs.declared.Reading.{Reading}
use Rattle.temperature.specs.Temperature.{open_reading}
use Rattle.conversion.specs.declared.Sensed.{Sensed}
use Rattle.conversion.specs.Conversion.{reading_of, any_of, count_of, remote_out_of, sensed_of}
use Rattle.conversion.specs.Channels.{Channel, local_channel, remote_channel, latch_at}
use Rattle.device.specs.declared.Device.{Device}
use Rattle.device.specs.declared.Event.{Event}
use Rattle.device.specs.declared.Event.TheVariants.{Write, Read, Send, Receive, Convert, Open, PowerOn, ConvertSecond, OpenSecond}
use Rattle.device.specs.Bus.{standby_of, takes_of, converted_of, sense_of}
use Rattle.device.specs.Ranges.{variant_of, ranged_of, operands_of, second_of}
use Rattle.device.specs.Step.{Stepped, effect_of, step_of}
use Rattle.device.specs.Run.{after_of}
use Rattle.device.proofs.InRange.{named, of_named}
use Rattle.device.proofs.Steps.{step_effect, ranged_after, variant_after}
use Rattle.record.specs.Record.{Record}
use Rattle.std.specs.Prelude.{Ok}
use Rattle.record.specs.Record.{encode_of}
use Rattle.record.specs.Fours.{Quad, quad_of}
use Rattle.record.proofs.RoundTrip.{only_those}
use Rattle.soak.specs.Soak.{Running, met_of, supposing, latch_after}
use Rattle.soak.specs.Ends.{remote_of}

-- ---- a device in run mode

pub running : (d : Device) → (variant_of d.variant && ranged_of d) ≡ true → standby_of d.settings ≡ false → Running d
running d h awake =
    record { variant = and_left (variant_of d.variant) (ranged_of d) h; ranged = and_right (variant_of d.variant) (ranged_of d) h; awake = awake }

pub few_faults : (d : Device) → Running d → d.sensed.faults ≤ 3
few_faults d r = leb-true d.sensed.faults 3 (named d r.ranged).faults

-- whatever is supposed of it
pub running_supposing : (d : Device) → Running d → (n : ℕ) → n ≤ 3 → (l m : Bool) → Running (supposing d n l m)
running_supposing d r n h l m =
    let k = named d r.ranged in
    record {
      variant = r.variant;
      ranged = of_named (supposing d n l m)
          (record {
            faults = le-leb n 3 h;
            under = k.under;
            over = k.over;
            pointer = k.pointer;
            status = k.status;
            live = k.live;
            masks = k.masks;
            pending = k.pending;
            low = k.low;
            lowkept = k.lowkept;
          });
      awake = r.awake;
    }

takes : (d : Device) → Running d → takes_of d ≡ true
unfolding takes_of
takes d r = rw r.awake

-- ---- a conversion that it takes

pub record Converts (e : Event) : Type 0 where
  pub local : ℕ
  pub remote : List ℕ → ℤ
  pub diode_open : Bool
  pub own : second_of e ≡ false
  pub operands : operands_of e ≡ true
  pub does : (d : Device) → Running d → (step_of d e).device ≡ converted_of d local (remote d.settings) diode_open

abbrev pub AllConvert : List Event → Type 0
AllConvert [] = Unit {0}
AllConvert (e ∷ es) = Converts e × AllConvert es

senses : (d : Device) → Running d → (local : ℕ) (remote : Reading) (diode_open : Bool)
    → (sense_of d local remote diode_open).device ≡ converted_of d local remote.eighths diode_open
unfolding sense_of
senses d r local remote diode_open = rw (takes d r)

-- of a step that is not refused
steps : (d : Device) (e : Event) → Running d → second_of e ≡ false → operands_of e ≡ true → (step_of d e).device ≡ (effect_of d e).device
steps d e r own h = ap (λ (s : Stepped). s.device) (step_effect d e r.variant r.ranged own h)

-- a record's four bytes, of kind 05 or 06, and the event that they read as
pub does_by : (e : Event) (kind a b c : ℕ) → kind ∷ a ∷ b ∷ c ∷ [] ≡ encode_of e → (eqb kind 0x05 || eqb kind 0x06) ≡ true → operands_of e ≡ true
    → (d : Device) → Running d → (step_of d e).device ≡ converted_of d a (remote_of d.settings kind b c) (eqb kind 0x06)
unfolding encode_of effect_of second_of remote_of
does_by (Write x y z) kind a b c p k h d r = clash (rw (ap (λ (l : List ℕ). get_or l 0 0) p) at k)
does_by (Read x y) kind a b c p k h d r = clash (rw (ap (λ (l : List ℕ). get_or l 0 0) p) at k)
does_by (Send x y) kind a b c p k h d r = clash (rw (ap (λ (l : List ℕ). get_or l 0 0) p) at k)
does_by (Receive x) kind a b c p k h d r = clash (rw (ap (λ (l : List ℕ). get_or l 0 0) p) at k)
does_by (Convert x y z) kind a b c p k h d r =
    rw (ap (λ (l : List ℕ). get_or l 0 0) p, ap (λ (l : List ℕ). get_or l 1 0) p, ap (λ (l : List ℕ). get_or l 2 0) p, ap (λ (l : List ℕ). get_or l 3 0) p)
    (steps d (Convert x y z) r refl h ∙ senses d r x (reading_of d.settings y z) false)
does_by (Open x) kind a b c p k h d r =
    rw (ap (λ (l : List ℕ). get_or l 0 0) p, ap (λ (l : List ℕ). get_or l 1 0) p) (steps d (Open x) r refl h ∙ senses d r x open_reading true)
does_by PowerOn kind a b c p k h d r = clash (rw (ap (λ (l : List ℕ). get_or l 0 0) p) at k)
does_by (ConvertSecond x y z) kind a b c p k h d r = clash (rw (ap (λ (l : List ℕ). get_or l 0 0) p) at k)
does_by (OpenSecond x) kind a b c p k h d r = clash (rw (ap (λ (l : List ℕ). get_or l 0 0) p) at k)

-- what is met as an event is of kind 05 or 06, and read under a device count of 1
pub met_read : (q : Quad) (e : Event) → met_of q ≡ Ok e → ((eqb q.kind 0x05 || eqb q.kind 0x06) ≡ true) × (quad_of 1 q ≡ Ok e)
unfolding met_of
met_read q e =
    cond_ind (λ (r : Record). r ≡ Ok e → ((eqb q.kind 0x05 || eqb q.kind 0x06) ≡ true) × (quad_of 1 q ≡ Ok e))
    (eqb q.kind 0x05 || eqb q.kind 0x06) (λ k p. (k, p)) (λ k p. let z : ◌≡◌ {A = ℕ} 0 1 = cc in absurd (omega arith))

unfoldable pub converts : (q : Quad) (e : Event) → met_of q ≡ Ok e → Converts e
converts q e p =
    let read = met_read q e p in
    let told = only_those 1 q.kind q.a q.b q.c e read.1 in
    record {
      local = q.a;
      remote = λ (s : List ℕ). remote_of s q.kind q.b q.c;
      diode_open = eqb q.kind 0x06;
      own = by_test (second_of e) (λ s. absurd (omega (arith, told.count s))) (λ s. s);
      operands = told.operands;
      does = does_by e q.kind q.a q.b q.c told.bytes read.0 told.operands;
    }

-- ---- after it, and after many

module _ (e : Event) (c : Converts e) (d : Device) (r : Running d) where
  pub step_sensed : (step_of d e).device.sensed ≡ sensed_of d.settings d.sensed c.local (c.remote d.settings) c.diode_open
  unfolding converted_of
  step_sensed = ap (λ (x : Device). x.sensed) (c.does d r)

  pub step_settings : (step_of d e).device.settings ≡ d.settings
  unfolding converted_of
  step_settings = ap (λ (x : Device). x.settings) (c.does d r)

  pub step_running : Running (step_of d e).device
  step_running =
      record {
        variant = variant_after d e r.variant;
        ranged = ranged_after d e r.ranged;
        awake = ap standby_of step_settings ∙ r.awake;
      }

pub running_after : (es : List Event) → AllConvert es → (d : Device) → Running d → Running (after_of d es)
running_after [] cs d r = r
running_after (e ∷ es) cs d r = running_after es cs.1 (step_of d e).device (step_running e cs.0 d r)

pub settings_after : (es : List Event) → AllConvert es → (d : Device) → Running d → (after_of d es).settings ≡ d.settings
settings_after [] cs d r = refl
settings_after (e ∷ es) cs d r = settings_after es cs.1 (step_of d e).device (step_running e cs.0 d r) ∙ step_settings e cs.0 d r

-- ---- what a latch depends on

-- fault counts from which conversions go on alike: on the local channel all; on the remote one those that the next conversion makes the same of
abbrev pub SameCounts : Channel → ℕ → ℕ → Type 0
SameCounts local_channel n m = Unit {0}
SameCounts remote_channel n m = (out : Bool) → count_of n out ≡ count_of m out

pub two_is_three : SameCounts remote_channel 2 3
unfolding count_of
two_is_three true = refl
two_is_three false = refl

pub same_count : (ch : Channel) {n m : ℕ} → n ≡ m → SameCounts ch n m
same_count local_channel e = tt
same_count remote_channel e = λ (out : Bool). ap (λ (k : ℕ). count_of k out) e

module _ (s : List ℕ) (x y : Sensed) (local : ℕ) (t : ℤ) (diode_open : Bool) where
  latch_step : (ch : Channel) → SameCounts ch x.faults y.faults → latch_at ch x ≡ latch_at ch y
      → latch_at ch (sensed_of s x local t diode_open) ≡ latch_at ch (sensed_of s y local t diode_open)
  unfolding sensed_of
  latch_step local_channel n l = rw l
  latch_step remote_channel n l = rw (n (any_of (remote_out_of s t)), l)

  counts_step : (ch : Channel) → SameCounts ch x.faults y.faults
      → SameCounts ch (sensed_of s x local t diode_open).faults (sensed_of s y local t diode_open).faults
  unfolding sensed_of
  counts_step local_channel n = tt
  counts_step remote_channel n = λ (out : Bool). ap (λ (k : ℕ). count_of k out) (n (any_of (remote_out_of s t)))

-- two devices in run mode under the same settings, with the same latch of the channel and such fault counts
pub record Matched (ch : Channel) (a b : Device) : Type 0 where
  pub first : Running a
  pub second : Running b
  pub settings : a.settings ≡ b.settings
  pub counts : SameCounts ch a.sensed.faults b.sensed.faults
  pub latch : latch_at ch a.sensed ≡ latch_at ch b.sensed

step_matched : (ch : Channel) (e : Event) → Converts e → (a b : Device) → Matched ch a b → Matched ch (step_of a e).device (step_of b e).device
step_matched ch e c a b m =
    let s : List ℕ = a.settings in
    let p = step_sensed e c a m.first in
    let q : (step_of b e).device.sensed ≡ sensed_of s b.sensed c.local (c.remote s) c.diode_open = rw m.settings (step_sensed e c b m.second) in
    record {
      first = step_running e c a m.first;
      second = step_running e c b m.second;
      settings = step_settings e c a m.first ∙ m.settings ∙ sym (step_settings e c b m.second);
      counts = rw (p, q) (counts_step s a.sensed b.sensed c.local (c.remote s) c.diode_open ch m.counts);
      latch = rw (p, q) (latch_step s a.sensed b.sensed c.local (c.remote s) c.diode_open ch m.counts m.latch);
    }

pub alone : (ch : Channel) (es : List Event) → AllConvert es → (a b : Device) → Matched ch a b → latch_after ch a es ≡ latch_after ch b es
alone ch [] cs a b m = m.latch
alone ch (e ∷ es) cs a b m = alone ch es cs.1 (step_of a e).device (step_of b e).device (step_matched ch e cs.0 a b m)
