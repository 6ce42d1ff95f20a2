-- `full_run`: if every record of the stretch is a valid 05 or 06, the answer is that of the full run of the one-device definition from the state given.
-- `last_answer`: it is D1 of the last answer of that run. `empty_stretch`: an empty stretch answers from that state.
-- Assumes nothing.
use Prim.Native.Nat.{ℕ, suc, ◌%◌, ◌<◌}
use mathlib.Core.Path.{◌≡◌, refl, sym, ap, ◌∙◌}
use mathlib.Core.Bool.{true}
use mathlib.Core.List.{List, [], ◌∷◌, ◌++◌, reverse_aux, reverse-reverse}
use native.Mathlib.Omega.{arith}
use lib.ListN.{length}
use borrow.Author.Tests.{eq-eqb}
use Rattle.registers.specs.Bits.{has}
use Rattle.device.specs.declared.Device.{Device}
use Rattle.device.specs.declared.Event.{Event}
use Rattle.device.specs.Pins.{tcrit_of}
use Rattle.device.specs.Step.{step_of}
use Rattle.device.specs.Run.{replies_of, after_of}
use Rattle.device_laws.proofs.Alerts.{first_byte}
use Rattle.record.specs.Record.{Record}
use Rattle.record.specs.Fours.{Quad, quads, event_then, events_in}
use Rattle.soak.specs.declared.Soaked.{Soaked}
use Rattle.soak.specs.Soak.{Running, met_of, latest_first, both_decided, back_of, soak_of}
use Rattle.soak.proofs.Runs.{AllConvert, converts, met_read, step_running, running_after, settings_after}
use Rattle.soak.proofs.Loop.{valid, refusal_code}
use Rattle.soak_laws.specs.Stretch.{Whole, AllConversions, events_of, last_first}
use Rattle.soak_laws.proofs.Decided.{of_both, pin_any}
use Rattle.soak_laws.proofs.Ways.{back_ind, onto, onto_met_lem, onto_events, onto_convert, after_joined, front}

-- ---- where nothing is refused before a record is read

pub reads_back : (d : Device) (records : List ℕ) → Running d → Whole records → soak_of d records ≡ back_of d [] (latest_first records)
unfolding soak_of
reads_back d records r w = rw (r.variant, r.ranged, r.awake, eq-eqb (length records % 4) 0 w)

-- ---- the records from the end, and in order

all_reversed : (qs before : List Quad) → AllConversions qs → AllConversions before → AllConversions (reverse_aux qs before)
all_reversed [] before all more = more
all_reversed (q ∷ qs) before all more = all_reversed qs (q ∷ before) all.1 (all.0, more)

pub all_latest : (records : List ℕ) → AllConversions (quads records) → AllConversions (latest_first records)
all_latest records all = all_reversed (quads records) [] all tt

pub whole_events : (records : List ℕ) → AllConversions (quads records) → onto (latest_first records) [] ≡ events_of records
whole_events records all = onto_events (latest_first records) (all_latest records all) [] ∙ ap (events_in 1) (reverse-reverse (quads records))

events_all : (qs : List Quad) → AllConversions qs → length (events_in 1 qs) ≡ length qs
events_all [] all = refl
events_all (q ∷ qs) all =
    let v = valid (met_of q) all.0 in
    ap (λ (r : Record). length (event_then r (events_in 1 qs))) (met_read q v.event v.is).1 ∙ ap suc (events_all qs all.1)

-- ---- the full run

module _ (d : Device) (running : Running d) where
  -- both are decided: conversions before those read do not matter
  pin_same : (read : List Event) → AllConvert read → both_decided d read ≡ true → (es : List Event) → AllConvert es
      → tcrit_of (after_of d read) ≡ tcrit_of (after_of d (es ++ read))
  pin_same read c y es k =
      pin_any d running read c (of_both d running read c y) (after_of d es) (running_after es k d running) (settings_after es k d running)
      ∙ ap tcrit_of (sym (after_joined es read d))

  -- what a reading answers, if all that is before the records read is valid
  abbrev Full : List Event → List Quad → Soaked → Type 0
  Full read qs r = AllConvert read → AllConversions qs → (r.code ≡ 0) × (r.pulled ≡ tcrit_of (after_of d (onto qs read)))

  full : (qs : List Quad) (read : List Event) → Full read qs (back_of d read qs)
  full =
      back_ind d Full
      (λ read c all. (refl, refl))
      (λ read q qs y c all.
      let f = front (q ∷ qs) all in
      (refl, pin_same read c y f.events f.convert ∙ ap (λ (es : List Event). tcrit_of (after_of d es)) (sym (f.is read))))
      (λ read q qs why y m c all. absurd (refusal_code why (rw m at all.0)))
      (λ read q qs e r y m go c all.
      let g = go (converts q e m, c) all.1 in
      (g.0, g.1 ∙ ap (λ (es : List Event). tcrit_of (after_of d es)) (sym (onto_met_lem q qs read e m))))

  pub full_run : (records : List ℕ) → Whole records → AllConversions (quads records)
      → ((soak_of d records).code ≡ 0) × ((soak_of d records).pulled ≡ tcrit_of (after_of d (events_of records)))
  full_run records w all =
      let f = full (latest_first records) [] tt (all_latest records all) in
      let same = whole_events records all in
      let read = reads_back d records running w in (
        ap (λ (r : Soaked). r.code) read ∙ f.0,
        ap (λ (r : Soaked). r.pulled) read ∙ f.1 ∙ ap (λ (es : List Event). tcrit_of (after_of d es)) same,
      )

  pub empty_stretch : soak_of d [] ≡ record { code = 0; pulled = tcrit_of d; read = 0 }
  unfolding back_of
  empty_stretch = reads_back d [] running refl

  -- ---- the last answer

  -- D1 of it is T_CRIT_A after the last of some conversions
  last_bit : (e : Event) (es : List Event) (x : Device) → Running x → AllConvert (e ∷ es)
      → has (last_first (replies_of x (e ∷ es))) 0x02 ≡ tcrit_of (after_of x (e ∷ es))
  last_bit e [] x r c = (first_byte x e (record { variant = r.variant; ranges = r.ranged }) c.0.own c.0.operands).d1
  last_bit e (f ∷ es) x r c = last_bit f es (step_of x e).device (step_running e c.0 x r) c.1

  -- so the answer is D1 of what stepping every record answers to the last
  pub last_answer : (records : List ℕ) → Whole records → AllConversions (quads records) → 0 < length (quads records)
      → (soak_of d records).pulled ≡ has (last_first (replies_of d (events_of records))) 0x02
  last_answer records w all h =
      let c : AllConvert (events_of records) = rw (← (whole_events records all)) (onto_convert (latest_first records) (all_latest records all) [] tt) in
      (full_run records w all).1 ∙ sym (by_events (events_of records) c (omega (arith, h, events_all (quads records) all)))
    where
      by_events : (es : List Event) → AllConvert es → 0 < length es → has (last_first (replies_of d es)) 0x02 ≡ tcrit_of (after_of d es)
      by_events [] c k = absurd (omega (arith, k))
      by_events (e ∷ es) c k = last_bit e es d running c
