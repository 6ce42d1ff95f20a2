-- How far a soak is read, and what that tells. `decided_exactly`, `program_exactly`: the test of the definition and that of the program are exact.
-- `no_further`: with fewer records read, some channel is not decided. `far_enough`: where some are left unread, those read decide both. `valid_read`:
-- those read are valid 05s and 06s. `answered`: the answer is T_CRIT_A after them; `from_any`: where some are left unread, from whatever state.
-- `at_most_all`, `none_read`, `refusal_silent`: no more are read than there are, none on 8, 10 and the length's 4, and no refusal tells a pin.
-- Assumes nothing.
use Prim.Native.Nat.{ℕ, zero, suc, ◌+◌, ◌%◌, ◌≤◌, ◌<◌}
use mathlib.Core.Path.{◌≡◌, refl, sym, ap, ◌∙◌}
use mathlib.Core.Logic.{◌↔◌}
use mathlib.Core.Bool.{true, false, ◌&&◌}
use mathlib.Core.List.{List, [], ◌∷◌}
use native.Mathlib.Omega.{arith}
use lib.Dec.{eqb}
use lib.ListN.{length, take, length-reverse}
use borrow.Author.Tests.{eqb-true, eqb-false}
use Rattle.laws.proofs.Choices.{cond_ind, by_test}
use Rattle.conversion.specs.Channels.{Channel}
use Rattle.device.specs.declared.Device.{Device}
use Rattle.device.specs.declared.Event.{Event}
use Rattle.device.specs.Pins.{tcrit_of}
use Rattle.device.specs.Bus.{standby_of}
use Rattle.device.specs.Ranges.{variant_of, ranged_of}
use Rattle.device.specs.Run.{after_of}
use Rattle.std.specs.Prelude.{Ok}
use Rattle.record.specs.Fours.{Quad, quads}
use Rattle.soak.specs.declared.Soaked.{Soaked}
use Rattle.soak.specs.Soak.{Running, met_of, latest_first, Decided, decided_of, both_decided, refuses_of, answers_of, back_of, soak_of}
use Rattle.soak.specs.Ends.{decided_by}
use Rattle.soak.proofs.Runs.{running, AllConvert}
use Rattle.soak.proofs.Loop.{refusal_code}
use Rattle.soak.proofs.Tables.{ends_by, decided_is}
use Rattle.soak_laws.specs.Stretch.{Whole, AllConversions, latest_records, latest, BothDecided, Enough, TooFew, Readable}
use Rattle.soak_laws.proofs.Decided.{exactly, of_both, both, one_open, pin_any}
use Rattle.soak_laws.proofs.Ways.{valid_code, back_ind, onto, onto_met_lem, onto_events, onto_convert}
use Rattle.soak_laws.proofs.FullRun.{reads_back}

-- ---- the reading

-- as many as were read, and no more than there are
abbrev Counts : List Event → List Quad → Soaked → Type 0
Counts read qs r = (length read ≤ r.read) × (r.read ≤ length read + length qs)

pub counts : (d : Device) (qs : List Quad) (read : List Event) → Counts read qs (back_of d read qs)
counts d =
    back_ind d Counts
    (λ read. (omega arith, omega arith))
    (λ read q qs y. (omega arith, omega arith))
    (λ read q qs why y m. (omega arith, omega arith))
    (λ read q qs e r y m go. (omega (arith, go.0), omega (arith, go.1)))

module _ (d : Device) where
  abbrev Further : List Event → List Quad → Soaked → Type 0
  Further read qs r = (j : ℕ) → length read + j < r.read → AllConversions (take j qs) × (both_decided d (onto (take j qs) read) ≡ false)

  -- with fewer read
  pub fewer : (qs : List Quad) (read : List Event) → Further read qs (back_of d read qs)
  fewer =
      back_ind d Further
      (λ read j h. absurd (omega (arith, h)))
      (λ read q qs y j h. absurd (omega (arith, h)))
      (λ read q qs why y m. refused read q qs y)
      (λ read q qs e r y m go. further read q qs e r y m go)
    where
      refused : (read : List Event) (q : Quad) (qs : List Quad) → both_decided d read ≡ false → (j : ℕ) → length read + j < length read + 1
          → AllConversions (take j (q ∷ qs)) × (both_decided d (onto (take j (q ∷ qs)) read) ≡ false)
      refused read q qs y zero h = (tt, y)
      refused read q qs y (suc j) h = absurd (omega (arith, h))

      further : (read : List Event) (q : Quad) (qs : List Quad) (e : Event) (r : Soaked) → both_decided d read ≡ false → met_of q ≡ Ok e
          → Further (e ∷ read) qs r → Further read (q ∷ qs) r
      further read q qs e r y m go zero h = (tt, y)
      further read q qs e r y m go (suc j) h =
          let g = go j (omega (arith, h)) in
          ((rw m (valid_code e), g.0), rw (onto_met_lem q (take j qs) read e m) g.1)

  -- what a code of 0 tells: the records read are valid, decide both channels if more are there, and leave T_CRIT_A as told
  record Told (read : List Event) (qs : List Quad) (r : Soaked) (n : ℕ) : Type 0 where
    conversions : AllConversions (take n qs)
    decided : n < length qs → both_decided d (onto (take n qs) read) ≡ true
    pulled : r.pulled ≡ tcrit_of (after_of d (onto (take n qs) read))

  abbrev Answered : List Event → List Quad → Soaked → Type 0
  Answered read qs r = (length read ≤ r.read) × (r.code ≡ 0 → (n : ℕ) → r.read ≡ length read + n → Told read qs r n)

  enough : (qs : List Quad) (read : List Event) → Answered read qs (back_of d read qs)
  enough =
      back_ind d Answered
      (λ read. (omega arith, λ z n h. start read n (omega (arith, h))))
      (λ read q qs y. (omega arith, λ z n h. decided read q qs y n (omega (arith, h))))
      (λ read q qs why y m. (omega arith, λ z. absurd (refusal_code why z)))
      (λ read q qs e r y m go. (omega (arith, go.0), further read q qs e r m go))
    where
      start : (read : List Event) (n : ℕ) → n ≡ 0 → Told read [] (answers_of d read) n
      start read n h = rw h (record { conversions = tt; decided = λ k. absurd (omega (arith, k)); pulled = refl })

      decided : (read : List Event) (q : Quad) (qs : List Quad) → both_decided d read ≡ true → (n : ℕ) → n ≡ 0 → Told read (q ∷ qs) (answers_of d read) n
      decided read q qs y n h = rw h (record { conversions = tt; decided = λ k. y; pulled = refl })

      further : (read : List Event) (q : Quad) (qs : List Quad) (e : Event) (r : Soaked) → met_of q ≡ Ok e → Answered (e ∷ read) qs r → r.code ≡ 0
          → (n : ℕ) → r.read ≡ length read + n → Told read (q ∷ qs) r n
      further read q qs e r m go z zero h = absurd (omega (arith, h, go.0))
      further read q qs e r m go z (suc n) h =
          let g = go.1 z n (omega (arith, h)) in
          let same = onto_met_lem q (take n qs) read e m in
          record {
            conversions = (rw m (valid_code e), g.conversions);
            decided = λ k. rw same (g.decided (omega (arith, k)));
            pulled = rw same g.pulled;
          }

  -- a refusal tells no pin
  abbrev Silent : List Event → List Quad → Soaked → Type 0
  Silent read qs r = (r.code ≡ 0 → ⊥) → r.pulled ≡ false

  silent : (qs : List Quad) (read : List Event) → Silent read qs (back_of d read qs)
  silent =
      back_ind d Silent (λ read z. absurd (z refl)) (λ read q qs y z. absurd (z refl)) (λ read q qs why y m z. refl) (λ read q qs e r y m go. go)

-- ---- which stretches are read

-- what holds of every refusal that comes before a record is read, and of every reading, holds of every soak
pub soak_ind : (d : Device) (records : List ℕ) (P : Soaked → Type 0)
    → ((variant_of d.variant && ranged_of d) ≡ false → P (refuses_of 8 0))
    → ((variant_of d.variant && ranged_of d) ≡ true → standby_of d.settings ≡ true → P (refuses_of 10 0))
    → (Running d → (Whole records → ⊥) → P (refuses_of 4 0))
    → (Readable d records → P (back_of d [] (latest_first records))) → P (soak_of d records)
unfolding soak_of
soak_ind d records P eight ten four back =
    cond_ind P (variant_of d.variant && ranged_of d)
    (λ h. cond_ind P (standby_of d.settings) (ten h)
    (λ awake. cond_ind P (eqb (length records % 4) 0)
    (λ w. back (record { running = running d h awake; whole = eqb-true (length records % 4) 0 w }))
    (λ w. four (running d h awake) (eqb-false (length records % 4) 0 w))))
    eight

-- ---- the latest records

module _ (d : Device) (running : Running d) (j : ℕ) (records : List ℕ) (all : AllConversions (latest_records j records)) where
  pub latest_is : onto (latest_records j records) [] ≡ latest j records
  latest_is = onto_events (latest_records j records) all []

  pub latest_convert : AllConvert (latest j records)
  latest_convert = rw (← latest_is) (onto_convert (latest_records j records) all [] tt)

  -- the definition's test is exact
  pub decided_exactly : (ch : Channel) → (decided_of ch d (latest j records) ≡ true) ↔ Decided ch d (latest j records)
  decided_exactly ch = exactly ch d running (latest j records) latest_convert

  -- and so is the program's, on what it keeps of them
  pub program_exactly : (decided_by (ends_by d (latest j records)) ≡ true) ↔ BothDecided d (latest j records)
  program_exactly =
      let same = decided_is d running (latest j records) latest_convert in
      ((λ y. of_both d running (latest j records) latest_convert (sym same ∙ y)), (λ b. same ∙ both d running (latest j records) latest_convert b))

  pub is_enough : both_decided d (onto (latest_records j records) []) ≡ true → Enough d records j
  is_enough y = record { conversions = all; decided = of_both d running (latest j records) latest_convert (ap (both_decided d) (sym latest_is) ∙ y) }

  pub is_too_few : both_decided d (onto (latest_records j records) []) ≡ false → TooFew d records j
  is_too_few y =
      one_open d running (latest j records) latest_convert (ap (both_decided d) (sym latest_is) ∙ y)
      (λ ch p. record { conversions = all; channel = ch; undecided = p })

  -- the other way
  pub too_few_so : TooFew d records j → both_decided d (onto (latest_records j records) []) ≡ false
  too_few_so t =
      by_test (both_decided d (onto (latest_records j records) []))
      (λ y. absurd (t.undecided ((is_enough y).decided.each t.channel))) (λ y. y)

-- ---- the sentences

pub no_further : (d : Device) (records : List ℕ) (j : ℕ) → j < (soak_of d records).read → TooFew d records j
no_further d records j =
    soak_ind d records (λ (r : Soaked). j < r.read → TooFew d records j)
    (λ _ h. absurd (omega (arith, h))) (λ _ _ h. absurd (omega (arith, h))) (λ _ _ h. absurd (omega (arith, h)))
    (λ readable h.
    let f = fewer d (latest_first records) [] j (omega (arith, h)) in
    is_too_few d readable.running j records f.0 f.1)

pub at_most_all : (d : Device) (records : List ℕ) → (soak_of d records).read ≤ length (quads records)
at_most_all d records =
    soak_ind d records (λ (r : Soaked). r.read ≤ length (quads records)) (λ _. omega arith) (λ _ _. omega arith) (λ _ _. omega arith)
    (λ readable. omega (arith, (counts d (latest_first records) []).1, length-reverse (quads records)))

pub refusal_silent : (d : Device) (records : List ℕ) → ((soak_of d records).code ≡ 0 → ⊥) → (soak_of d records).pulled ≡ false
refusal_silent d records =
    soak_ind d records (λ (r : Soaked). (r.code ≡ 0 → ⊥) → r.pulled ≡ false) (λ _ z. refl) (λ _ _ z. refl) (λ _ _ z. refl)
    (λ readable. silent d (latest_first records) [])

pub none_read : (d : Device) (records : List ℕ) → (Readable d records → ⊥) → (soak_of d records).read ≡ 0
none_read d records =
    soak_ind d records (λ (r : Soaked). (Readable d records → ⊥) → r.read ≡ 0) (λ _ z. refl) (λ _ _ z. refl) (λ _ _ z. refl)
    (λ readable z. absurd (z readable))

-- a code of 0, and what it tells
module _ (d : Device) (records : List ℕ) (z : (soak_of d records).code ≡ 0) where
  pub is_readable : Readable d records
  is_readable =
      soak_ind d records (λ (r : Soaked). r.code ≡ 0 → Readable d records)
      (λ _ c. absurd (omega (arith, c))) (λ _ _ c. absurd (omega (arith, c))) (λ _ _ c. absurd (omega (arith, c))) (λ readable c. readable) z

  told : Told d [] (latest_first records) (soak_of d records) (soak_of d records).read
  told =
      let same = reads_back d records is_readable.running is_readable.whole in
      rw same ((enough d (latest_first records) []).1 (sym (ap (λ (r : Soaked). r.code) same) ∙ z) (back_of d [] (latest_first records)).read (omega arith))

  pub valid_read : AllConversions (latest_records (soak_of d records).read records)
  valid_read = told.conversions

  -- the answer is T_CRIT_A after the records read, from the state given
  pub answered : (soak_of d records).pulled ≡ tcrit_of (after_of d (latest (soak_of d records).read records))
  answered = told.pulled ∙ ap (λ (es : List Event). tcrit_of (after_of d es)) (latest_is d is_readable.running (soak_of d records).read records valid_read)

  module _ (short : (soak_of d records).read < length (quads records)) where
    pub far_enough : Enough d records (soak_of d records).read
    far_enough =
        is_enough d is_readable.running (soak_of d records).read records valid_read (told.decided (omega (arith, short, length-reverse (quads records))))

    -- and so it is from any other, be the records not read what they may
    pub from_any : (a : Device) → Running a → a.settings ≡ d.settings
        → (soak_of d records).pulled ≡ tcrit_of (after_of a (latest (soak_of d records).read records))
    from_any a r s =
        answered
        ∙ pin_any d is_readable.running (latest (soak_of d records).read records)
        (latest_convert d is_readable.running (soak_of d records).read records valid_read) far_enough.decided a r s
