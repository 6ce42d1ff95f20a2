-- Records that are not read do not matter. `unread`: two stretches that agree on the records read give the same result, whatever whole records stand before
-- those, of which the first stretch has some. `stands`: a stretch in which the reading stops, for a refusal or since both channels are decided, be it at its
-- first record, gives the same result with whatever whole records before it.
-- Assumes nothing.
use Prim.Native.Nat.{ℕ, ◌+◌, ◌%◌, ◌≤◌, ◌<◌}
use mathlib.Core.Path.{◌≡◌, refl, sym, ap, ◌∙◌}
use mathlib.Core.Bool.{true, false, ◌&&◌}
use mathlib.Core.List.{List, [], ◌∷◌, ◌++◌, append-nil}
use mathlib.Core.Logic.{◌⊎◌, inl, inr, ⊎_elim}
use native.Mathlib.Omega.{arith}
use lib.Dec.{eqb}
use lib.ListN.{length, length-append, length-reverse}
use borrow.Author.Tests.{eqb-true}
use Rattle.laws.proofs.Choices.{by_test}
use Rattle.device.specs.declared.Device.{Device}
use Rattle.device.specs.declared.Event.{Event}
use Rattle.device.specs.Bus.{standby_of}
use Rattle.device.specs.Ranges.{variant_of, ranged_of}
use Rattle.record.specs.Record.{code_of}
use Rattle.record.specs.Fours.{Quad, quads}
use Rattle.soak.specs.declared.Soaked.{Soaked}
use Rattle.soak.specs.Soak.{met_of, latest_first, both_decided, back_of, soak_of}
use Rattle.soak.proofs.Runs.{running}
use Rattle.soak.proofs.Loop.{refusal_code, back_none, back_decided, back_refused, back_met}
use Rattle.soak_laws.specs.Stretch.{Whole, AllConversions, events_of, Readable, Stops}
use Rattle.soak_laws.specs.Stretch.Stops.{refuses, decides}
use Rattle.soak_laws.proofs.Decided.{both}
use Rattle.soak_laws.proofs.Ways.{by_record, valid_code, onto, onto_met_lem, onto_length, onto_convert, latest_joined}
use Rattle.soak_laws.proofs.FullRun.{reads_back, whole_events, all_latest}
use Rattle.soak_laws.proofs.Reading.{counts}

-- ---- some records, and others before them

module _ (d : Device) where
  -- the reading stops in them, whatever the others are
  abbrev Halts : List Event → List Quad → Type 0
  Halts read qs = (other : List Quad) → back_of d read (qs ++ other) ≡ back_of d read qs

  -- or it goes on into the others
  abbrev Passes : List Event → List Quad → Type 0
  Passes read qs = AllConversions qs × ((other : List Quad) → back_of d read (qs ++ other) ≡ back_of d (onto qs read) other)

  halts_or_passes : (qs : List Quad) (read : List Event) → Halts read qs ⊎ Passes read qs
  halts_or_passes [] read = inr (tt, λ (other : List Quad). refl)
  halts_or_passes (q ∷ qs) read =
      by_test (both_decided d read)
      (λ y. inl (λ (other : List Quad). back_decided d read (q ∷ (qs ++ other)) y ∙ sym (back_decided d read (q ∷ qs) y)))
      (λ y. by_record (met_of q)
      (λ e m. ⊎_elim
      (λ f. inl (λ (other : List Quad). back_met d read q (qs ++ other) e y m ∙ f other ∙ sym (back_met d read q qs e y m)))
      (λ f. inr (
        (rw m (valid_code e), f.0),
        λ (other : List Quad). back_met d read q (qs ++ other) e y m ∙ f.1 other
            ∙ ap (λ (es : List Event). back_of d es other) (sym (onto_met_lem q qs read e m)),
      ))
      (halts_or_passes qs (e ∷ read)))
      (λ why m.
      let z : code_of (met_of q) ≡ 0 → ⊥ = λ c. refusal_code why (rw m at c) in
      inl (λ (other : List Quad). back_refused d read q (qs ++ other) y z ∙ sym (back_refused d read q qs y z))))

  -- if it goes on, then by itself it reaches the start
  alone : (qs : List Quad) (read : List Event) → Passes read qs → back_of d read qs ≡ back_of d (onto qs read) []
  alone qs read p = ap (back_of d read) (sym (append-nil qs)) ∙ p.1 []

  -- a record that is refused stops it
  halts_refused : (qs : List Quad) (read : List Event) → ((back_of d read qs).code ≡ 0 → ⊥) → Halts read qs
  halts_refused qs read z =
      ⊎_elim (λ f. f)
      (λ p. absurd (z (ap (λ (r : Soaked). r.code) (alone qs read p ∙ back_none d (onto qs read)))))
      (halts_or_passes qs read)

  -- so do records that decide both channels
  halts_decided : (qs : List Quad) (read : List Event) → both_decided d (onto qs read) ≡ true → Halts read qs
  halts_decided qs read y =
      ⊎_elim (λ f. f)
      (λ p other. p.1 other ∙ back_decided d (onto qs read) other y ∙ sym (alone qs read p ∙ back_none d (onto qs read)))
      (halts_or_passes qs read)

  -- and so do those behind which nothing more was read, though something was there
  halts_short : (qs : List Quad) (read : List Event) (q : Quad) (more : List Quad)
      → (back_of d read (qs ++ (q ∷ more))).read ≤ length read + length qs → Halts read qs
  halts_short qs read q more h =
      ⊎_elim (λ f. f)
      (λ p.
      let short = rw (p.1 (q ∷ more), ← (onto_length qs read p.0)) at h in
      by_test (both_decided d (onto qs read)) (halts_decided qs read)
      (λ y. absurd (longer (onto qs read) q more y short)))
      (halts_or_passes qs read)
    where
      longer : (es : List Event) (p : Quad) (ps : List Quad) → both_decided d es ≡ false → (back_of d es (p ∷ ps)).read ≤ length es → ⊥
      longer es p ps y k =
          by_record (met_of p)
          (λ e m. omega (arith, rw (back_met d es p ps e y m) at k, (counts d ps (e ∷ es)).0))
          (λ why m. omega (arith, rw (back_refused d es p ps y (λ c. refusal_code why (rw m at c))) at k))

-- ---- stretches

-- lengths alike, and the same reading where there is one: the same soak
same_soak : (d : Device) (xs ys : List ℕ) → length xs % 4 ≡ length ys % 4
    → (Readable d ys → back_of d [] (latest_first xs) ≡ back_of d [] (latest_first ys)) → soak_of d xs ≡ soak_of d ys
unfolding soak_of
same_soak d xs ys e back =
    by_test (variant_of d.variant && ranged_of d)
    (λ h. by_test (standby_of d.settings) (λ s. rw (h, s))
    (λ awake. by_test (eqb (length ys % 4) 0)
    (λ w. rw (h, awake, e, w) (back (record { running = running d h awake; whole = eqb-true (length ys % 4) 0 w })))
    (λ w. rw (h, awake, e, w))))
    (λ h. rw h)

module _ (d : Device) (before tail : List ℕ) (w : Whole before) where
  same_length : length (before ++ tail) % 4 ≡ length tail % 4
  same_length = rw (length-append before tail) (omega (arith, w))

  -- a reading that stops in the tail
  halts : Halts d [] (latest_first tail) → soak_of d (before ++ tail) ≡ soak_of d tail
  halts f = same_soak d (before ++ tail) tail same_length (λ _. ap (back_of d []) (latest_joined before tail w) ∙ f (latest_first before))

  pub stands : Stops d tail → soak_of d (before ++ tail) ≡ soak_of d tail
  stands (refuses z) =
      same_soak d (before ++ tail) tail same_length
      (λ readable.
      let read = ap (λ (r : Soaked). r.code) (reads_back d tail readable.running readable.whole) in
      ap (back_of d []) (latest_joined before tail w) ∙ halts_refused d (latest_first tail) [] (λ c. z (read ∙ c)) (latest_first before))
  stands (decides all b) =
      same_soak d (before ++ tail) tail same_length
      (λ readable.
      let back = all_latest tail all in
      let same = whole_events tail all in
      let y = both d readable.running (events_of tail) (rw (← same) (onto_convert (latest_first tail) back [] tt)) b in
      ap (back_of d []) (latest_joined before tail w)
      ∙ halts_decided d (latest_first tail) [] (ap (both_decided d) same ∙ y) (latest_first before))

-- whole records in front, of which there is one: a first of them, from the end
no_records : (xs : List ℕ) → Whole xs → 0 < length xs → length (latest_first xs) ≡ 0 → ⊥
no_records [] w h e = omega (arith, h)
no_records (k ∷ []) w h e = omega (arith, w)
no_records (k ∷ a ∷ []) w h e = omega (arith, w)
no_records (k ∷ a ∷ b ∷ []) w h e = omega (arith, w)
no_records (k ∷ a ∷ b ∷ c ∷ xs) w h e = omega (arith, e, length-reverse (quads (k ∷ a ∷ b ∷ c ∷ xs)))

pub unread : (d : Device) (before other tail : List ℕ) → Whole before → Whole other → 0 < length before
    → (soak_of d (before ++ tail)).read ≤ length (quads tail)
    → soak_of d (other ++ tail) ≡ soak_of d (before ++ tail)
unread d before other tail w v h short =
    same_soak d (other ++ tail) (before ++ tail) (same_length d other tail v ∙ sym (same_length d before tail w))
    (λ readable.
    let read = reads_back d (before ++ tail) readable.running readable.whole in
    let few = rw (ap (λ (r : Soaked). r.read) read, latest_joined before tail w) at short in
    by_front (latest_first before) refl few)
  where
    by_front : (qs : List Quad) → latest_first before ≡ qs → (back_of d [] (latest_first tail ++ latest_first before)).read ≤ length (quads tail)
        → back_of d [] (latest_first (other ++ tail)) ≡ back_of d [] (latest_first (before ++ tail))
    by_front [] e few = absurd (no_records before w h (ap length e))
    by_front (q ∷ qs) e few =
        let f = halts_short d (latest_first tail) [] q qs (omega (arith, rw e at few, length-reverse (quads tail))) in
        ap (back_of d []) (latest_joined other tail v) ∙ f (latest_first other) ∙ sym (f (latest_first before))
        ∙ sym (ap (back_of d []) (latest_joined before tail w))
