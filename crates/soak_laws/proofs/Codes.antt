-- `codes`: a soak gives a code exactly if its line of the table says so, `Gives`: 8, 10, 4 for the length, then 3 or 4 at the first record met that is no
-- valid 05 or 06, else 0. `refused_at`: that record is counted among those read.
-- Assumes nothing.
use Prim.Native.Nat.{ℕ, zero, suc, ◌+◌, ◌%◌, ◌≤◌}
use mathlib.Core.Path.{◌≡◌, refl, sym, ap, ◌∙◌}
use mathlib.Core.Logic.{◌↔◌}
use mathlib.Core.Bool.{false}
use mathlib.Core.List.{List, [], ◌∷◌}
use native.Mathlib.Omega.{arith}
use lib.Dec.{eqb}
use lib.ListN.{length, take, drop}
use borrow.Author.Tests.{eqb-true, eqb-false, ne_eqb}
use Rattle.laws.proofs.Choices.{by_test}
use Rattle.laws.proofs.Exactly.{by_lines}
use Rattle.device.specs.declared.Device.{Device}
use Rattle.device.specs.declared.Event.{Event}
use Rattle.std.specs.Prelude.{Err}
use Rattle.record.specs.declared.refusal.Refusal.{Refusal}
use Rattle.record.specs.declared.refusal.Refusal.TheVariants.{Kind, Operand}
use Rattle.record.specs.Record.{code_of}
use Rattle.record.specs.Fours.{Quad}
use Rattle.soak.specs.declared.Soaked.{Soaked}
use Rattle.soak.specs.Soak.{met_of, latest_first, both_decided, back_of, soak_of}
use Rattle.soak.proofs.Loop.{valid, refusal_code, back_refused, back_met}
use Rattle.soak_laws.specs.Stretch.{AllConversions, Meets, Readable, RefusedAt, Gives}
use Rattle.soak_laws.specs.Stretch.Gives.{state, asleep, uneven, kind, operand, answered}
use Rattle.soak_laws.proofs.Ways.{by_record, valid_code, back_ind, onto, onto_met_lem}
use Rattle.soak_laws.proofs.FullRun.{reads_back}
use Rattle.soak_laws.proofs.Reading.{fewer, soak_ind, is_too_few, too_few_so}

module _ (d : Device) where
  -- ---- a reading that ends with a code

  record Found (read : List Event) (qs : List Quad) (r : Soaked) : Type 0 where
    later : ℕ
    earlier : List Quad
    met : Quad
    why : Refusal
    there : drop later qs ≡ met ∷ earlier
    refusal : met_of met ≡ Err why
    code : r.code ≡ code_of (Err why)
    counted : r.read ≡ length read + suc later

  abbrev Coded : List Event → List Quad → Soaked → Type 0
  Coded read qs r = (r.code ≡ 0 → ⊥) → Found read qs r

  coded : (qs : List Quad) (read : List Event) → Coded read qs (back_of d read qs)
  coded =
      back_ind d Coded
      (λ read z. absurd (z refl))
      (λ read q qs y z. absurd (z refl))
      (λ read q qs why y m z. record { later = 0; earlier = qs; met = q; why = why; there = refl; refusal = m; code = refl; counted = refl })
      (λ read q qs e r y m go z.
      let f = go z in
      record {
        later = suc f.later;
        earlier = f.earlier;
        met = f.met;
        why = f.why;
        there = f.there;
        refusal = f.refusal;
        code = f.code;
        counted = omega (arith, f.counted);
      })

  -- ---- a record that is met

  -- so many are read, and neither they nor fewer of them are enough
  abbrev Met : ℕ → List Quad → List Event → Type 0
  Met later qs read = (j : ℕ) → j ≤ later → AllConversions (take j qs) × (both_decided d (onto (take j qs) read) ≡ false)

  met_at : (later : ℕ) (qs : List Quad) (read : List Event) (q : Quad) (earlier : List Quad) → drop later qs ≡ q ∷ earlier → Met later qs read
      → (code_of (met_of q) ≡ 0 → ⊥) → (back_of d read qs).code ≡ code_of (met_of q)
  met_at zero qs read q earlier e u z = rw e (ap (λ (r : Soaked). r.code) (back_refused d read q earlier (u 0 (omega arith)).1 z))
  met_at (suc n) [] read q earlier e u z = absurd (omega (arith, ap length e))
  met_at (suc n) (p ∷ ps) read q earlier e u z =
      let v = valid (met_of p) (u 1 (omega arith)).0.0 in
      ap (λ (r : Soaked). r.code) (back_met d read p ps v.event (u 0 (omega arith)).1 v.is)
      ∙ met_at n ps (v.event ∷ read) q earlier e
      (λ j h. let w = u (suc j) (omega (arith, h)) in (w.0.1, rw (onto_met_lem p (take j ps) read v.event v.is) at w.1)) z

-- ---- the table

module _ (d : Device) (records : List ℕ) where
  met_code : (readable : Readable d records) (q : Quad) → Meets d records q → (why : Refusal) → met_of q ≡ Err why
      → (soak_of d records).code ≡ code_of (Err why)
  met_code readable q m why p =
      ap (λ (r : Soaked). r.code) (reads_back d records readable.running readable.whole)
      ∙ met_at d m.later (latest_first records) [] q m.earlier m.there
      (λ j h. let t = m.too_few j h in (t.conversions, too_few_so d readable.running j records t.conversions t))
      (λ z. refusal_code why (rw p at z))
      ∙ ap code_of p

  pub refused_at : Readable d records → ((soak_of d records).code ≡ 0 → ⊥) → RefusedAt d records
  refused_at readable z =
      let same = reads_back d records readable.running readable.whole in
      let f = coded d (latest_first records) [] (λ c. z (ap (λ (r : Soaked). r.code) same ∙ c)) in
      record {
        met = f.met;
        meets = record {
          later = f.later;
          earlier = f.earlier;
          there = f.there;
          too_few = λ j h.
              let t = fewer d (latest_first records) [] j (omega (arith, h, f.counted)) in
              is_too_few d readable.running j records t.0 t.1;
        };
        why = f.why;
        refusal = f.refusal;
        code = ap (λ (r : Soaked). r.code) same ∙ f.code;
        read = ap (λ (r : Soaked). r.read) same ∙ f.counted ∙ one_more;
      }
    where
      one_more : {n : ℕ} → length {A = Event} [] + n ≡ n
      one_more = omega arith

  -- the line of the code that is given
  answers : (readable : Readable d records) → (soak_of d records).code ≡ 0 → Gives d records 0
  answers readable z =
      answered readable
      (λ q m. by_record (met_of q) (λ e p. rw p (valid_code e)) (λ why p. absurd (refusal_code why (sym (met_code readable q m why p) ∙ z))))

  refuses : Readable d records → RefusedAt d records → Gives d records (soak_of d records).code
  unfolding code_of
  refuses readable r = rw r.code (by_why r.why refl)
    where
      by_why : (why : Refusal) → r.why ≡ why → Gives d records (code_of (Err why))
      by_why Kind e = kind readable r.met r.meets (r.refusal ∙ ap (λ (w : Refusal). Err w) e)
      by_why Operand e = operand readable r.met r.meets (r.refusal ∙ ap (λ (w : Refusal). Err w) e)

  reads : Readable d records → Gives d records (soak_of d records).code
  reads readable =
      by_test (eqb (soak_of d records).code 0)
      (λ z. let e = eqb-true (soak_of d records).code 0 z in rw e (answers readable e))
      (λ z. refuses readable (refused_at readable (eqb-false (soak_of d records).code 0 z)))

  given : Gives d records (soak_of d records).code
  given =
      soak_ind d records (λ (r : Soaked). Gives d records r.code) (λ h. state h) (λ h s. asleep h s) (λ r w. uneven r w)
      (λ readable. rw (← (reads_back d records readable.running readable.whole)) (reads readable))

  -- and the code of each line
  gives : (code : ℕ) → Gives d records code → (soak_of d records).code ≡ code
  unfolding soak_of code_of
  gives _ (state h) = rw h
  gives _ (asleep h s) = rw (h, s)
  gives _ (uneven r w) = rw (r.variant, r.ranged, r.awake, ne_eqb (length records % 4) 0 w)
  gives _ (kind readable q m p) = met_code readable q m Kind p
  gives _ (operand readable q m p) = met_code readable q m Operand p
  gives _ (answered readable f) =
      by_test (eqb (soak_of d records).code 0) (λ z. eqb-true (soak_of d records).code 0 z)
      (λ z.
      let r = refused_at readable (eqb-false (soak_of d records).code 0 z) in
      absurd (refusal_code r.why (sym (ap code_of r.refusal) ∙ f r.met r.meets)))

  pub codes : (code : ℕ) → ((soak_of d records).code ≡ code) ↔ Gives d records code
  codes = by_lines (Gives d records) (soak_of d records).code given gives
