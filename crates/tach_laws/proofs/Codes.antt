-- A code is given exactly if its line holds, `codes`: 12 exactly for fewer than two stamps, `few_exactly`; 13 exactly for two equal neighbours,
-- `equal_exactly`. A refusal tells nothing else, `refuses_few`, `refuses_equal`.
-- Assumes nothing.
use mathlib.Core.Path.{◌≡◌, sym, subst, ◌∙◌}
use mathlib.Core.Logic.{◌↔◌}
use mathlib.Core.Bool.{Bool, true, false, ◌||◌}
use mathlib.Core.List.{List, [], ◌∷◌}
use Prim.Native.Nat.{ℕ, zero, suc, ◌<◌, ◌≤◌}
use native.Mathlib.Omega.{arith}
use lib.Dec.{ltb, eqb}
use lib.ListN.{length, get_or}
use borrow.Author.Tests.{lt-ltb, le-ltb, ltb-true, ltb-false, eqb-true, eq-eqb}
use Rattle.laws.proofs.Choices.{clash, by_test, or_left, or_right}
use Rattle.laws.proofs.Exactly.{by_lines}
use Rattle.tach.specs.Stamps.{neighbours, speeds_of}
use Rattle.tach.specs.Tach.{some_of, equal_of, reports_of, tach_of}
use Rattle.tach_laws.specs.Places.{places_of, EqualNeighbours, Gives}
use Rattle.tach_laws.specs.Places.Gives.{few, equal, good}
use Rattle.tach_laws.proofs.Runs.{neighbours_many, neighbours_at}

-- ---- some test of a list holds

record Holds (tests : List Bool) : Type 0 where
  place : ℕ
  within : place < length tests
  there : get_or tests place false ≡ true

holds_here : (t : Bool) (rest : List Bool) → t ≡ true → Holds (t ∷ rest)
holds_here t rest e = record { place = 0; within = omega arith; there = e }

holds_behind : (t : Bool) (rest : List Bool) → Holds rest → Holds (t ∷ rest)
holds_behind t rest h = record { place = suc h.place; within = omega (arith, h.within); there = h.there }

some_holds : (tests : List Bool) → some_of tests ≡ true → Holds tests
unfolding some_of
some_holds [] e = clash e
some_holds (t ∷ rest) e =
    by_test t (holds_here t rest) (λ n. holds_behind t rest (some_holds rest (subst (λ (s : Bool). (s || some_of rest) ≡ true) n e)))

holds_some : (tests : List Bool) (i : ℕ) → i < length tests → get_or tests i false ≡ true → some_of tests ≡ true
unfolding some_of
holds_some [] i h e = absurd (omega arith)
holds_some (t ∷ rest) zero h e = or_left t (some_of rest) e
holds_some (t ∷ rest) (suc i) h e = or_right t (some_of rest) (holds_some rest i (omega arith) e)

module _ (stamps : List ℕ) where
  neighbours_equal : equal_of stamps ≡ true → EqualNeighbours stamps
  neighbours_equal e =
      let h = some_holds (neighbours eqb stamps) e in
      let within : h.place < places_of stamps = rw (neighbours_many eqb stamps) at h.within in
      record {
        place = h.place;
        within = within;
        equal = eqb-true _ _ (sym (neighbours_at eqb stamps h.place false within) ∙ h.there);
      }

  equal_neighbours : EqualNeighbours stamps → equal_of stamps ≡ true
  equal_neighbours x =
      holds_some (neighbours eqb stamps) x.place (rw (neighbours_many eqb stamps) x.within)
      (neighbours_at eqb stamps x.place false x.within ∙ eq-eqb _ _ x.equal)

  two_for_equal : EqualNeighbours stamps → 2 ≤ length stamps
  two_for_equal x = omega (arith, x.within)

  module _ (floor : ℕ) where
    pub refuses_few : length stamps < 2 → tach_of stamps floor ≡ record { code = 12; slowest = 0; fastest = 0; under = 0 }
    unfolding tach_of
    refuses_few h = rw (lt-ltb (length stamps) 2 h)

    pub refuses_equal : EqualNeighbours stamps → tach_of stamps floor ≡ record { code = 13; slowest = 0; fastest = 0; under = 0 }
    unfolding tach_of
    refuses_equal x = rw (le-ltb (length stamps) 2 (two_for_equal x), equal_neighbours x)

    pub reports : 2 ≤ length stamps → (EqualNeighbours stamps → ⊥) → tach_of stamps floor ≡ reports_of (speeds_of stamps) floor
    unfolding tach_of
    reports h n =
        let none : equal_of stamps ≡ false = by_test (equal_of stamps) (λ e. absurd (n (neighbours_equal e))) (λ e. e) in
        rw (le-ltb (length stamps) 2 h, none)

    gives : Gives stamps (tach_of stamps floor).code
    gives =
        by_test (ltb (length stamps) 2)
        (λ t. let h = ltb-true (length stamps) 2 t in rw (refuses_few h) (few h))
        (λ t.
        let h = ltb-false (length stamps) 2 t in
        by_test (equal_of stamps)
        (λ e. let x = neighbours_equal e in rw (refuses_equal x) (equal x))
        (λ e. let n : EqualNeighbours stamps → ⊥ = λ x. clash (sym e ∙ equal_neighbours x) in rw (reports h n) (good h n)))

    line : (code : ℕ) → Gives stamps code → (tach_of stamps floor).code ≡ code
    line _ (few h) = rw (refuses_few h)
    line _ (equal x) = rw (refuses_equal x)
    line _ (good h n) = rw (reports h n)

    pub codes : (code : ℕ) → ((tach_of stamps floor).code ≡ code) ↔ Gives stamps code
    codes = by_lines (Gives stamps) (tach_of stamps floor).code gives line

    -- accepted: two stamps or more, and no two equal neighbours
    pub good_exactly : ((tach_of stamps floor).code ≡ 0) ↔ ((2 ≤ length stamps) × (EqualNeighbours stamps → ⊥))
    good_exactly = ((λ e. of_good ((codes 0).0 e)), (λ h. line 0 (good h.0 h.1)))
      where
        of_good : Gives stamps 0 → (2 ≤ length stamps) × (EqualNeighbours stamps → ⊥)
        of_good (good h n) = (h, n)

    pub few_exactly : ((tach_of stamps floor).code ≡ 12) ↔ (length stamps < 2)
    few_exactly = ((λ e. of_few ((codes 12).0 e)), (λ h. line 12 (few h)))
      where
        of_few : Gives stamps 12 → length stamps < 2
        of_few (few h) = h

    pub equal_exactly : ((tach_of stamps floor).code ≡ 13) ↔ EqualNeighbours stamps
    equal_exactly = ((λ e. of_equal ((codes 13).0 e)), (λ x. line 13 (equal x)))
      where
        of_equal : Gives stamps 13 → EqualNeighbours stamps
        of_equal (equal x) = x
