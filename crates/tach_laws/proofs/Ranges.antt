-- Of what is accepted each period goes round and each speed is rounded down, `each_place`. The numbers that are told keep to their ranges, `in_range`,
-- `under_fits`; no speed is under a floor of 0, `no_floor`, and every one is under a floor above that of one tick, `top_floor`.
-- Assumes nothing.
use mathlib.Core.Path.{◌≡◌, refl, sym, ap, ◌∙◌}
use mathlib.Core.List.{List, [], ◌∷◌}
use Prim.Native.Nat.{ℕ, suc, ◌<◌, ◌≤◌}
use native.Mathlib.Nat.{div-le_self, le-div_iff_mul-le}
use native.Mathlib.Omega.{arith}
use lib.Dec.{ltb}
use lib.ListN.{length, get_or}
use borrow.Author.Tests.{lt-ltb, le-ltb}
use Rattle.laws.proofs.Choices.{by_test}
use Rattle.tach.specs.declared.Speeds.{Speeds}
use Rattle.tach.specs.Stamps.{ticks_a_minute, speeds_of}
use Rattle.tach.specs.Tach.{under_of, equal_of, tach_of}
use Rattle.tach.proofs.Loop.{one_at_most}
use Rattle.tach_laws.specs.Places.{places_of, OfCounter, period_at, speed_at, GoingRound, RoundedDown, EqualNeighbours}
use Rattle.tach_laws.proofs.Periods.{is_going_round, is_rounded_down}
use Rattle.tach_laws.proofs.Runs.{speeds_many, speeds_top}
use Rattle.tach_laws.proofs.Codes.{reports, good_exactly}
use Rattle.tach_laws.proofs.Answers.{reports_exactly}

-- ---- how many are under the floor

under_at_most : (floor : ℕ) (speeds : List ℕ) → under_of floor speeds ≤ length speeds
unfolding under_of
under_at_most floor [] = omega arith
under_at_most floor (v ∷ rest) = omega (arith, one_at_most (ltb v floor), under_at_most floor rest)

none_under : (speeds : List ℕ) → under_of 0 speeds ≡ 0
unfolding under_of
none_under [] = refl
none_under (v ∷ rest) = rw (le-ltb v 0 (omega arith), none_under rest)

all_under : (floor : ℕ) (speeds : List ℕ) → ((i : ℕ) → i < length speeds → get_or speeds i 0 < floor) → under_of floor speeds ≡ length speeds
unfolding under_of
all_under floor [] each = refl
all_under floor (v ∷ rest) each =
    rw (lt-ltb v floor (each 0 (omega arith)), all_under floor rest (λ i h. each (suc i) (omega arith))) (omega arith)

module _ (stamps : List ℕ) (floor : ℕ) where
  -- what holds of 0, which a refusal tells, and of the count holds of what is told
  told_under : (P : ℕ → Type 0) → P 0 → P (under_of floor (speeds_of stamps)) → P (tach_of stamps floor).under
  unfolding tach_of
  told_under P z u =
      by_test (ltb (length stamps) 2) (λ t. rw t z) (λ t. by_test (equal_of stamps) (λ e. rw (t, e) z) (λ e. rw (t, e) u))

  -- there are fewer speeds than stamps, so that a count of them fits wherever the length of a slice does
  pub under_fits : (tach_of stamps floor).under ≤ places_of stamps
  under_fits =
      told_under (λ (k : ℕ). k ≤ places_of stamps) (omega arith)
      (rw (speeds_many stamps) at (under_at_most floor (speeds_of stamps)))

  pub top_floor : (tach_of stamps floor).code ≡ 0 → ticks_a_minute < floor → (tach_of stamps floor).under ≡ places_of stamps
  top_floor e h =
      let good = (good_exactly stamps floor).0 e in
      ap (λ (r : Speeds). r.under) (reports stamps floor good.0 good.1)
      ∙ all_under floor (speeds_of stamps) (λ i k. omega (arith, speeds_top stamps i k))
      ∙ speeds_many stamps

pub no_floor : (stamps : List ℕ) → (tach_of stamps 0).under ≡ 0
no_floor stamps = told_under stamps 0 (λ (k : ℕ). k ≡ 0) refl (none_under (speeds_of stamps))

-- ---- at each place

module _ (stamps : List ℕ) (c : OfCounter stamps) where
  -- neighbours that are not equal have a period of one tick or more
  period_some : (EqualNeighbours stamps → ⊥) → (i : ℕ) → i < places_of stamps → 0 < period_at stamps i
  period_some n i h =
      let apart : get_or stamps i 0 ≡ get_or stamps (suc i) 0 → ⊥ = λ e. n (record { place = i; within = h; equal = e }) in
      omega (arith, c.each i (omega arith), c.each (suc i) (omega arith), apart)

  -- a period is at most 65,535 ticks, so that no speed is below 82
  speed_least : (EqualNeighbours stamps → ⊥) → (i : ℕ) → i < places_of stamps → 82 ≤ speed_at stamps i
  speed_least n i h = (le-div_iff_mul-le (period_some n i h)).1 (omega arith)

  module _ (floor : ℕ) (e : (tach_of stamps floor).code ≡ 0) where
    -- of what is accepted every period is the later stamp less the earlier going round, and every speed that period's, rounded down
    pub each_place : (i : ℕ) → i < places_of stamps
        → GoingRound (get_or stamps i 0) (get_or stamps (suc i) 0) (period_at stamps i) × RoundedDown (period_at stamps i) (speed_at stamps i)
    each_place i h = (
      is_going_round (get_or stamps i 0) (get_or stamps (suc i) 0) (c.each i (omega arith)) (c.each (suc i) (omega arith)),
      is_rounded_down (period_at stamps i) (period_some ((good_exactly stamps floor).0 e).1 i h),
    )

    pub in_range : (82 ≤ (tach_of stamps floor).slowest) × ((tach_of stamps floor).slowest ≤ (tach_of stamps floor).fastest)
        × ((tach_of stamps floor).fastest ≤ ticks_a_minute)
    in_range =
        let told = (reports_exactly stamps floor e (tach_of stamps floor)).0 refl in
        let slow = told.slowest in
        let fast = told.fastest in (
          rw (sym slow.there) (speed_least ((good_exactly stamps floor).0 e).1 slow.place slow.within),
          omega (arith, slow.there, fast.each slow.place slow.within),
          rw (sym fast.there) (div-le_self ticks_a_minute _),
        )
