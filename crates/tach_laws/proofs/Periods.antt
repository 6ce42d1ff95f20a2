-- Two stamps: the period is the later less the earlier going round, `going_round`, and the speed is rounded down, `rounded_down`. Given true distances of 1 to
-- 65,535 ticks the periods of a run of stamps are the true ones, `true_periods`; that of two stamps is the true one only then, `true_exactly`.
-- Assumes nothing.
use mathlib.Core.Path.{◌≡◌, refl, ap}
use mathlib.Core.Logic.{◌↔◌}
use mathlib.Core.List.{List, [], ◌∷◌, map}
use Prim.Native.Nat.{ℕ, suc, ◌+◌, ◌<◌, ◌≤◌}
use native.Mathlib.Nat.{div-mul-le_self, lt-div-mul-add, div-eq_of_lt-le}
use native.Mathlib.Omega.{arith}
use Rattle.laws.proofs.Exactly.{by_lines}
use Rattle.tach.specs.Stamps.{round, stamp_of, behind, neighbours, period_of, periods_of, ticks_a_minute, speed_of}
use Rattle.tach_laws.specs.Places.{GoingRound, RoundedDown, TrueTimes, distance_of}

-- ---- two stamps

pub is_going_round : (earlier later : ℕ) → earlier < round → later < round → GoingRound earlier later (period_of earlier later)
is_going_round earlier later h k = record { below = omega arith; shows = omega arith }

one_going_round : (earlier later p q : ℕ) → earlier < round → GoingRound earlier later p → GoingRound earlier later q → p ≡ q
one_going_round earlier later p q h x y = omega (arith, x.below, x.shows, y.below, y.shows)

pub going_round : (earlier later : ℕ) → earlier < round → later < round → (p : ℕ) → (period_of earlier later ≡ p) ↔ GoingRound earlier later p
going_round earlier later h k =
    let known = is_going_round earlier later h k in
    by_lines (GoingRound earlier later) (period_of earlier later) known (λ p. one_going_round earlier later (period_of earlier later) p h known)

pub is_rounded_down : (period : ℕ) → 0 < period → RoundedDown period (speed_of period)
is_rounded_down period h = record { whole = div-mul-le_self ticks_a_minute period; no_more = omega (arith, lt-div-mul-add {a = ticks_a_minute} h) }

pub rounded_down : (period : ℕ) → 0 < period → (speed : ℕ) → (speed_of period ≡ speed) ↔ RoundedDown period speed
rounded_down period h =
    by_lines (RoundedDown period) (speed_of period) (is_rounded_down period h) (λ speed x. div-eq_of_lt-le period x.whole x.no_more)

-- ---- true times

pub true_period : (earlier later : ℕ) → earlier ≤ later → later < earlier + round → period_of (stamp_of earlier) (stamp_of later) ≡ distance_of earlier later
true_period earlier later h k = omega arith

-- the period of two stamps is the true distance exactly if that is less than a round
pub true_exactly : (time distance : ℕ) → (period_of (stamp_of time) (stamp_of (time + distance)) ≡ distance) ↔ (distance < round)
true_exactly time distance = ((λ e. omega arith), (λ h. omega arith))

-- behind the first of the times
later_ones : (a b : ℕ) (rest : List ℕ) → TrueTimes (a ∷ b ∷ rest) → TrueTimes (b ∷ rest)
later_ones a b rest t =
    record {
      one_or_more = λ i h. t.one_or_more (suc i) (omega arith);
      within_a_round = λ i h. t.within_a_round (suc i) (omega arith);
    }

true_behind : (a : ℕ) (rest : List ℕ) → TrueTimes (a ∷ rest) → behind period_of (stamp_of a) (map stamp_of rest) ≡ behind distance_of a rest
true_behind a [] t = refl
true_behind a (b ∷ rest) t =
    rw (true_period a b (omega (arith, t.one_or_more 0 (omega arith))) (omega (arith, t.within_a_round 0 (omega arith))))
    (ap (λ (l : List ℕ). distance_of a b ∷ l) (true_behind b rest (later_ones a b rest t)))

pub true_periods : (times : List ℕ) → TrueTimes times → periods_of (map stamp_of times) ≡ neighbours distance_of times
true_periods [] t = refl
true_periods (a ∷ rest) t = true_behind a rest t
