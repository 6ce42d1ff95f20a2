-- The loop over the stamps: what is gathered so far and what the stamps behind it give are together what the whole list gives.
-- Assumes nothing.
use Rattle.std.proofs.Common.{◌≡◌, ℕ, ◌+◌, ◌-◌, ◌<◌, ◌≤◌, min, max, Bool, true, false, cond, eqb, ltb}
use Rattle.std.proofs.Common.{List, [], ◌∷◌, map, length, get_or, take, drop, length-drop, sym, refl, ap, ◌∙◌, add-one, arith}
use Rattle.std.proofs.Common.{drop_of_length-le, drop-cons, le-ltb, eq-eqb, ne_eqb}
use Rattle.std.proofs.lemmas.List.{take_all}
use mir.Val.{bool_byte}
use Rattle.tach.specs.Stamps.{behind, period_of, ticks_a_minute, speed_of, speeds_of}
use Rattle.tach.specs.Tach.{slowest_of, fastest_of, under_of, some_of, equal_of, refuses_of, tach_of}

-- the speeds of the stamps behind one of them
abbrev speeds_behind : ℕ → List ℕ → List ℕ
speeds_behind earlier rest = map speed_of (behind period_of earlier rest)

-- the numbers so far, and the last stamp, with those from i on to come
pub record Going (stamps : List ℕ) (floor earlier slowest fastest under i : ℕ) : Type 0 where
  pub many : 2 ≤ length stamps
  pub within : i ≤ length stamps
  pub few : under ≤ i
  pub top : slowest ≤ ticks_a_minute
  pub apart : equal_of stamps ≡ some_of (behind eqb earlier (drop i stamps))
  pub slow : slowest_of (speeds_of stamps) ≡ min slowest (slowest_of (speeds_behind earlier (drop i stamps)))
  pub fast : fastest_of (speeds_of stamps) ≡ max fastest (fastest_of (speeds_behind earlier (drop i stamps)))
  pub low : under_of floor (speeds_of stamps) ≡ under + under_of floor (speeds_behind earlier (drop i stamps))

-- ---- numbers

-- a test as a number, as `u64::from` makes it
pub number_of : (t : Bool) → bool_byte t ≡ cond t 1 0
number_of true = refl
number_of false = refl

pub one_at_most : (t : Bool) → cond t 1 0 ≤ 1
one_at_most true = omega arith
one_at_most false = omega arith

slowest_top : (speeds : List ℕ) → slowest_of speeds ≤ ticks_a_minute
unfolding slowest_of
slowest_top [] = omega arith
slowest_top (v ∷ rest) = omega (arith, slowest_top rest)

-- ---- the loop

next : (stamps : List ℕ) (i : ℕ) → i < length stamps → drop i stamps ≡ get_or stamps i 0 ∷ drop (i + 1) stamps
next stamps i h = rw (add-one, drop-cons stamps i 0)

pub start : (stamps : List ℕ) (floor : ℕ) → 2 ≤ length stamps → Going stamps floor (get_or stamps 0 0) ticks_a_minute 0 0 1
start [] floor h = absurd (omega arith)
start (a ∷ rest) floor h =
    record {
      many = h;
      within = omega arith;
      few = omega arith;
      top = omega arith;
      apart = refl;
      slow = omega (arith, slowest_top (speeds_behind a rest));
      fast = omega arith;
      low = omega arith;
    }

-- the stamps behind the first, as `for` goes over them
all_later : (stamps : List ℕ) → take (length stamps - 1) (drop 1 stamps) ≡ drop 1 stamps
all_later stamps = take_all (length stamps - 1) (drop 1 stamps) (omega (arith, length-drop 1 stamps))

pub later_many : (stamps : List ℕ) → length (take (length stamps - 1) (drop 1 stamps)) ≡ length stamps - 1
later_many stamps = ap length (all_later stamps) ∙ length-drop 1 stamps

behind_first : (stamps : List ℕ) (i : ℕ) → get_or (drop 1 stamps) i 0 ≡ get_or stamps (i + 1) 0
behind_first [] i = refl
behind_first (a ∷ rest) i = rw add-one

pub later_at : (stamps : List ℕ) (i : ℕ) → get_or (take (length stamps - 1) (drop 1 stamps)) i 0 ≡ get_or stamps (i + 1) 0
later_at stamps i = ap (λ (l : List ℕ). get_or l i 0) (all_later stamps) ∙ behind_first stamps i

module _ {stamps : List ℕ} {floor earlier slowest fastest under i : ℕ} (g : Going stamps floor earlier slowest fastest under i) where
  pub equal_next : i < length stamps → get_or stamps i 0 ≡ earlier → tach_of stamps floor ≡ refuses_of 13
  unfolding tach_of some_of
  equal_next h e = rw (le-ltb (length stamps) 2 g.many, g.apart, next stamps i h, e, eq-eqb earlier earlier refl)

  pub more : i < length stamps → (get_or stamps i 0 ≡ earlier → ⊥)
      → (speed : ℕ) → speed ≡ speed_of (period_of earlier (get_or stamps i 0))
      → Going stamps floor (get_or stamps i 0) (min slowest speed) (max fastest speed) (under + cond (ltb speed floor) 1 0) (i + 1)
  unfolding some_of slowest_of fastest_of under_of
  more h n v e =
      let b = get_or stamps i 0 in
      record {
        many = g.many;
        within = omega arith;
        few = omega (arith, g.few, one_at_most (ltb v floor));
        top = omega (arith, g.top);
        apart = g.apart ∙ rw (next stamps i h, ne_eqb earlier b (λ q. n (sym q)));
        slow = g.slow ∙ rw (next stamps i h, e) (omega arith);
        fast = g.fast ∙ rw (next stamps i h, e) (omega arith);
        low = g.low ∙ rw (next stamps i h, e) (omega arith);
      }

  pub finished : length stamps ≤ i → record { code = 0; slowest = slowest; fastest = fastest; under = under } ≡ tach_of stamps floor
  unfolding tach_of some_of slowest_of fastest_of under_of
  finished h =
      rw (le-ltb (length stamps) 2 g.many, g.apart, g.slow, g.fast, g.low, drop_of_length-le stamps h)
      let slow : slowest ≡ min slowest ticks_a_minute = omega (arith, g.top) in
      let fast : fastest ≡ max fastest 0 = omega arith in
      let low : under ≡ under + 0 = omega arith in
      cc
