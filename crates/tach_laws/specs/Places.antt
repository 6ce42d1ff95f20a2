-- Request h in words about places. A run of n stamps has n - 1 of them: place i is that of stamps i and i + 1, counted from 0.
-- Assumes nothing.
use Rattle.std.specs.Prelude.{ℕ, suc, ◌+◌, ◌-◌, ◌*◌, ◌<◌, ◌≤◌, ◌≡◌, ◌⊎◌, ◌↔◌, List, [], ◌∷◌, length, get_or}
use Rattle.tach.specs.declared.Speeds.{Speeds}
use Rattle.tach.specs.Stamps.{round, stamp_of, period_of, ticks_a_minute, speed_of}

abbrev pub places_of : List ℕ → ℕ
places_of l = length l - 1

-- ---- stamps

-- every stamp is one of a 16-bit counter, as each of a slice of u16 is
pub record OfCounter (stamps : List ℕ) : Type 0 where
  pub each : (i : ℕ) → i < length stamps → get_or stamps i 0 < round

abbrev pub period_at : List ℕ → ℕ → ℕ
period_at stamps i = period_of (get_or stamps i 0) (get_or stamps (suc i) 0)

abbrev pub speed_at : List ℕ → ℕ → ℕ
speed_at stamps i = speed_of (period_at stamps i)

-- the later stamp less the earlier, going round: less than a round, and so many ticks after the earlier stamp the counter shows the later one
pub record GoingRound (earlier later period : ℕ) : Type 0 where
  pub below : period < round
  pub shows : stamp_of (earlier + period) ≡ later

-- 5,400,000 divided by the period, rounded down
pub record RoundedDown (period speed : ℕ) : Type 0 where
  pub whole : speed * period ≤ ticks_a_minute
  pub no_more : ticks_a_minute < (speed + 1) * period

-- ---- true times

-- true distances are 1 to 65,535 ticks
pub record TrueTimes (times : List ℕ) : Type 0 where
  pub one_or_more : (i : ℕ) → i < places_of times → get_or times i 0 + 1 ≤ get_or times (suc i) 0
  pub within_a_round : (i : ℕ) → i < places_of times → get_or times (suc i) 0 ≤ get_or times i 0 + 65535

abbrev pub distance_of : ℕ → ℕ → ℕ
distance_of earlier later = later - earlier

abbrev pub true_speed_at : List ℕ → ℕ → ℕ
true_speed_at times i = speed_of (distance_of (get_or times i 0) (get_or times (suc i) 0))

-- ---- what is reported of the speeds at n places

-- s is the speed at one of them, and `stands s` holds of the speed at each
pub record Occurred (stands : ℕ → ℕ → Type 0) (speed : ℕ → ℕ) (n s : ℕ) : Type 0 where
  pub place : ℕ
  pub within : place < n
  pub there : speed place ≡ s
  pub each : (i : ℕ) → i < n → stands s (speed i)

-- no speed is below it
abbrev pub Slowest : (ℕ → ℕ) → ℕ → ℕ → Type 0
Slowest = Occurred (λ (s other : ℕ). s ≤ other)

-- no speed is above it
abbrev pub Fastest : (ℕ → ℕ) → ℕ → ℕ → Type 0
Fastest = Occurred (λ (s other : ℕ). other ≤ s)

abbrev pub In : ℕ → List ℕ → Type 0
In i [] = ⊥
In i (k ∷ rest) = (i ≡ k) ⊎ In i rest

-- each above the one before, from `least` on
abbrev pub RisingFrom : ℕ → List ℕ → Type 0
RisingFrom least [] = Unit
RisingFrom least (k ∷ rest) = (least ≤ k) × RisingFrom (suc k) rest

-- k is how many of n places have P: as many as the list of them, in rising order, is long
pub record CountOf (P : ℕ → Type 0) (n k : ℕ) : Type 0 where
  pub places : List ℕ
  pub rising : RisingFrom 0 places
  pub those : (i : ℕ) → In i places ↔ ((i < n) × P i)
  pub many : length places ≡ k

-- slowest and fastest speed, and how many of the speeds fell under the floor
pub record Reports (speed : ℕ → ℕ) (n floor : ℕ) (r : Speeds) : Type 0 where
  pub code : r.code ≡ 0
  pub slowest : Slowest speed n r.slowest
  pub fastest : Fastest speed n r.fastest
  pub under : CountOf (λ (i : ℕ). speed i < floor) n r.under

-- ---- which code is given, and exactly when

-- two equal neighbours
pub record EqualNeighbours (stamps : List ℕ) : Type 0 where
  pub place : ℕ
  pub within : place < places_of stamps
  pub equal : get_or stamps place 0 ≡ get_or stamps (suc place) 0

pub data Gives (stamps : List ℕ) : ℕ → Type 0 where
  -- 12: fewer than two stamps
  few : length stamps < 2 → Gives stamps 12
  -- 13: two equal neighbours; fewer than two stamps have none
  equal : EqualNeighbours stamps → Gives stamps 13
  -- 0: neither applies
  good : 2 ≤ length stamps → (EqualNeighbours stamps → ⊥) → Gives stamps 0
