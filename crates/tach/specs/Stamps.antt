-- Request h: the stamps of a free-running 16-bit counter at 90 kHz, which passes from 65,535 to 0, at one edge a revolution; their periods and speeds.
-- Assumes nothing.
use Rattle.std.specs.Prelude.{◌≡◌, ℕ, ◌+◌, ◌-◌, ◌*◌, ◌/◌, ◌%◌, List, [], ◌∷◌, map, refl}

-- a round of the counter: so many ticks on it shows the same again
abbrev pub round : ℕ
round = 65536

-- what the counter shows at a true time, counted in its ticks
abbrev pub stamp_of : ℕ → ℕ
stamp_of time = time % round

-- ---- neighbours

module _ {A : Type 0} where
  -- f of each two neighbours of a list, in order: of an element and those behind it, and of the whole
  abbrev pub behind : (ℕ → ℕ → A) → ℕ → List ℕ → List A
  behind f a [] = []
  behind f a (b ∷ rest) = f a b ∷ behind f b rest

  abbrev pub neighbours : (ℕ → ℕ → A) → List ℕ → List A
  neighbours f [] = []
  neighbours f (a ∷ rest) = behind f a rest

-- ---- periods

-- the later stamp less the earlier, going round
abbrev pub period_of : ℕ → ℕ → ℕ
period_of earlier later = (later + round - earlier) % round

-- of a run of stamps
abbrev pub periods_of : List ℕ → List ℕ
periods_of = neighbours period_of

-- ---- speeds

-- of the counter: 90,000 in a second
abbrev pub ticks_a_minute : ℕ
ticks_a_minute = 5400000

pub at_90_khz : 60 * 90000 ≡ ticks_a_minute
at_90_khz = refl

-- in revolutions a minute, rounded down
abbrev pub speed_of : ℕ → ℕ
speed_of period = ticks_a_minute / period

abbrev pub speeds_of : List ℕ → List ℕ
speeds_of stamps = map speed_of (periods_of stamps)
