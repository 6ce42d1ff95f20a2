-- Worked answers, on both sides of each line that request h draws.
-- Assumes nothing.
use Rattle.std.specs.Prelude.{◌≡◌, ℕ, zero, suc, ◌+◌, List, [], ◌∷◌, map, refl}
use Rattle.tach.specs.declared.Speeds.{Speeds}
use Rattle.tach.specs.Stamps.{stamp_of, period_of, periods_of, speed_of, speeds_of}
use Rattle.tach.specs.Tach.{tach_of}
use Rattle.tach.specs.Opened.{tach_opened}

-- ---- periods

pub record Two : Type 0 where
  pub earlier : ℕ
  pub later : ℕ
  pub period : ℕ

abbrev two : ℕ → ℕ → ℕ → Two
two earlier later period = record { earlier = earlier; later = later; period = period }

abbrev pub periods : List Two
periods =
    -- one tick, also from 65,535 to 0
    two 0 1 1 ∷
    two 65534 65535 1 ∷
    two 65535 0 1 ∷
    two 65535 1 2 ∷
    two 65534 0 2 ∷
    -- the longest, one less than a round
    two 0 65535 65535 ∷
    two 1 0 65535 ∷
    two 65535 65534 65535 ∷
    two 32768 32767 65535 ∷
    two 0 65534 65534 ∷
    two 2 0 65534 ∷
    -- half a round: a difference with a sign would end here
    two 0 32767 32767 ∷
    two 0 32768 32768 ∷
    two 0 32769 32769 ∷
    two 32768 0 32768 ∷
    two 32769 0 32767 ∷
    two 65535 32767 32768 ∷
    -- 3,000 ticks on either side of 0, and across it
    two 62535 65535 3000 ∷
    two 62536 0 3000 ∷
    two 64000 1464 3000 ∷
    two 65535 2999 3000 ∷
    two 0 3000 3000 ∷
    -- equal ones
    two 0 0 0 ∷
    two 65535 65535 0 ∷
    []

pub of_two : map (λ (t : Two). period_of t.earlier t.later) periods ≡ map (λ (t : Two). t.period) periods
of_two = refl

-- ---- speeds, rounded down

pub record Turn : Type 0 where
  pub period : ℕ
  pub speed : ℕ

abbrev turn : ℕ → ℕ → Turn
turn period speed = record { period = period; speed = speed }

abbrev pub turns : List Turn
turns =
    turn 1 5400000 ∷
    turn 2 2700000 ∷
    turn 3 1800000 ∷
    turn 7 771428 ∷  -- 771428.57
    turn 1350 4000 ∷
    -- source document 000's example, whose count is over two pulses, which are one revolution: 2723.15
    turn 1983 2723 ∷
    -- 2000.74, 2000 and 1999.26
    turn 2699 2000 ∷
    turn 2700 2000 ∷
    turn 2701 1999 ∷
    turn 3000 1800 ∷
    turn 54000 100 ∷
    -- 83.0003, 82.9990 and, at the longest, 82.3987
    turn 65060 83 ∷
    turn 65061 82 ∷
    turn 65535 82 ∷
    []

pub of_turn : map (λ (t : Turn). speed_of t.period) turns ≡ map (λ (t : Turn). t.speed) turns
of_turn = refl

-- ---- answers

pub record Row : Type 0 where
  pub stamps : List ℕ
  pub floor : ℕ
  pub speeds : Speeds

-- an answer with its slowest and fastest speed and the number under the floor, and a refusal, whose other numbers are 0; both written out, and not by the
-- definitions
abbrev row : List ℕ → ℕ → ℕ → ℕ → ℕ → Row
row stamps floor slowest fastest under =
    record { stamps = stamps; floor = floor; speeds = record { code = 0; slowest = slowest; fastest = fastest; under = under } }

abbrev refusal : List ℕ → ℕ → ℕ → Row
refusal stamps floor code = record { stamps = stamps; floor = floor; speeds = record { code = code; slowest = 0; fastest = 0; under = 0 } }

abbrev answers : List Row → List Speeds
answers rows = map (λ (r : Row). tach_of r.stamps r.floor) rows

abbrev told : List Row → List Speeds
told rows = map (λ (r : Row). r.speeds) rows

-- the highest floor that can be given
abbrev highest : ℕ
highest = 4294967295

-- two stamps have one speed, the slowest and the fastest
abbrev pub pairs : List Row
pairs =
    row (0 ∷ 1 ∷ []) 1000 5400000 5400000 0 ∷
    row (65535 ∷ 0 ∷ []) 1000 5400000 5400000 0 ∷
    row (1 ∷ 0 ∷ []) 1000 82 82 1 ∷
    row (0 ∷ 65535 ∷ []) 1000 82 82 1 ∷
    row (64000 ∷ 1464 ∷ []) 1000 1800 1800 0 ∷
    row (100 ∷ 2083 ∷ []) 1000 2723 2723 0 ∷
    -- the floor: strictly under it
    row (0 ∷ 2700 ∷ []) 1999 2000 2000 0 ∷
    row (0 ∷ 2700 ∷ []) 2000 2000 2000 0 ∷
    row (0 ∷ 2700 ∷ []) 2001 2000 2000 1 ∷
    -- of the speed rounded down: 2000.74 falls under 2001, 1999.26 under 2000
    row (0 ∷ 2699 ∷ []) 2000 2000 2000 0 ∷
    row (0 ∷ 2699 ∷ []) 2001 2000 2000 1 ∷
    row (0 ∷ 2701 ∷ []) 1999 1999 1999 0 ∷
    row (0 ∷ 2701 ∷ []) 2000 1999 1999 1 ∷
    -- at the ends of the speeds
    row (1 ∷ 0 ∷ []) 82 82 82 0 ∷
    row (1 ∷ 0 ∷ []) 83 82 82 1 ∷
    row (0 ∷ 1 ∷ []) 5400000 5400000 5400000 0 ∷
    row (0 ∷ 1 ∷ []) 5400001 5400000 5400000 1 ∷
    -- and of the floors
    row (1 ∷ 0 ∷ []) 0 82 82 0 ∷
    row (0 ∷ 1 ∷ []) highest 5400000 5400000 1 ∷
    []

pub of_pairs : answers pairs ≡ told pairs
unfolding tach_opened
of_pairs = refl

-- a run that slows down, 2000, 1800, 900 and 100 a minute, going round on its way, and the same speeds the other way about
abbrev slowing : List ℕ
slowing = 60000 ∷ 62700 ∷ 164 ∷ 6164 ∷ 60164 ∷ []

abbrev rising : List ℕ
rising = 60000 ∷ 48464 ∷ 54464 ∷ 57464 ∷ 60164 ∷ []

-- 1800, 100 and 2000 a minute, and 1800, 2000 and 100
abbrev dip : List ℕ
dip = 0 ∷ 3000 ∷ 57000 ∷ 59700 ∷ []

abbrev peak : List ℕ
peak = 0 ∷ 3000 ∷ 5700 ∷ 59700 ∷ []

-- 90, 100, 900, 1800, 900 and 2000 a minute, going round twice
abbrev long : List ℕ
long = 0 ∷ 60000 ∷ 48464 ∷ 54464 ∷ 57464 ∷ 63464 ∷ 628 ∷ []

pub of_slowing : periods_of slowing ≡ 2700 ∷ 3000 ∷ 6000 ∷ 54000 ∷ []
of_slowing = refl

pub of_rising : speeds_of rising ≡ 100 ∷ 900 ∷ 1800 ∷ 2000 ∷ []
of_rising = refl

abbrev pub runs : List Row
runs =
    row slowing 0 100 2000 0 ∷
    row slowing 100 100 2000 0 ∷
    row slowing 101 100 2000 1 ∷
    row slowing 900 100 2000 1 ∷
    row slowing 901 100 2000 2 ∷
    row slowing 1800 100 2000 2 ∷
    row slowing 1801 100 2000 3 ∷
    row slowing 2000 100 2000 3 ∷
    row slowing 2001 100 2000 4 ∷
    row slowing highest 100 2000 4 ∷
    row rising 1000 100 2000 2 ∷
    row rising highest 100 2000 4 ∷
    -- slowest in the middle, fastest in the middle
    row dip 1801 100 2000 2 ∷
    row peak 1801 100 2000 2 ∷
    -- slowest first and fastest last, of seven stamps
    row long 1000 90 2000 4 ∷
    -- the same speed again counts again
    row (0 ∷ 2700 ∷ 5400 ∷ 8100 ∷ []) 2000 2000 2000 0 ∷
    row (0 ∷ 2700 ∷ 5400 ∷ 8100 ∷ []) 2001 2000 2000 3 ∷
    -- equal stamps that are no neighbours: a round less a tick and a tick, in either order
    row (4 ∷ 3 ∷ 4 ∷ []) 1000 82 5400000 1 ∷
    row (4 ∷ 5 ∷ 4 ∷ []) 1000 82 5400000 1 ∷
    row (7 ∷ 32775 ∷ 7 ∷ 32775 ∷ []) 165 164 164 3 ∷
    []

pub of_runs : answers runs ≡ told runs
unfolding tach_opened
of_runs = refl

-- ---- refusals

abbrev pub refusals : List Row
refusals =
    -- 12: none and one, whatever they are and whatever the floor
    refusal [] 1000 12 ∷
    refusal [] 0 12 ∷
    refusal [] highest 12 ∷
    refusal (0 ∷ []) 1000 12 ∷
    refusal (65535 ∷ []) highest 12 ∷
    -- two are enough
    row (0 ∷ 3000 ∷ []) 1000 1800 1800 0 ∷
    -- 13: two equal ones, and two that differ by one
    refusal (0 ∷ 0 ∷ []) 1000 13 ∷
    refusal (65535 ∷ 65535 ∷ []) 0 13 ∷
    row (65535 ∷ 65534 ∷ []) 0 82 82 0 ∷
    -- at the first, a middle and the last two of a run
    refusal (5 ∷ 5 ∷ 10 ∷ 20 ∷ 40 ∷ []) 1000 13 ∷
    refusal (5 ∷ 10 ∷ 10 ∷ 20 ∷ 40 ∷ []) 1000 13 ∷
    refusal (5 ∷ 10 ∷ 20 ∷ 20 ∷ 40 ∷ []) 1000 13 ∷
    refusal (5 ∷ 10 ∷ 20 ∷ 40 ∷ 40 ∷ []) highest 13 ∷
    row (5 ∷ 10 ∷ 20 ∷ 40 ∷ 80 ∷ []) 1000 135000 1080000 0 ∷
    -- at the first and the last two of a longer one, which goes round in between
    refusal (0 ∷ long) 1000 13 ∷
    refusal (0 ∷ 60000 ∷ 48464 ∷ 54464 ∷ 57464 ∷ 63464 ∷ 628 ∷ 628 ∷ []) 1000 13 ∷
    -- three of them, and two times two
    refusal (9 ∷ 9 ∷ 9 ∷ []) 1000 13 ∷
    refusal (5 ∷ 5 ∷ 7 ∷ 7 ∷ []) highest 13 ∷
    -- the first and the last are no neighbours
    row (5 ∷ 10 ∷ 20 ∷ 5 ∷ []) 83 82 1080000 1 ∷
    []

pub refused : answers refusals ≡ told refusals
unfolding tach_opened
refused = refl

-- ---- true times, in ticks since some start

-- what the counter showed at them
abbrev shown : List ℕ → List ℕ
shown times = map stamp_of times

abbrev pub times : List Row
times =
    -- 3,000 ticks apart, across the end of the first round, and of the second
    row (shown (64000 ∷ 67000 ∷ 70000 ∷ [])) 1000 1800 1800 0 ∷
    row (shown (131000 ∷ 134000 ∷ 137000 ∷ [])) 1000 1800 1800 0 ∷
    -- 60,000 apart, going round twice
    row (shown (0 ∷ 60000 ∷ 120000 ∷ 180000 ∷ [])) 91 90 90 3 ∷
    -- 1 and 65,535 apart, in either order, far from the start
    row (shown (1000000 ∷ 1000001 ∷ 1065536 ∷ [])) 1000 82 5400000 1 ∷
    row (shown (1000000 ∷ 1065535 ∷ 1065536 ∷ [])) 1000 82 5400000 1 ∷
    -- 65,536 apart, which no stamps can tell from none at all
    refusal (shown (1000000 ∷ 1065536 ∷ [])) 1000 13 ∷
    refusal (shown (1000000 ∷ 1000000 ∷ [])) 1000 13 ∷
    -- 65,537 apart, which they cannot tell from 1: the true speed is 82
    row (shown (1000000 ∷ 1065537 ∷ [])) 1000 5400000 5400000 0 ∷
    []

pub of_times : answers times ≡ told times
unfolding tach_opened
of_times = refl

-- counts above 255: 257 edges, 3,000 ticks apart, have 256 speeds
abbrev steady : ℕ → ℕ → List ℕ
steady time zero = []
steady time (suc edges) = time ∷ steady (time + 3000) edges

pub of_many : tach_of (shown (steady 0 257)) 1801 ≡ record { code = 0; slowest = 1800; fastest = 1800; under = 256 }
unfolding tach_opened
of_many = refl
