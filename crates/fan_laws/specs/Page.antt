-- Source document 000, "Fan control duty cycle vs. register settings and frequency": the columns that speak of duty, as printed, frequencies 1 to 31. The row
-- of 0 says that it is mapped to 1.
-- Assumes nothing.
use Rattle.std.specs.Prelude.{ℕ, zero, suc, ◌-◌, ◌*◌, ◌≡◌, refl, Bool, cond, List, [], ◌∷◌, map, ltb, eqb}
use Rattle.fan.specs.declared.Number.{Number}
use Rattle.fan.specs.Drive.{nearest_of, duty_of}
use Rattle.fan.specs.Fan.{duty_answer_of, preset_answer_of}
use Rattle.fan.specs.Opened.{fan_opened}

-- a printed percentage: its digits, and how many hundredths of a percent the last of them counts
pub record Printed : Type 0 where
  pub digits : ℕ
  pub counts : ℕ

abbrev percent : ℕ → Printed
percent digits = record { digits = digits; counts = 100 }

abbrev tenths : ℕ → Printed
tenths digits = record { digits = digits; counts = 10 }

abbrev hundredths : ℕ → Printed
hundredths digits = record { digits = digits; counts = 1 }

-- frequency, step resolution, PWM value for 100 percent, for about 75 percent and for 50 percent, actual duty when 75 percent is selected
pub record Row : Type 0 where
  pub frequency : ℕ
  pub resolution : Printed
  pub whole : ℕ
  pub about : ℕ
  pub half : ℕ
  pub actual : Printed

abbrev row : ℕ → Printed → ℕ → ℕ → ℕ → Printed → Row
row frequency resolution whole about half actual =
    record { frequency = frequency; resolution = resolution; whole = whole; about = about; half = half; actual = actual }

abbrev pub page : List Row
page =
    row 1 (percent 50) 2 1 1 (tenths 500) ∷
    row 2 (percent 25) 4 3 2 (tenths 750) ∷
    row 3 (tenths 167) 6 5 3 (tenths 833) ∷
    row 4 (tenths 125) 8 6 4 (tenths 750) ∷
    row 5 (tenths 100) 10 8 5 (tenths 800) ∷
    row 6 (hundredths 833) 12 9 6 (tenths 750) ∷
    row 7 (hundredths 714) 14 11 7 (tenths 786) ∷
    row 8 (hundredths 625) 16 12 8 (tenths 750) ∷
    row 9 (hundredths 556) 18 14 9 (tenths 778) ∷
    row 10 (hundredths 500) 20 15 10 (tenths 750) ∷
    row 11 (hundredths 454) 22 17 11 (hundredths 7727) ∷
    row 12 (hundredths 416) 24 18 12 (hundredths 7500) ∷
    row 13 (hundredths 385) 26 20 13 (hundredths 7692) ∷
    row 14 (hundredths 357) 28 21 14 (hundredths 7500) ∷
    row 15 (hundredths 333) 30 23 15 (hundredths 7667) ∷
    row 16 (hundredths 313) 32 24 16 (hundredths 7500) ∷
    row 17 (hundredths 294) 34 26 17 (hundredths 7647) ∷
    row 18 (hundredths 278) 36 27 18 (hundredths 7500) ∷
    row 19 (hundredths 263) 38 29 19 (hundredths 7632) ∷
    row 20 (hundredths 250) 40 30 20 (hundredths 7500) ∷
    row 21 (hundredths 238) 42 32 21 (hundredths 7619) ∷
    row 22 (hundredths 227) 44 33 22 (hundredths 7500) ∷
    row 23 (hundredths 217) 46 35 23 (hundredths 7609) ∷
    row 24 (hundredths 208) 48 36 24 (hundredths 7500) ∷
    row 25 (hundredths 200) 50 38 25 (hundredths 7600) ∷
    row 26 (hundredths 192) 52 39 26 (hundredths 7500) ∷
    row 27 (hundredths 185) 54 41 27 (hundredths 7593) ∷
    row 28 (hundredths 179) 56 42 28 (hundredths 7500) ∷
    row 29 (hundredths 172) 58 44 29 (hundredths 7586) ∷
    row 30 (hundredths 167) 60 45 30 (hundredths 7500) ∷
    row 31 (hundredths 161) 62 47 31 (hundredths 7581) ∷
    []

-- n numbers, from i on
abbrev numbers : ℕ → ℕ → List ℕ
numbers i zero = []
numbers i (suc n) = i ∷ numbers (suc i) n

-- every frequency of the page but 0, in order: 1 to 31
pub frequencies : map (λ (r : Row). r.frequency) page ≡ numbers 1 31
frequencies = refl

-- an answer with this number
abbrev told : ℕ → Number
told n = record { code = 0; value = n }

-- where a test of a row fails
abbrev departs : (Row → Bool) → List Row → List ℕ
departs holds [] = []
departs holds (r ∷ rows) = cond (holds r) (departs holds rows) (r.frequency ∷ departs holds rows)

-- ---- the preset

-- the column FOR ABOUT 75% is what the call answers, at every frequency; and 0 is mapped to 1
pub preset_column : map (λ (r : Row). preset_answer_of r.frequency) page ≡ map (λ (r : Row). told r.about) page
unfolding fan_opened
preset_column = refl

pub zero_as_one : preset_answer_of 0 ≡ preset_answer_of 1
unfolding fan_opened
zero_as_one = refl

-- the page departs from one and a half n, a half going up, at frequency 1 alone: that would be 2, which is all of it
pub at_one_alone : departs (λ (r : Row). eqb (nearest_of (3 * r.frequency) 2) r.about) page ≡ 1 ∷ []
at_one_alone = refl

-- ---- duty

-- the column FOR 100% is all of it, and one less is not, at any frequency; the column FOR 50% is half of it
pub whole_column : map (λ (r : Row). duty_answer_of r.frequency r.whole) page ≡ map (λ (r : Row). told 10000) page
unfolding fan_opened
whole_column = refl

pub less_than_whole : departs (λ (r : Row). ltb (duty_of r.frequency (r.whole - 1)) 10000) page ≡ []
unfolding fan_opened
less_than_whole = refl

pub half_column : map (λ (r : Row). duty_answer_of r.frequency r.half) page ≡ map (λ (r : Row). told 5000) page
unfolding fan_opened
half_column = refl

-- a duty as it would be printed, to the nearest last digit
abbrev printed_of : ℕ → Printed → ℕ
printed_of duty p = nearest_of duty p.counts

-- the last column is the duty of the preset
pub actual_column : map (λ (r : Row). printed_of (duty_of r.frequency r.about) r.actual) page ≡ map (λ (r : Row). r.actual.digits) page
unfolding fan_opened
actual_column = refl

-- the second is the duty of PWM value 1, but at 11 and 12, where the page has 4.54 and 4.16 for 4.5454.. and 4.1666..: arithmetic decides, 455 and 417
pub resolution_column : departs (λ (r : Row). eqb (printed_of (duty_of r.frequency 1) r.resolution) r.resolution.digits) page ≡ 11 ∷ 12 ∷ []
unfolding fan_opened
resolution_column = refl

pub resolution_there : map (λ (n : ℕ). duty_answer_of n 1) (11 ∷ 12 ∷ []) ≡ told 455 ∷ told 417 ∷ []
unfolding fan_opened
resolution_there = refl
