-- Worked answers, on both sides of each line that request g draws.
-- Assumes nothing.
use Rattle.std.specs.Prelude.{ℕ, ◌≡◌, refl, List, [], ◌∷◌, map, ℤ, pos, neg_ℤ}
use Rattle.fan.specs.declared.Fan.{Fan}
use Rattle.fan.specs.declared.Driven.{Driven}
use Rattle.fan.specs.declared.Number.{Number}
use Rattle.fan.specs.Fan.{step_answer_of, duty_answer_of, preset_answer_of}
use Rattle.fan.specs.Opened.{fan_opened}

-- ---- tables

-- the page's example, its rows from 35 to 105 degrees: it has nine, from 25 on, and the table eight
abbrev curve : List ℕ
curve = 35 ∷ 9 ∷ 45 ∷ 10 ∷ 55 ∷ 13 ∷ 65 ∷ 16 ∷ 75 ∷ 21 ∷ 85 ∷ 26 ∷ 95 ∷ 33 ∷ 105 ∷ 40 ∷ []

-- equal neighbours, and PWM values that fall
abbrev stairs : List ℕ
stairs = 30 ∷ 5 ∷ 30 ∷ 6 ∷ 50 ∷ 10 ∷ 50 ∷ 11 ∷ 50 ∷ 12 ∷ 70 ∷ 20 ∷ 70 ∷ 1 ∷ 127 ∷ 63 ∷ []

-- eight entries at one temperature, entry k with PWM value k
abbrev flat : ℕ → List ℕ
flat t = t ∷ 1 ∷ t ∷ 2 ∷ t ∷ 3 ∷ t ∷ 4 ∷ t ∷ 5 ∷ t ∷ 6 ∷ t ∷ 7 ∷ t ∷ 8 ∷ []

-- eight temperatures, each with the same PWM value
abbrev paired : ℕ → List ℕ → List ℕ
paired p [] = []
paired p (t ∷ ts) = t ∷ p ∷ paired p ts

abbrev fan : List ℕ → ℕ → ℕ → Fan
fan table hysteresis frequency = record { table = table; hysteresis = hysteresis; frequency = frequency }

-- power-on: every entry 7Fh and 3Fh, hysteresis 04h, frequency 17h, which is 23
abbrev power_on : Fan
power_on = fan (paired 0x3F (0x7F ∷ 0x7F ∷ 0x7F ∷ 0x7F ∷ 0x7F ∷ 0x7F ∷ 0x7F ∷ 0x7F ∷ [])) 0x04 0x17

-- ---- steps

pub record Row : Type 0 where
  pub fan : Fan
  pub earlier : ℕ
  pub reading : ℤ
  pub driven : Driven

-- an answer with its step, PWM value and duty, and a refusal, whose other numbers are 0; both written out, and not by the definitions
abbrev row : Fan → ℕ → ℤ → ℕ → ℕ → ℕ → Row
row f earlier reading step value duty =
    record { fan = f; earlier = earlier; reading = reading; driven = record { code = 0; step = step; value = value; duty = duty } }

abbrev refusal : Fan → ℕ → ℤ → ℕ → Row
refusal f earlier reading code = record { fan = f; earlier = earlier; reading = reading; driven = record { code = code; step = 0; value = 0; duty = 0 } }

abbrev answers : List Row → List Driven
answers rows = map (λ (r : Row). step_answer_of r.fan r.earlier r.reading) rows

abbrev told : List Row → List Driven
told rows = map (λ (r : Row). r.driven) rows

-- without hysteresis: one below, at and one above each entry, from no step and from others. At frequency 20 a PWM value of 1 is 2.5 percent
abbrev plain : Fan
plain = fan curve 0 20

abbrev pub warming : List Row
warming =
    row plain 0 (pos 34) 0 0 0 ∷
    row plain 0 (pos 35) 1 9 2250 ∷
    row plain 0 (pos 36) 1 9 2250 ∷
    row plain 0 (pos 44) 1 9 2250 ∷
    row plain 0 (pos 45) 2 10 2500 ∷
    row plain 0 (pos 46) 2 10 2500 ∷
    row plain 0 (pos 54) 2 10 2500 ∷
    row plain 0 (pos 55) 3 13 3250 ∷
    row plain 0 (pos 56) 3 13 3250 ∷
    row plain 0 (pos 64) 3 13 3250 ∷
    row plain 0 (pos 65) 4 16 4000 ∷
    row plain 0 (pos 66) 4 16 4000 ∷
    row plain 0 (pos 74) 4 16 4000 ∷
    row plain 0 (pos 75) 5 21 5250 ∷
    row plain 0 (pos 76) 5 21 5250 ∷
    row plain 0 (pos 84) 5 21 5250 ∷
    row plain 0 (pos 85) 6 26 6500 ∷
    row plain 0 (pos 86) 6 26 6500 ∷
    row plain 0 (pos 94) 6 26 6500 ∷
    row plain 0 (pos 95) 7 33 8250 ∷
    row plain 0 (pos 96) 7 33 8250 ∷
    row plain 0 (pos 104) 7 33 8250 ∷
    row plain 0 (pos 105) 8 40 10000 ∷
    row plain 0 (pos 106) 8 40 10000 ∷
    row plain 0 (pos 127) 8 40 10000 ∷
    -- without hysteresis the earlier step does not matter
    row plain 8 (pos 34) 0 0 0 ∷
    row plain 8 (pos 35) 1 9 2250 ∷
    row plain 8 (pos 104) 7 33 8250 ∷
    row plain 3 (pos 65) 4 16 4000 ∷
    -- on the way up hysteresis does not matter
    row (fan curve 31 20) 0 (pos 34) 0 0 0 ∷
    row (fan curve 31 20) 0 (pos 105) 8 40 10000 ∷
    row (fan curve 31 20) 3 (pos 104) 7 33 8250 ∷
    []

pub on_the_way_up : answers warming ≡ told warming
unfolding fan_opened
on_the_way_up = refl

-- hysteresis 4, from the entry's own step: at its temperature less 4, and one below
abbrev held : Fan
held = fan curve 4 20

abbrev pub cooling : List Row
cooling =
    row held 1 (pos 31) 1 9 2250 ∷
    row held 1 (pos 30) 0 0 0 ∷
    row held 2 (pos 41) 2 10 2500 ∷
    row held 2 (pos 40) 1 9 2250 ∷
    row held 3 (pos 51) 3 13 3250 ∷
    row held 3 (pos 50) 2 10 2500 ∷
    row held 4 (pos 61) 4 16 4000 ∷
    row held 4 (pos 60) 3 13 3250 ∷
    row held 5 (pos 71) 5 21 5250 ∷
    row held 5 (pos 70) 4 16 4000 ∷
    row held 6 (pos 81) 6 26 6500 ∷
    row held 6 (pos 80) 5 21 5250 ∷
    row held 7 (pos 91) 7 33 8250 ∷
    row held 7 (pos 90) 6 26 6500 ∷
    row held 8 (pos 101) 8 40 10000 ∷
    row held 8 (pos 100) 7 33 8250 ∷
    -- from the step before it the same reading does not reach the entry
    row held 0 (pos 31) 0 0 0 ∷
    row held 1 (pos 41) 1 9 2250 ∷
    row held 2 (pos 51) 2 10 2500 ∷
    row held 3 (pos 61) 3 13 3250 ∷
    row held 4 (pos 71) 4 16 4000 ∷
    row held 5 (pos 81) 5 21 5250 ∷
    row held 6 (pos 91) 6 26 6500 ∷
    row held 7 (pos 101) 7 33 8250 ∷
    -- from a later one it does: every entry up to the earlier step has hysteresis
    row held 8 (pos 61) 4 16 4000 ∷
    row held 8 (pos 31) 1 9 2250 ∷
    row held 8 (pos 30) 0 0 0 ∷
    -- hysteresis 10, 16, 30 and 31
    row (fan curve 10 20) 4 (pos 55) 4 16 4000 ∷
    row (fan curve 10 20) 4 (pos 54) 3 13 3250 ∷
    row (fan curve 16 20) 4 (pos 49) 4 16 4000 ∷
    row (fan curve 16 20) 4 (pos 48) 3 13 3250 ∷
    row (fan curve 30 20) 8 (pos 75) 8 40 10000 ∷
    row (fan curve 30 20) 8 (pos 74) 7 33 8250 ∷
    row (fan curve 31 20) 8 (pos 74) 8 40 10000 ∷
    row (fan curve 31 20) 8 (pos 73) 7 33 8250 ∷
    row (fan curve 31 20) 1 (pos 4) 1 9 2250 ∷
    row (fan curve 31 20) 1 (pos 3) 0 0 0 ∷
    []

pub on_the_way_down : answers cooling ≡ told cooling
unfolding fan_opened
on_the_way_down = refl

-- the ends of the scales; all at frequency 4, so that a PWM value of 1 is 12.5 percent
abbrev pub scales : List Row
scales =
    -- 0 degrees: below 0 nothing is reached, but less hysteresis
    row (fan (flat 0) 0 4) 0 (pos 0) 8 8 10000 ∷
    row (fan (flat 0) 0 4) 0 (neg_ℤ (pos 1)) 0 0 0 ∷
    row (fan (flat 0) 0 4) 8 (neg_ℤ (pos 1)) 0 0 0 ∷
    row (fan (flat 0) 1 4) 8 (neg_ℤ (pos 1)) 8 8 10000 ∷
    row (fan (flat 0) 1 4) 8 (neg_ℤ (pos 2)) 0 0 0 ∷
    row (fan (flat 0) 31 4) 5 (neg_ℤ (pos 31)) 5 5 6250 ∷
    row (fan (flat 0) 31 4) 5 (neg_ℤ (pos 32)) 0 0 0 ∷
    row (fan (flat 0) 31 4) 0 (neg_ℤ (pos 31)) 0 0 0 ∷
    row (fan (flat 0) 31 4) 8 (neg_ℤ (pos 128)) 0 0 0 ∷
    row (fan (flat 15) 31 4) 3 (neg_ℤ (pos 16)) 3 3 3750 ∷
    row (fan (flat 15) 31 4) 3 (neg_ℤ (pos 17)) 0 0 0 ∷
    -- 97 degrees, which -128 less 31 would be in eight bits, had hysteresis been taken from the reading
    row (fan (flat 97) 31 4) 8 (neg_ℤ (pos 128)) 0 0 0 ∷
    row (fan (flat 97) 31 4) 0 (neg_ℤ (pos 128)) 0 0 0 ∷
    -- 127 degrees
    row (fan (flat 127) 0 4) 0 (pos 127) 8 8 10000 ∷
    row (fan (flat 127) 0 4) 0 (pos 126) 0 0 0 ∷
    row (fan (flat 127) 31 4) 7 (pos 96) 7 7 8750 ∷
    row (fan (flat 127) 31 4) 7 (pos 95) 0 0 0 ∷
    row (fan (flat 127) 31 4) 7 (pos 127) 8 8 10000 ∷
    -- 97 and 31 are 128, which eight bits with a sign do not hold
    row (fan (flat 127) 31 4) 7 (pos 97) 7 7 8750 ∷
    row (fan (flat 127) 31 4) 7 (pos 126) 7 7 8750 ∷
    row (fan (flat 127) 31 4) 0 (pos 97) 0 0 0 ∷
    []

pub at_the_ends : answers scales ≡ told scales
unfolding fan_opened
at_the_ends = refl

-- which entry's PWM value, and its duty
abbrev pub drives : List Row
drives =
    -- of equal temperatures the highest entry; its PWM value may be the lower one
    row (fan stairs 0 31) 0 (pos 29) 0 0 0 ∷
    row (fan stairs 0 31) 0 (pos 30) 2 6 968 ∷
    row (fan stairs 0 31) 0 (pos 50) 5 12 1935 ∷
    row (fan stairs 0 31) 0 (pos 70) 7 1 161 ∷
    row (fan stairs 0 31) 0 (pos 126) 7 1 161 ∷
    row (fan stairs 0 31) 0 (pos 127) 8 63 10000 ∷
    -- but entries behind the earlier step have no hysteresis
    row (fan stairs 5 31) 1 (pos 25) 1 5 806 ∷
    row (fan stairs 5 31) 2 (pos 25) 2 6 968 ∷
    row (fan stairs 5 31) 4 (pos 45) 4 11 1774 ∷
    row (fan stairs 5 31) 6 (pos 65) 6 20 3226 ∷
    -- a pair of zeros is an entry, whose PWM value is 0
    row (fan (paired 0 (0 ∷ 0 ∷ 0 ∷ 0 ∷ 0 ∷ 0 ∷ 0 ∷ 0 ∷ [])) 0 0) 0 (pos 25) 8 0 0 ∷
    -- power-on, at 127 degrees and less 4: 63 is more than twice 23
    row power_on 0 (pos 126) 0 0 0 ∷
    row power_on 0 (pos 127) 8 63 10000 ∷
    row power_on 8 (pos 123) 8 63 10000 ∷
    row power_on 8 (pos 122) 0 0 0 ∷
    -- the duty is of the frequency given; 0 counts as 1
    row (fan curve 0 3) 0 (pos 35) 1 9 10000 ∷
    row (fan (flat 40) 0 3) 0 (pos 40) 8 8 10000 ∷
    row (fan (flat 40) 9 3) 5 (pos 31) 5 5 8333 ∷
    row (fan (flat 40) 9 16) 1 (pos 31) 1 1 313 ∷
    row (fan (flat 40) 9 1) 1 (pos 31) 1 1 5000 ∷
    row (fan (flat 40) 9 0) 1 (pos 31) 1 1 5000 ∷
    row (fan (flat 40) 9 0) 2 (pos 31) 2 2 10000 ∷
    []

pub driven : answers drives ≡ told drives
unfolding fan_opened
driven = refl

-- ---- refusals

-- with one PWM value, hysteresis 4 and frequency 20
abbrev steady : ℕ → List ℕ → Fan
steady p temperatures = fan (paired p temperatures) 4 20

abbrev pub refusals : List Row
refusals =
    -- 11: a fall at each pair of neighbours; equal ones do not fall
    refusal (steady 9 (36 ∷ 35 ∷ 40 ∷ 50 ∷ 60 ∷ 70 ∷ 80 ∷ 90 ∷ [])) 0 (pos 40) 11 ∷
    row (steady 9 (35 ∷ 35 ∷ 40 ∷ 50 ∷ 60 ∷ 70 ∷ 80 ∷ 90 ∷ [])) 0 (pos 40) 3 9 2250 ∷
    refusal (steady 9 (10 ∷ 31 ∷ 30 ∷ 50 ∷ 60 ∷ 70 ∷ 80 ∷ 90 ∷ [])) 0 (pos 40) 11 ∷
    refusal (steady 9 (10 ∷ 20 ∷ 51 ∷ 50 ∷ 60 ∷ 70 ∷ 80 ∷ 90 ∷ [])) 0 (pos 40) 11 ∷
    refusal (steady 9 (10 ∷ 20 ∷ 30 ∷ 41 ∷ 40 ∷ 70 ∷ 80 ∷ 90 ∷ [])) 0 (pos 40) 11 ∷
    refusal (steady 9 (10 ∷ 20 ∷ 30 ∷ 40 ∷ 71 ∷ 70 ∷ 80 ∷ 90 ∷ [])) 0 (pos 40) 11 ∷
    refusal (steady 9 (10 ∷ 20 ∷ 30 ∷ 40 ∷ 50 ∷ 81 ∷ 80 ∷ 90 ∷ [])) 0 (pos 40) 11 ∷
    row (steady 9 (10 ∷ 20 ∷ 30 ∷ 40 ∷ 40 ∷ 70 ∷ 80 ∷ 90 ∷ [])) 0 (pos 40) 5 9 2250 ∷
    refusal (steady 9 (10 ∷ 20 ∷ 30 ∷ 40 ∷ 50 ∷ 70 ∷ 91 ∷ 90 ∷ [])) 0 (pos 40) 11 ∷
    row (steady 9 (10 ∷ 20 ∷ 30 ∷ 40 ∷ 50 ∷ 70 ∷ 90 ∷ 90 ∷ [])) 0 (pos 40) 4 9 2250 ∷
    refusal (steady 9 (127 ∷ 0 ∷ 0 ∷ 0 ∷ 0 ∷ 0 ∷ 0 ∷ 0 ∷ [])) 0 (neg_ℤ (pos 128)) 11 ∷
    -- pairs of zeros behind others fall too
    refusal (fan (35 ∷ 9 ∷ 45 ∷ 10 ∷ paired 0 (0 ∷ 0 ∷ 0 ∷ 0 ∷ 0 ∷ 0 ∷ [])) 4 20) 0 (pos 40) 11 ∷
    -- a fall that is made good later is a fall
    refusal (steady 9 (90 ∷ 90 ∷ 90 ∷ 90 ∷ 80 ∷ 85 ∷ 90 ∷ 90 ∷ [])) 0 (pos 127) 11 ∷
    -- as they stand, before any range: 128 above 127, 255 above 128
    refusal (steady 9 (128 ∷ 127 ∷ 127 ∷ 127 ∷ 127 ∷ 127 ∷ 127 ∷ 127 ∷ [])) 0 (pos 40) 11 ∷
    refusal (steady 9 (0 ∷ 0 ∷ 0 ∷ 0 ∷ 0 ∷ 0 ∷ 255 ∷ 128 ∷ [])) 0 (pos 40) 11 ∷
    refusal (steady 9 (0 ∷ 0 ∷ 0 ∷ 0 ∷ 0 ∷ 0 ∷ 128 ∷ 255 ∷ [])) 0 (pos 40) 4 ∷
    -- 4: a temperature above 127, the last or all
    row (steady 9 (0 ∷ 0 ∷ 0 ∷ 0 ∷ 0 ∷ 0 ∷ 0 ∷ 127 ∷ [])) 0 (pos 40) 7 9 2250 ∷
    refusal (steady 9 (0 ∷ 0 ∷ 0 ∷ 0 ∷ 0 ∷ 0 ∷ 0 ∷ 128 ∷ [])) 0 (pos 40) 4 ∷
    refusal (steady 9 (128 ∷ 128 ∷ 128 ∷ 128 ∷ 128 ∷ 128 ∷ 128 ∷ 128 ∷ [])) 0 (pos 40) 4 ∷
    -- a PWM value above 63, of the first entry, of one in the middle, of the last, of one that is not reached
    row (fan (10 ∷ 63 ∷ paired 9 (20 ∷ 30 ∷ 40 ∷ 50 ∷ 60 ∷ 70 ∷ 80 ∷ [])) 4 20) 0 (pos 10) 1 63 10000 ∷
    refusal (fan (10 ∷ 64 ∷ paired 9 (20 ∷ 30 ∷ 40 ∷ 50 ∷ 60 ∷ 70 ∷ 80 ∷ [])) 4 20) 0 (pos 10) 4 ∷
    refusal (fan (10 ∷ 9 ∷ 20 ∷ 9 ∷ 30 ∷ 9 ∷ 40 ∷ 64 ∷ 50 ∷ 9 ∷ 60 ∷ 9 ∷ 70 ∷ 9 ∷ 80 ∷ 9 ∷ []) 4 20) 0 (pos 10) 4 ∷
    refusal (fan (10 ∷ 9 ∷ 20 ∷ 9 ∷ 30 ∷ 9 ∷ 40 ∷ 9 ∷ 50 ∷ 9 ∷ 60 ∷ 9 ∷ 70 ∷ 9 ∷ 80 ∷ 64 ∷ []) 4 20) 0 (pos 10) 4 ∷
    refusal (steady 255 (10 ∷ 20 ∷ 30 ∷ 40 ∷ 50 ∷ 60 ∷ 70 ∷ 80 ∷ [])) 0 (pos 9) 4 ∷
    -- PWM values that fall are no fall
    row (fan (10 ∷ 63 ∷ 20 ∷ 50 ∷ 30 ∷ 40 ∷ 40 ∷ 30 ∷ 50 ∷ 20 ∷ 60 ∷ 10 ∷ 70 ∷ 5 ∷ 80 ∷ 0 ∷ []) 4 20) 0 (pos 127) 8 0 0 ∷
    -- hysteresis
    row (fan curve 31 20) 0 (pos 35) 1 9 2250 ∷
    refusal (fan curve 32 20) 0 (pos 35) 4 ∷
    refusal (fan curve 255 20) 0 (pos 35) 4 ∷
    -- frequency
    row (fan curve 4 31) 0 (pos 35) 1 9 1452 ∷
    refusal (fan curve 4 32) 0 (pos 35) 4 ∷
    refusal (fan curve 4 255) 0 (pos 35) 4 ∷
    -- the earlier step
    row (fan curve 4 20) 8 (pos 35) 1 9 2250 ∷
    refusal (fan curve 4 20) 9 (pos 35) 4 ∷
    refusal (fan curve 4 20) 255 (pos 35) 4 ∷
    -- also where no entry is reached
    refusal (fan curve 4 20) 9 (neg_ℤ (pos 128)) 4 ∷
    refusal (fan curve 32 20) 0 (pos 34) 4 ∷
    refusal (fan curve 4 32) 0 (pos 34) 4 ∷
    -- and the earlier step where there is no hysteresis
    refusal (fan curve 0 20) 9 (pos 35) 4 ∷
    -- a refusal tells no step, from an earlier one neither
    refusal (steady 9 (36 ∷ 35 ∷ 40 ∷ 50 ∷ 60 ∷ 70 ∷ 80 ∷ 90 ∷ [])) 3 (pos 40) 11 ∷
    refusal (fan curve 32 20) 3 (pos 55) 4 ∷
    -- 11 before 4, whichever number is out of its range
    refusal (steady 64 (36 ∷ 35 ∷ 40 ∷ 50 ∷ 60 ∷ 70 ∷ 80 ∷ 90 ∷ [])) 0 (pos 40) 11 ∷
    refusal (fan (paired 9 (36 ∷ 35 ∷ 40 ∷ 50 ∷ 60 ∷ 70 ∷ 80 ∷ 90 ∷ [])) 32 20) 0 (pos 40) 11 ∷
    refusal (fan (paired 9 (36 ∷ 35 ∷ 40 ∷ 50 ∷ 60 ∷ 70 ∷ 80 ∷ 90 ∷ [])) 4 32) 0 (pos 40) 11 ∷
    refusal (steady 9 (36 ∷ 35 ∷ 40 ∷ 50 ∷ 60 ∷ 70 ∷ 80 ∷ 90 ∷ [])) 9 (pos 40) 11 ∷
    []

pub refused : answers refusals ≡ told refusals
unfolding fan_opened
refused = refl

-- ---- duty

-- a number, and 4 with 0, written out too
abbrev given : ℕ → Number
given value = record { code = 0; value = value }

abbrev none : Number
none = record { code = 4; value = 0 }

pub record Asked : Type 0 where
  pub frequency : ℕ
  pub value : ℕ
  pub number : Number

abbrev asked : ℕ → ℕ → ℕ → Asked
asked frequency value duty = record { frequency = frequency; value = value; number = given duty }

abbrev refuse : ℕ → ℕ → Asked
refuse frequency value = record { frequency = frequency; value = value; number = none }

abbrev pub duties : List Asked
duties =
    -- the request's own number, and the page's example: 58.3 percent
    asked 3 5 8333 ∷
    asked 24 28 5833 ∷
    -- thirds go either way
    asked 3 0 0 ∷
    asked 3 1 1667 ∷
    asked 3 2 3333 ∷
    asked 3 3 5000 ∷
    asked 3 4 6667 ∷
    -- all of it at 2n or more
    asked 3 6 10000 ∷
    asked 3 7 10000 ∷
    asked 3 63 10000 ∷
    asked 31 61 9839 ∷
    asked 31 62 10000 ∷
    asked 31 63 10000 ∷
    -- n = 0 counts as 1
    asked 0 0 0 ∷
    asked 0 1 5000 ∷
    asked 0 2 10000 ∷
    asked 0 63 10000 ∷
    asked 1 0 0 ∷
    asked 1 1 5000 ∷
    asked 1 2 10000 ∷
    asked 1 63 10000 ∷
    -- ties go upward: 312.5, 937.5, 4687.5, 9687.5
    asked 16 1 313 ∷
    asked 16 2 625 ∷
    asked 16 3 938 ∷
    asked 16 15 4688 ∷
    asked 16 31 9688 ∷
    asked 16 32 10000 ∷
    -- 714.29, 1428.57, 161.29, 322.58
    asked 7 1 714 ∷
    asked 7 2 1429 ∷
    asked 31 1 161 ∷
    asked 31 2 323 ∷
    -- 4 for a number out of its range
    refuse 32 0 ∷
    refuse 255 63 ∷
    refuse 31 64 ∷
    refuse 0 64 ∷
    refuse 3 255 ∷
    refuse 255 255 ∷
    []

pub of_duty : map (λ (d : Asked). duty_answer_of d.frequency d.value) duties ≡ map (λ (d : Asked). d.number) duties
unfolding fan_opened
of_duty = refl

-- ---- preset; the page's whole column stands in fan_laws

abbrev pub presets : List Number
presets =
    given 1 ∷  -- n = 0
    given 1 ∷  -- n = 1, where one and a half is 1.5
    given 3 ∷  -- n = 2
    given 5 ∷  -- n = 3, where it is 4.5
    given 6 ∷  -- n = 4
    given 45 ∷  -- n = 30
    given 47 ∷  -- n = 31, where it is 46.5
    none ∷  -- n = 32
    none ∷  -- n = 255
    []

pub of_preset : map preset_answer_of (0 ∷ 1 ∷ 2 ∷ 3 ∷ 4 ∷ 30 ∷ 31 ∷ 32 ∷ 255 ∷ []) ≡ presets
unfolding fan_opened
of_preset = refl
