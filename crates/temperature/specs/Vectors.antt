-- Worked temperatures, as theorems about the definitions: the rows of source document 004, section 9.3.5, the row +110 of 003,
-- document 01's own numbers, and the ends of the scale by request b.
-- Assumes nothing.
use Rattle.std.specs.Prelude.{◌≡◌, refl, Bool, true, false, List, [], ◌∷◌, map, ℕ, ℤ, pos, neg_ℤ}
use Rattle.temperature.specs.declared.Reading.{Reading}
use Rattle.temperature.specs.Temperature.{degrees_of, eighths_of, sum_of, held_of, high_byte_of, low_byte_of, above_of, below_of, cleared_of}

pub record Row : Type 0 where
  pub high : ℕ
  pub low : ℕ
  pub eighths : ℤ

abbrev row : ℕ → ℕ → ℤ → Row
row high low eighths = record { high = high; low = low; eighths = eighths }

abbrev pub rows : List Row
rows =
    row 0x7D 0x00 (pos 1000) ∷
    -- 003 prints 7100h for +110; the binary beside it is 6E00h, and arithmetic decides
    row 0x6E 0x00 (pos 880) ∷
    row 0x19 0x00 (pos 200) ∷
    row 0x01 0x00 (pos 8) ∷
    row 0x00 0x20 (pos 1) ∷
    row 0x00 0x00 (pos 0) ∷
    row 0xFF 0xE0 (neg_ℤ (pos 1)) ∷
    row 0xFF 0x00 (neg_ℤ (pos 8)) ∷
    row 0xE7 0x00 (neg_ℤ (pos 200)) ∷
    row 0xC9 0x00 (neg_ℤ (pos 440)) ∷
    -- the ends of the scale: eleven bits end at -128, where 003 and 004 print -128.875
    row 0x80 0x00 (neg_ℤ (pos 1024)) ∷
    row 0x7F 0xE0 (pos 1023) ∷
    []

-- two bytes give the eighths
pub read : map (λ (r : Row). eighths_of r.high r.low) rows ≡ map (λ (r : Row). r.eighths) rows
unfolding eighths_of degrees_of
read = refl

-- the eighths give the two bytes
pub high_back : map (λ (r : Row). high_byte_of r.eighths) rows ≡ map (λ (r : Row). r.high) rows
high_back = refl

pub low_back : map (λ (r : Row). low_byte_of r.eighths) rows ≡ map (λ (r : Row). r.low) rows
low_back = refl

-- a sum, the reading that it gives, and whether that was held
pub record End : Type 0 where
  pub sum : ℤ
  pub reading : Reading

abbrev end : ℤ → ℤ → Bool → End
end sum eighths held = record { sum = sum; reading = record { eighths = eighths; held = held } }

-- request b: a sum of exactly 1023 or -1024 is not held; 1024 and -1025 are, and so are the largest and the smallest sum there can be
abbrev pub ends : List End
ends =
    end (pos 1022) (pos 1022) false ∷
    end (pos 1023) (pos 1023) false ∷
    end (pos 1024) (pos 1023) true ∷
    end (pos 2046) (pos 1023) true ∷
    end (pos 0) (pos 0) false ∷
    end (neg_ℤ (pos 1023)) (neg_ℤ (pos 1023)) false ∷
    end (neg_ℤ (pos 1024)) (neg_ℤ (pos 1024)) false ∷
    end (neg_ℤ (pos 1025)) (neg_ℤ (pos 1024)) true ∷
    end (neg_ℤ (pos 2048)) (neg_ℤ (pos 1024)) true ∷
    []

pub held : map (λ (e : End). held_of e.sum) ends ≡ map (λ (e : End). e.reading) ends
unfolding held_of
held = refl

-- 127.5 plus 1 is 1028 eighths before it is held, -128 plus -1 is -1032, and the ends of sample and offset give 2046 and -2048
pub sums : sum_of 0x7F 0x80 0x01 0x00 ∷ sum_of 0x80 0x00 0xFF 0x00 ∷ sum_of 0x7F 0xE0 0x7F 0xE0 ∷ sum_of 0x80 0x00 0x80 0x00 ∷ []
    ≡ pos 1028 ∷ neg_ℤ (pos 1032) ∷ pos 2046 ∷ neg_ℤ (pos 2048) ∷ []
unfolding sum_of eighths_of degrees_of
sums = refl

-- strictly above and strictly below: a reading at its limit is within it
pub strict : above_of (pos 681) (pos 680) ∷ above_of (pos 680) (pos 680) ∷ below_of (pos 679) (pos 680) ∷ below_of (pos 680) (pos 680) ∷ []
    ≡ true ∷ false ∷ true ∷ false ∷ []
strict = refl

-- T_CRIT 85, hysteresis 5: 80.000 is not below, 79.875 is; T_CRIT -128, hysteresis 1: -128 is not below -129
pub clears : cleared_of (pos 640) 0x55 5 ∷ cleared_of (pos 639) 0x55 5 ∷ cleared_of (neg_ℤ (pos 1024)) 0x80 1 ∷ [] ≡ false ∷ true ∷ false ∷ []
unfolding cleared_of eighths_of degrees_of
clears = refl
