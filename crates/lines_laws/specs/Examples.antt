-- Worked lines: every hex digit, numbers at both sides of each length, a line and an end line, and room for lines or a byte less.
-- Assumes nothing.
use Rattle.std.specs.Prelude.{◌≡◌, refl, [], ◌∷◌, ◌++◌, map}
use Rattle.lines.specs.Lines.{hex_of, digit_of, zeros_of, decimal_of, line_of, end_line_of, fitting_of, fitting_lines_of}

-- 0 to 9, A to F; of a larger number the last digit
pub hex_digits :
    map hex_of (0 ∷ 1 ∷ 2 ∷ 3 ∷ 4 ∷ 5 ∷ 6 ∷ 7 ∷ 8 ∷ 9 ∷ 10 ∷ 11 ∷ 12 ∷ 13 ∷ 14 ∷ 15 ∷ 16 ∷ 17 ∷ [])
    ≡ 48 ∷ 49 ∷ 50 ∷ 51 ∷ 52 ∷ 53 ∷ 54 ∷ 55 ∷ 56 ∷ 57 ∷ 65 ∷ 66 ∷ 67 ∷ 68 ∷ 69 ∷ 70 ∷ 48 ∷ 49 ∷ []
unfolding hex_of
hex_digits = refl

pub digits :
    map digit_of (0 ∷ 1 ∷ 2 ∷ 3 ∷ 4 ∷ 5 ∷ 6 ∷ 7 ∷ 8 ∷ 9 ∷ 10 ∷ 11 ∷ [])
    ≡ 48 ∷ 49 ∷ 50 ∷ 51 ∷ 52 ∷ 53 ∷ 54 ∷ 55 ∷ 56 ∷ 57 ∷ 48 ∷ 49 ∷ []
unfolding digit_of
digits = refl

pub numbers :
    map decimal_of
    (0 ∷ 1 ∷ 9 ∷ 10 ∷ 99 ∷ 100 ∷ 999 ∷ 1000 ∷ 9999 ∷ 10000 ∷ 99999 ∷ 100000 ∷ 999999 ∷ 1000000 ∷ 9999999 ∷ 10000000 ∷ 99999999 ∷ 100000000
    ∷ 999999999 ∷ 1000000000 ∷ 4294967295 ∷ [])
    ≡ (48 ∷ []) ∷
    (49 ∷ []) ∷
    (57 ∷ []) ∷
    (49 ∷ 48 ∷ []) ∷
    (57 ∷ 57 ∷ []) ∷
    (49 ∷ 48 ∷ 48 ∷ []) ∷
    (57 ∷ 57 ∷ 57 ∷ []) ∷
    (49 ∷ 48 ∷ 48 ∷ 48 ∷ []) ∷
    (57 ∷ 57 ∷ 57 ∷ 57 ∷ []) ∷
    (49 ∷ 48 ∷ 48 ∷ 48 ∷ 48 ∷ []) ∷
    (57 ∷ 57 ∷ 57 ∷ 57 ∷ 57 ∷ []) ∷
    (49 ∷ 48 ∷ 48 ∷ 48 ∷ 48 ∷ 48 ∷ []) ∷
    (57 ∷ 57 ∷ 57 ∷ 57 ∷ 57 ∷ 57 ∷ []) ∷
    (49 ∷ 48 ∷ 48 ∷ 48 ∷ 48 ∷ 48 ∷ 48 ∷ []) ∷
    (57 ∷ 57 ∷ 57 ∷ 57 ∷ 57 ∷ 57 ∷ 57 ∷ []) ∷
    (49 ∷ 48 ∷ 48 ∷ 48 ∷ 48 ∷ 48 ∷ 48 ∷ 48 ∷ []) ∷
    (57 ∷ 57 ∷ 57 ∷ 57 ∷ 57 ∷ 57 ∷ 57 ∷ 57 ∷ []) ∷
    (49 ∷ 48 ∷ 48 ∷ 48 ∷ 48 ∷ 48 ∷ 48 ∷ 48 ∷ 48 ∷ []) ∷
    (57 ∷ 57 ∷ 57 ∷ 57 ∷ 57 ∷ 57 ∷ 57 ∷ 57 ∷ 57 ∷ []) ∷
    (49 ∷ 48 ∷ 48 ∷ 48 ∷ 48 ∷ 48 ∷ 48 ∷ 48 ∷ 48 ∷ 48 ∷ []) ∷
    (52 ∷ 50 ∷ 57 ∷ 52 ∷ 57 ∷ 54 ∷ 55 ∷ 50 ∷ 57 ∷ 53 ∷ []) ∷ []
unfolding zeros_of digit_of hex_of
numbers = refl

-- 305 0B A4 and end 305 6
pub record_line : line_of 305 0x0B 0xA4 ≡ 51 ∷ 48 ∷ 53 ∷ 32 ∷ 48 ∷ 66 ∷ 32 ∷ 65 ∷ 52 ∷ 10 ∷ []
unfolding zeros_of digit_of hex_of
record_line = refl

pub end_line : end_line_of 305 6 ≡ 101 ∷ 110 ∷ 100 ∷ 32 ∷ 51 ∷ 48 ∷ 53 ∷ 32 ∷ 54 ∷ 10 ∷ []
unfolding zeros_of digit_of hex_of
end_line = refl

pub fitting : map (fitting_of (1 ∷ 2 ∷ 3 ∷ [])) (2 ∷ 3 ∷ 4 ∷ []) ≡ [] ∷ (1 ∷ 2 ∷ 3 ∷ []) ∷ (1 ∷ 2 ∷ 3 ∷ []) ∷ []
fitting = refl

-- two answer pairs, numbered from 9, in room for both lines, for one and a byte, and for a byte less than one; past 2^32 - 1 comes 0
pub fitting_lines :
    map (λ room. fitting_lines_of room 9 (0x04 ∷ 0x80 ∷ 0x0B ∷ 0x00 ∷ [])) (17 ∷ 16 ∷ 7 ∷ [])
    ≡ (line_of 9 0x04 0x80 ++ line_of 10 0x0B 0x00) ∷ line_of 9 0x04 0x80 ∷ [] ∷ []
unfolding fitting_lines_of zeros_of digit_of hex_of
fitting_lines = refl

pub round : fitting_lines_of 100 4294967295 (0x04 ∷ 0x80 ∷ 0x0B ∷ 0x00 ∷ []) ≡ line_of 4294967295 0x04 0x80 ++ line_of 0 0x0B 0x00
unfolding fitting_lines_of zeros_of digit_of hex_of
round = refl
