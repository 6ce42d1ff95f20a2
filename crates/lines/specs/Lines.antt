-- Listing in full: a record's line, the lines of answers and the end line, as bytes.
-- Assumes nothing.
use Rattle.std.specs.Prelude.{◌≡◌, ℕ, ◌+◌, ◌-◌, ◌/◌, ◌%◌, ◌^◌, cond, List, [], ◌∷◌, ◌++◌, length, drop, ◌==◌, nat_le, nat_lt}

-- ---- numbers

-- a decimal digit, the last of a number: 0 is 48
unfoldable pub digit_of : ℕ → ℕ
digit_of n = n % 10 + 48

-- an upper-case hex digit, the last of a number: 0 is 48, A is 65
unfoldable pub hex_of : ℕ → ℕ
hex_of n = cond (nat_lt (n % 16) 10) (n % 16 + 48) (n % 16 + 55)

-- ten digits of a number below 2 ^ 32
abbrev pub ten_digits : ℕ → List ℕ
ten_digits n =
    digit_of (n / 1000000000) ∷ digit_of (n / 100000000) ∷ digit_of (n / 10000000) ∷ digit_of (n / 1000000) ∷ digit_of (n / 100000)
    ∷ digit_of (n / 10000) ∷ digit_of (n / 1000) ∷ digit_of (n / 100) ∷ digit_of (n / 10) ∷ digit_of n ∷ []

-- how many of a row of digits are leading zeros; the last one always stands
unfoldable pub zeros_of : List ℕ → ℕ
zeros_of [] = 0
zeros_of (d ∷ []) = 0
zeros_of (d ∷ e ∷ digits) = cond (d == 48) (zeros_of (e ∷ digits) + 1) 0

-- a number below 10^10, with no leading zeros; a record count is below 2^32
abbrev pub decimal_of : ℕ → List ℕ
decimal_of n = drop (zeros_of (ten_digits n)) (ten_digits n)

-- ---- lines: 32 is a blank, 10 a line feed

-- behind the number: the two answer bytes
abbrev pub pair_of : ℕ → ℕ → List ℕ
pair_of first second = 32 ∷ hex_of (first / 16) ∷ hex_of first ∷ 32 ∷ hex_of (second / 16) ∷ hex_of second ∷ 10 ∷ []

abbrev pub line_of : ℕ → ℕ → ℕ → List ℕ
line_of n first second = decimal_of n ++ pair_of first second

-- the last line: `end`, records done, finishing code
abbrev pub end_word : List ℕ
end_word = 101 ∷ 110 ∷ 100 ∷ 32 ∷ []

abbrev pub tail_of : ℕ → List ℕ
tail_of code = 32 ∷ digit_of code ∷ 10 ∷ []

abbrev pub end_line_of : ℕ → ℕ → List ℕ
end_line_of done code = end_word ++ (decimal_of done ++ tail_of code)

-- ---- the listing

-- a line for each pair of answers, numbered from n
abbrev pub lines_of : ℕ → List ℕ → List ℕ
lines_of n [] = []
lines_of n (a ∷ []) = []
lines_of n (a ∷ b ∷ answers) = line_of n a b ++ lines_of (n + 1) answers

-- ---- what a writer of lines promises: a text to the front of the lent buffer, how many bytes, and the rest of the buffer as it was

pub record Laid (text : List ℕ) (count : ℕ) (entry exit : List ℕ) : Type 0 where
  pub told : count ≡ length text
  pub buffer : exit ≡ text ++ drop (length text) entry

-- a line if there is room for it, else nothing
abbrev pub fitting_of : List ℕ → ℕ → List ℕ
fitting_of line room = cond (nat_le (length line) room) line []

abbrev pub Lined : List ℕ → ℕ → List ℕ → List ℕ → Type 0
Lined line count entry exit = Laid (fitting_of line (length entry)) count entry exit

-- the number of the next record; a number has 32 bits, and goes round
abbrev pub next_of : ℕ → ℕ
next_of n = (n + 1) % 2 ^ 32

-- the lines of answers, numbered from n: as many whole lines as there is room for
unfoldable pub fitting_lines_of : ℕ → ℕ → List ℕ → List ℕ
fitting_lines_of room n [] = []
fitting_lines_of room n (a ∷ []) = []
fitting_lines_of room n (a ∷ b ∷ answers) =
    cond (nat_le (length (line_of n a b)) room) (line_of n a b ++ fitting_lines_of (room - length (line_of n a b)) (next_of n) answers) []

abbrev pub LinesLaid : ℕ → List ℕ → ℕ → List ℕ → List ℕ → Type 0
LinesLaid n answers count entry exit = Laid (fitting_lines_of (length entry) n answers) count entry exit
