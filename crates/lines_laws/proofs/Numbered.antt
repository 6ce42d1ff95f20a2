-- Lines with room for all of them: `lines_all`, where no number goes round, they are the listing's. And lines joined: `lines_append`.
-- Assumes nothing.
use Prim.Native.Nat.{ℕ, ◌+◌, ◌-◌, ◌*◌, ◌≤◌, ◌<◌}
use mathlib.Core.Path.{◌≡◌, refl, sym, ap, ◌∙◌}
use mathlib.Core.Bool.{Bool, cond}
use mathlib.Core.List.{List, [], ◌∷◌, ◌++◌, append_assoc}
use native.Mathlib.Omega.{arith}
use lib.Dec.{ltb}
use lib.ListN.{length, take, drop, length-append, length-drop}
use lib.Seq.{take_at}
use borrow.Author.Tests.{le-leb, ltb-true, ltb-false}
use Rattle.laws.proofs.Choices.{by_test}
use Rattle.lines.specs.Lines.{zeros_of, ten_digits, decimal_of, pair_of, line_of, tail_of, end_word, end_line_of}
use Rattle.lines.specs.Lines.{lines_of, next_of, fitting_lines_of, Laid, Lined}
use Rattle.lines.proofs.Blocks.{lines_on, lines_end}

-- ---- lengths

number_short : (n : ℕ) → length (decimal_of n) ≤ 10
number_short n = let l = length-drop (zeros_of (ten_digits n)) (ten_digits n) in omega arith

pub line_short : (n a b : ℕ) → length (line_of n a b) ≤ 17
line_short n a b = let k = number_short n in let l = length-append (decimal_of n) (pair_of a b) in omega arith

pub end_short : (done code : ℕ) → length (end_line_of done code) ≤ 17
end_short done code =
    let k = number_short done in
    let l = length-append end_word (decimal_of done ++ tail_of code) in
    let m = length-append (decimal_of done) (tail_of code) in
    omega arith

-- ---- what is laid, read back

pub laid_front : {text entry exit : List ℕ} {count : ℕ} → Laid text count entry exit → take count exit ≡ text
laid_front {text} {entry} {count = count} p = ap (take count) p.buffer ∙ take_at text (drop (length text) entry) count (sym p.told)

pub lined_front : {entry exit : List ℕ} {count : ℕ} (line : List ℕ) → length line ≤ length entry → Lined line count entry exit → take count exit ≡ line
lined_front {entry} line h p = laid_front p ∙ ap (λ (t : Bool). cond t line []) (le-leb (length line) (length entry) h)

-- ---- all lines

none_left : (n : ℕ) (answers : List ℕ) → length answers < 2 → lines_of n answers ≡ []
none_left n [] h = refl
none_left n (a ∷ []) h = refl
none_left n (a ∷ b ∷ answers) h = absurd (omega arith)

-- no number above 2 ^ 32 - 1 is wanted, so none goes round
pub not_round : (room n : ℕ) (answers : List ℕ) → n * 2 + length answers < 8589934592
    → fitting_lines_of room (n + 1) answers ≡ lines_of (n + 1) answers → fitting_lines_of room (next_of n) answers ≡ lines_of (n + 1) answers
not_round room n answers h e =
    by_test (ltb (n + 1) 4294967296)
    (λ t. let f = ltb-true (n + 1) 4294967296 t in let next : next_of n ≡ n + 1 = omega arith in rw next e)
    (λ t. let f = ltb-false (n + 1) 4294967296 t in lines_end room (next_of n) answers (omega arith) ∙ sym (none_left (n + 1) answers (omega arith)))

-- room for 17 bytes a pair
pub lines_all : (room n : ℕ) (answers : List ℕ) → length answers * 17 ≤ room * 2 → n * 2 + length answers ≤ 8589934592
    → fitting_lines_of room n answers ≡ lines_of n answers
lines_all room n [] h k = lines_end room n [] (omega arith)
lines_all room n (a ∷ []) h k = lines_end room n (a ∷ []) (omega arith)
lines_all room n (a ∷ b ∷ answers) h k =
    let line : List ℕ = line_of n a b in
    let left : ℕ = room - length line in
    let l = line_short n a b in
    lines_on room n a b answers (omega arith)
    ∙ ap (λ (m : List ℕ). line ++ m) (not_round left n answers (omega arith) (lines_all left (n + 1) answers (omega arith) (omega arith)))

-- ---- lines joined

pub lines_append : (m n : ℕ) (xs ys : List ℕ) → m * 2 ≡ n * 2 + length xs → lines_of n (xs ++ ys) ≡ lines_of n xs ++ lines_of m ys
lines_append m n [] ys e = let same : m ≡ n = omega arith in rw same
lines_append m n (a ∷ []) ys e = absurd (omega arith)
lines_append m n (a ∷ b ∷ xs) ys e =
    ap (λ (l : List ℕ). line_of n a b ++ l) (lines_append m (n + 1) xs ys (omega arith))
    ∙ sym (append_assoc (line_of n a b) (lines_of (n + 1) xs) (lines_of m ys))
