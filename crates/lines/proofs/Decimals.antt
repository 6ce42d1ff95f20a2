-- `decimal`: `decimal_of` writes a number below 10^10 in decimal. And `decimal_same`: as std's `{}` does.
-- Assumes nothing.
use Rattle.std.proofs.Common.{◌≡◌, ℕ, zero, suc, ◌+◌, ◌-◌, ◌*◌, ◌/◌, ◌<◌, ◌≤◌, eqb, List, [], ◌∷◌, map, length, get_or, drop, sym, refl, ap, ◌∙◌}
use Rattle.std.proofs.Common.{◌^◌, rules, div-add-mod', add-one, arith, length-drop, eq-eqb, ne_eqb, eqb-true}
use Rattle.std.specs.Fmt.{decimal as std_decimal}
use Rattle.std.proofs.lemmas.Fmt.{decimal-digits_value}
use Rattle.std.proofs.lemmas.Str.Parse.{IsNumeralModel, numerals_by_fold}
use native.Mathlib.Nat.{div-div-eq-div-mul}
use borrow.Author.Tests.{eqb-false}
use Rattle.laws.proofs.Choices.{by_test}
use Rattle.lines.specs.Lines.{digit_of, ten_digits, zeros_of, decimal_of}
use Rattle.lines.specs.Decimal.{Digits, read_of, Decimal}

-- ---- leading zeros

zeros_some : (d e : ℕ) (digits : List ℕ) → d ≡ 48 → zeros_of (d ∷ e ∷ digits) ≡ zeros_of (e ∷ digits) + 1
unfolding zeros_of
zeros_some d e digits h = simp (eq-eqb _ _ h)

zeros_none : (d e : ℕ) (digits : List ℕ) → (d ≡ 48 → ⊥) → zeros_of (d ∷ e ∷ digits) ≡ 0
unfolding zeros_of
zeros_none d e digits h = simp (ne_eqb _ _ h)

zeros_short : (digits : List ℕ) → length digits < 2 → zeros_of digits ≡ 0
unfolding zeros_of
zeros_short [] h = refl
zeros_short (d ∷ []) h = refl
zeros_short (d ∷ e ∷ digits) h = absurd (omega arith)

-- the last digit stands
zeros_within : (digits : List ℕ) → 0 < length digits → zeros_of digits < length digits
zeros_within [] h = absurd (omega arith)
zeros_within (d ∷ []) h = omega (arith, zeros_short (d ∷ []) (omega arith))
zeros_within (d ∷ e ∷ digits) h =
    by_test (eqb d 48) (λ t. omega (arith, zeros_some d e digits (eqb-true d 48 t), zeros_within (e ∷ digits) (omega arith)))
    (λ t. omega (arith, zeros_none d e digits (eqb-false d 48 t)))

-- ---- read back

-- a digit more
digit_more : (n m : ℕ) → n / (m * 10) * 10 + (digit_of (n / m) - 48) ≡ n / m
unfolding digit_of
digit_more n m = let e = div-div-eq-div-mul n m 10 in let f = div-add-mod' (n / m) 10 in omega arith

ten_value : (n : ℕ) → n < 10000000000 → read_of 0 (ten_digits n) ≡ n
ten_value n h =
    let highest : 0 + (digit_of (n / 1000000000) - 48) ≡ n / 1000000000 = let e = digit_more n 1000000000 in omega arith in
    let lowest : n / 10 * 10 + (digit_of n - 48) ≡ n = unfold digit_of in omega arith in
    let more = digit_more n in
    rw (highest, more 100000000, more 10000000, more 1000000, more 100000, more 10000, more 1000, more 100, more 10, lowest) refl

-- leading zeros add nothing
zeros_value : (digits : List ℕ) → read_of 0 (drop (zeros_of digits) digits) ≡ read_of 0 digits
zeros_value [] = rw (zeros_short [] (omega arith)) refl
zeros_value (d ∷ []) = rw (zeros_short (d ∷ []) (omega arith)) refl
zeros_value (d ∷ e ∷ digits) =
    by_test (eqb d 48)
    (λ t.
    let z = eqb-true d 48 t in
    rw (zeros_some d e digits z, add-one (zeros_of (e ∷ digits))) (zeros_value (e ∷ digits) ∙ rw z refl))
    (λ t. rw (zeros_none d e digits (eqb-false d 48 t)) refl)

-- ---- each byte a digit

digit_one : (n : ℕ) → (48 ≤ digit_of n) × (digit_of n ≤ 57)
unfolding digit_of
digit_one n = (omega arith, omega arith)

digits_all : (numbers : List ℕ) → Digits (map digit_of numbers)
digits_all [] = tt
digits_all (n ∷ numbers) = ((digit_one n).0, (digit_one n).1, digits_all numbers)

ten_each : (n : ℕ) → Digits (ten_digits n)
ten_each n =
    digits_all (n / 1000000000 ∷ n / 100000000 ∷ n / 10000000 ∷ n / 1000000 ∷ n / 100000 ∷ n / 10000 ∷ n / 1000 ∷ n / 100 ∷ n / 10 ∷ n ∷ [])

digits_drop : (k : ℕ) (digits : List ℕ) → Digits digits → Digits (drop k digits)
digits_drop zero digits p = p
digits_drop (suc k) [] p = tt
digits_drop (suc k) (d ∷ digits) p = digits_drop k digits p.2

-- ---- the first digit

zeros_leading : (digits : List ℕ) → get_or (drop (zeros_of digits) digits) 0 0 ≡ 48 → drop (zeros_of digits) digits ≡ 48 ∷ []
zeros_leading [] h = absurd (omega (arith, rw (zeros_short [] (omega arith)) at h))
zeros_leading (d ∷ []) h = let e = zeros_short (d ∷ []) (omega arith) in rw (e, rw e at h) refl
zeros_leading (d ∷ e ∷ digits) h =
    by_test (eqb d 48)
    (λ t.
    let z = zeros_some d e digits (eqb-true d 48 t) ∙ add-one (zeros_of (e ∷ digits)) in
    rw z (zeros_leading (e ∷ digits) (rw z at h)))
    (λ t. let z = zeros_none d e digits (eqb-false d 48 t) in absurd (eqb-false d 48 t (rw z at h)))

-- ---- the theorem

pub decimal : (n : ℕ) → n < 10000000000 → Decimal n (decimal_of n)
decimal n h =
    record {
      each = digits_drop (zeros_of (ten_digits n)) (ten_digits n) (ten_each n);
      value = zeros_value (ten_digits n) ∙ ten_value n h;
      leading = zeros_leading (ten_digits n);
    }

-- ---- what std writes

own : IsNumeralModel Digits (read_of 0)
own = numerals_by_fold Digits (search rules) read_of (search rules)

pub decimal_same : (n : ℕ) → n < 2 ^ 32 → std_decimal n ≡ decimal_of n
decimal_same n h =
    let digits = decimal_of n in
    let written = decimal n (omega arith) in
    let some : 0 < length digits = let z = zeros_within (ten_digits n) (omega arith) in simp length-drop (omega arith) in
    let one : get_or digits 0 0 ≡ 48 → length digits ≡ 1 = λ z. ap length (written.leading z) in
    sym (ap std_decimal written.value) ∙ decimal-digits_value own digits written.each some one (omega (arith, written.value))
