-- What a reading reaches, ordered by the reading, the temperature and the hysteresis. A temperature less hysteresis in whole numbers: `less_pos`, `less_neg`.
-- Assumes nothing.
use mathlib.Core.Path.{◌≡◌, refl, sym, subst, ◌∙◌}
use mathlib.Core.Bool.{true}
use Prim.Native.Nat.{ℕ, zero, suc, ◌+◌, ◌-◌, ◌≤◌}
use native.Mathlib.Omega.{arith}
use lib.Dec.{T, leb, ltb}
use lib.IntN.{ℤ, pos, negsuc, ◌+ℤ◌, ◌-ℤ◌}
use lib.Signed.{le_z, ◌≤ℤ◌}
use borrow.Author.Tests.{leb-true, le-leb, lt-leb, ltb-true, ltb-false}
use Rattle.laws.proofs.Choices.{clash, by_test}

-- two tests that say the same
same_test : (a b c d : ℕ) → (a ≤ b → c ≤ d) → (c ≤ d → a ≤ b) → leb a b ≡ leb c d
same_test a b c d f g =
    by_test (leb a b)
    (λ h. h ∙ sym (le-leb c d (f (leb-true a b h))))
    (λ h. by_test (leb c d) (λ k. clash (sym h ∙ le-leb a b (g (leb-true c d k)))) (λ k. h ∙ sym k))

-- ---- a temperature less hysteresis

-- at a reading of 0 or more
pub less_pos : (t h r : ℕ) → le_z (pos t -ℤ pos h) (pos r) ≡ leb t (r + h)
less_pos t zero r = same_test (t + 0) r t (r + 0) (λ k. omega arith) (λ k. omega arith)
less_pos t (suc h) r =
    by_test (ltb t (suc h))
    (λ e. let l = ltb-true t (suc h) e in rw e (sym (le-leb t (r + suc h) (omega arith))))
    (λ e. let l = ltb-false t (suc h) e in rw e (same_test (t - suc h) r t (r + suc h) (λ k. omega arith) (λ k. omega arith)))

-- at one below 0, of which `negsuc r` is -(r + 1)
pub less_neg : (t h r : ℕ) → le_z (pos t -ℤ pos h) (negsuc r) ≡ leb (t + suc r) h
less_neg t zero r = sym (lt-leb (t + suc r) 0 (omega arith))
less_neg t (suc h) r =
    by_test (ltb t (suc h))
    (λ e. let l = ltb-true t (suc h) e in rw e (same_test r (suc h - suc t) (t + suc r) (suc h) (λ k. omega arith) (λ k. omega arith)))
    (λ e. let l = ltb-false t (suc h) e in rw e (sym (lt-leb (t + suc r) (suc h) (omega arith))))

-- it is reached where the reading plus hysteresis reaches the temperature: neither sum nor difference wraps
pub less_plus : (t h : ℕ) (r : ℤ) → le_z (pos t -ℤ pos h) r ≡ le_z (pos t) (r +ℤ pos h)
less_plus t h (pos r) = less_pos t h r
less_plus t h (negsuc r) =
    less_neg t h r
    ∙ by_test (ltb h (suc r))
    (λ e. let l = ltb-true h (suc r) e in rw e (lt-leb (t + suc r) h (omega arith)))
    (λ e. let l = ltb-false h (suc r) e in rw e (same_test (t + suc r) h t (h - suc r) (λ k. omega arith) (λ k. omega arith)))

-- a lower temperature and a larger hysteresis are reached too
pub less_still : (t u g h : ℕ) → u ≤ t → g ≤ h → (r : ℤ) → le_z (pos t -ℤ pos g) r ≡ true → le_z (pos u -ℤ pos h) r ≡ true
less_still t u g h l m (pos r) e =
    let k = leb-true t (r + g) (sym (less_pos t g r) ∙ e) in
    less_pos u h r ∙ le-leb u (r + h) (omega arith)
less_still t u g h l m (negsuc r) e =
    let k = leb-true (t + suc r) g (sym (less_neg t g r) ∙ e) in
    less_neg u h r ∙ le-leb (u + suc r) h (omega arith)

-- without hysteresis
pub less_none : (t : ℕ) (r : ℤ) → le_z (pos t -ℤ pos 0) r ≡ le_z (pos t) r
less_none t (pos r) = same_test (t + 0) r t r (λ k. omega arith) (λ k. omega arith)
less_none t (negsuc r) = refl

-- ---- a hotter reading

pub reading_itself : (r : ℤ) → le_z r r ≡ true
reading_itself (pos r) = le-leb r r (omega arith)
reading_itself (negsuc r) = le-leb r r (omega arith)

pub hotter_test : (r s : ℤ) → r ≤ℤ s → le_z r s ≡ true
hotter_test r s h = by_test (le_z r s) (λ e. e) (λ e. absurd (subst T e h.le))

pub hotter_still : (z r s : ℤ) → le_z r s ≡ true → le_z z r ≡ true → le_z z s ≡ true
hotter_still (pos z) (pos r) (pos s) h e = le-leb z s (omega (arith, leb-true r s h, leb-true z r e))
hotter_still (pos z) (pos r) (negsuc s) h e = h
hotter_still (pos z) (negsuc r) s h e = clash e
hotter_still (negsuc z) (pos r) (pos s) h e = refl
hotter_still (negsuc z) (pos r) (negsuc s) h e = clash h
hotter_still (negsuc z) (negsuc r) (pos s) h e = refl
hotter_still (negsuc z) (negsuc r) (negsuc s) h e = le-leb s z (omega (arith, leb-true s r h, leb-true r z e))

pub test_hotter : (r s : ℤ) → le_z r s ≡ true → r ≤ℤ s
test_hotter r s e = record { le = subst T (sym e) tt }
