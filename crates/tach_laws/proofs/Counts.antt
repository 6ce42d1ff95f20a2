-- The list of the places at which a test holds: how many there are is one number, `one_count`, and it is the one that is counted, `counted`.
-- Assumes nothing.
use mathlib.Core.Path.{◌≡◌, refl, sym, ap, subst, ◌∙◌}
use mathlib.Core.Logic.{◌⊎◌, inl, inr, ⊎_elim}
use mathlib.Core.Bool.{Bool, true, false, cond}
use mathlib.Core.List.{List, [], ◌∷◌}
use Prim.Native.Nat.{ℕ, zero, suc, ◌+◌, ◌<◌, ◌≤◌}
use native.Mathlib.Omega.{arith}
use lib.Dec.{ltb, eqb}
use lib.ListN.{length, get_or}
use borrow.Author.Tests.{eqb-true, eqb-false, ltb-true, lt-ltb}
use Rattle.laws.proofs.Choices.{clash, by_test}
use Rattle.tach.specs.Tach.{under_of}
use Rattle.tach_laws.specs.Places.{In, RisingFrom, CountOf}

-- ---- one number

-- what is in a rising list is not below its least
not_below : (least i : ℕ) (l : List ℕ) → RisingFrom least l → In i l → least ≤ i
not_below least i [] r m = absurd m
not_below least i (k ∷ rest) r (inl e) = omega (arith, r.0, e)
not_below least i (k ∷ rest) r (inr m) = omega (arith, r.0, not_below (suc k) i rest r.1 m)

-- behind the first: what is in one rising list and in another with the same first is behind it there too
behind_first : (k i : ℕ) (l m : List ℕ) → RisingFrom (suc k) l → In i l → In i (k ∷ m) → In i m
behind_first k i l m r x (inl e) = absurd (omega (arith, not_below (suc k) i l r x, e))
behind_first k i l m r x (inr y) = y

-- the first of one rising list is not above that of another in which it is
first_not_above : (least j k : ℕ) (m : List ℕ) → RisingFrom least (k ∷ m) → In j (k ∷ m) → k ≤ j
first_not_above least j k m r (inl e) = omega arith
first_not_above least j k m r (inr x) = omega (arith, not_below (suc k) j m r.1 x)

-- two rising lists of the same places are as long as each other
same_length : (p q : ℕ) (l m : List ℕ) → RisingFrom p l → RisingFrom q m
    → ((i : ℕ) → In i l → In i m) → ((i : ℕ) → In i m → In i l) → length l ≡ length m
same_length p q [] [] r s f g = refl
same_length p q [] (k ∷ m) r s f g = absurd (g k (inl refl))
same_length p q (j ∷ l) [] r s f g = absurd (f j (inl refl))
same_length p q (j ∷ l) (k ∷ m) r s f g =
    let up = first_not_above q j k m s (f j (inl refl)) in
    let down = first_not_above p k j l r (g k (inl refl)) in
    let e : j ≡ k = omega (arith, up, down) in
    let t : RisingFrom (suc j) m = subst (λ (n : ℕ). RisingFrom (suc n) m) (sym e) s.1 in
    ap suc
    (same_length (suc j) (suc j) l m r.1 t
    (λ i x. behind_first j i l m r.1 x (subst (λ (n : ℕ). In i (n ∷ m)) (sym e) (f i (inr x))))
    (λ i x. behind_first j i m l t x (g i (inr x))))

pub one_count : (P : ℕ → Type 0) (n a b : ℕ) → CountOf P n a → CountOf P n b → a ≡ b
one_count P n a b x y =
    sym x.many
    ∙ same_length 0 0 x.places y.places x.rising y.rising (λ i m. (y.those i).1 ((x.those i).0 m)) (λ i m. (x.those i).1 ((y.those i).0 m))
    ∙ y.many

-- ---- the list of them

-- a place before others, if its test holds
abbrev put : Bool → ℕ → List ℕ → List ℕ
put true k l = k ∷ l
put false k l = l

put_rising : (t : Bool) (k : ℕ) (l : List ℕ) → RisingFrom (suc k) l → RisingFrom k (put t k l)
put_rising true k l r = (omega arith, r)
put_rising false k [] r = tt
put_rising false k (j ∷ l) r = (omega (arith, r.0), r.1)

put_many : (t : Bool) (k : ℕ) (l : List ℕ) → length (put t k l) ≡ cond t 1 0 + length l
put_many true k l = omega arith
put_many false k l = omega arith

put_first : (t : Bool) (k : ℕ) (l : List ℕ) → t ≡ true → In k (put t k l)
put_first true k l e = inl refl
put_first false k l e = clash e

put_behind : (t : Bool) (k i : ℕ) (l : List ℕ) → In i l → In i (put t k l)
put_behind true k i l m = inr m
put_behind false k i l m = m

put_only : (t : Bool) (k i : ℕ) (l : List ℕ) → In i (put t k l) → ((i ≡ k) × (t ≡ true)) ⊎ In i l
put_only true k i l (inl e) = inl (e, refl)
put_only true k i l (inr m) = inr m
put_only false k i l m = inr m

-- of n places from k on, those at which a test holds
abbrev found : (ℕ → Bool) → ℕ → ℕ → List ℕ
found f k zero = []
found f k (suc n) = put (f k) k (found f (suc k) n)

module _ (f : ℕ → Bool) where
  found_rising : (n k : ℕ) → RisingFrom k (found f k n)
  found_rising zero k = tt
  found_rising (suc n) k = put_rising (f k) k (found f (suc k) n) (found_rising n (suc k))

  found_only : (n k i : ℕ) → In i (found f k n) → (i < k + n) × (f i ≡ true)
  found_only zero k i m = absurd m
  found_only (suc n) k i m =
      ⊎_elim
      (λ e. (omega (arith, e.0), ap f e.0 ∙ e.1))
      (λ x. let h = found_only n (suc k) i x in (omega (arith, h.0), h.1))
      (put_only (f k) k i (found f (suc k) n) m)

  found_all : (n k i : ℕ) → k ≤ i → i < k + n → f i ≡ true → In i (found f k n)
  found_all zero k i l h t = absurd (omega arith)
  found_all (suc n) k i l h t =
      by_test (eqb i k)
      (λ e.
      let same = eqb-true i k e in
      subst (λ (j : ℕ). In j (put (f k) k (found f (suc k) n))) (sym same) (put_first (f k) k (found f (suc k) n) (ap f (sym same) ∙ t)))
      (λ e. put_behind (f k) k i (found f (suc k) n) (found_all n (suc k) i (omega (arith, eqb-false i k e)) (omega arith) t))

-- the places are as many if all are one further on
found_shifted : (f : ℕ → Bool) (n k : ℕ) → length (found f (suc k) n) ≡ length (found (λ (i : ℕ). f (suc i)) k n)
found_shifted f zero k = refl
found_shifted f (suc n) k =
    put_many (f (suc k)) (suc k) (found f (suc (suc k)) n)
    ∙ ap (λ (m : ℕ). cond (f (suc k)) 1 0 + m) (found_shifted f n (suc k))
    ∙ sym (put_many (f (suc k)) k (found (λ (i : ℕ). f (suc i)) (suc k) n))

-- ---- under the floor

abbrev is_under : ℕ → List ℕ → ℕ → Bool
is_under floor speeds i = ltb (get_or speeds i 0) floor

under_found : (floor : ℕ) (speeds : List ℕ) → length (found (is_under floor speeds) 0 (length speeds)) ≡ under_of floor speeds
unfolding under_of
under_found floor [] = refl
under_found floor (v ∷ rest) =
    put_many (ltb v floor) 0 (found (is_under floor (v ∷ rest)) 1 (length rest))
    ∙ ap (λ (m : ℕ). cond (ltb v floor) 1 0 + m) (found_shifted (is_under floor (v ∷ rest)) (length rest) 0 ∙ under_found floor rest)

pub counted : (floor : ℕ) (speeds : List ℕ) → CountOf (λ (i : ℕ). get_or speeds i 0 < floor) (length speeds) (under_of floor speeds)
counted floor speeds =
    let n = length speeds in
    let f = is_under floor speeds in
    record {
      places = found f 0 n;
      rising = found_rising f n 0;
      those =
          λ i. (
            (λ m. let h = found_only f n 0 i m in (omega (arith, h.0), ltb-true (get_or speeds i 0) floor h.1)),
            (λ h. found_all f n 0 i (omega arith) (omega (arith, h.0)) (lt-ltb (get_or speeds i 0) floor h.1)),
          );
      many = under_found floor speeds;
    }
