-- Entries up to a number: the highest that a test holds of, `highest_exactly`, and whether it holds of some, `found` and `not_found`, one entry more at a
-- time, `some_more`. What src/table.rt finds of a table's places is so of its entries: `some_out`, `last_stands`.
-- Assumes nothing.
use mathlib.Core.Path.{◌≡◌, refl, sym, ◌∙◌}
use mathlib.Core.Logic.{◌↔◌}
use mathlib.Core.List.{List, [], ◌∷◌}
use mathlib.Core.Bool.{Bool, true, false, ◌||◌}
use Prim.Native.Nat.{ℕ, zero, suc, ◌+◌, ◌*◌, ◌≤◌, ◌<◌}
use native.Mathlib.Numerals.{add-one}
use native.Mathlib.Omega.{arith}
use lib.Dec.{leb, ltb}
use lib.ListN.{get_or, length, take}
use lib.IntN.{ℤ}
use borrow.Author.Tests.{leb-true, leb-false, ltb-true, ltb-false}
use Rattle.laws.proofs.Choices.{clash, cond_ind, by_test}
use Rattle.laws.proofs.Exactly.{by_lines}
use Rattle.std.specs.Prelude.{Option, None, Some, IfNone, IfSome}
use Rattle.std.specs.Option.{option_map_or}
use Rattle.std.specs.List.{list_any}
use Rattle.std.specs.Simd.{first_chunks}
use Rattle.std.proofs.lemmas.List.{get_or_past, take_all}
use Rattle.std.proofs.lemmas.List.Folds.{list_any_more}
use Rattle.fan.specs.Table.{table_of, temperature_of, value_of, entry_stands, Highest, highest, step_of, some_of, out_of}

pub neither : (a b : Bool) → (a || b) ≡ false → (a ≡ false) × (b ≡ false)
neither true b e = clash (sym e)
neither false b e = (refl, e)

module _ (f : ℕ → Bool) where
  -- ---- one entry more

  pub some_more : (n : ℕ) → some_of f (n + 1) ≡ (some_of f n || f (suc n))
  unfolding some_of
  some_more n = rw (add-one n)

  -- ---- some entry

  pub record Found (n : ℕ) : Type 0 where
    pub entry : ℕ
    pub first : 0 < entry
    pub last : entry ≤ n
    pub so : f entry ≡ true

  pub found : (n : ℕ) → some_of f n ≡ true → Found n
  unfolding some_of
  found zero e = clash e
  found (suc n) e =
      by_test (f (suc n)) (λ t. record { entry = suc n; first = omega arith; last = omega arith; so = t })
      (λ t.
      by_test (some_of f n)
      (λ s. let r = found n s in record { entry = r.entry; first = r.first; last = omega (arith, r.last); so = r.so })
      (λ s. clash (rw (s, t) at e)))

  pub none_found : (n : ℕ) → some_of f n ≡ false → (k : ℕ) → 0 < k → k ≤ n → f k ≡ false
  unfolding some_of
  none_found zero e k p l = absurd (omega arith)
  none_found (suc n) e k p l =
      let each = neither (some_of f n) (f (suc n)) e in
      by_test (leb k n) (λ t. none_found n each.0 k p (leb-true k n t))
      (λ t. let q : k ≡ suc n = omega (arith, leb-false k n t) in rw q each.1)

  pub is_found : (n k : ℕ) → 0 < k → k ≤ n → f k ≡ true → some_of f n ≡ true
  is_found n k p l t = by_test (some_of f n) (λ s. s) (λ s. clash (sym (none_found n s k p l) ∙ t))

  pub not_found : (n : ℕ) → ((k : ℕ) → 0 < k → k ≤ n → f k ≡ false) → some_of f n ≡ false
  not_found n each = by_test (some_of f n) (λ s. let r = found n s in clash (sym (each r.entry r.first r.last) ∙ r.so)) (λ s. s)

  -- ---- the highest

  -- none of the entries above s, with one more that is none
  none_above : (n s : ℕ) → ((k : ℕ) → s < k → k ≤ n → f k ≡ false) → f (suc n) ≡ false → (k : ℕ) → s < k → k ≤ suc n → f k ≡ false
  none_above n s above e k h j =
      by_test (leb k n)
      (λ t. above k h (leb-true k n t))
      (λ t. let q : k ≡ suc n = omega (arith, leb-false k n t) in rw q e)

  pub is_highest : (n : ℕ) → Highest f n (highest f n)
  unfolding highest
  is_highest zero = record { within = omega arith; holds = λ h. absurd (omega arith); above = λ k h j. absurd (omega arith) }
  is_highest (suc n) =
      let t = is_highest n in
      cond_ind (Highest f (suc n)) (f (suc n))
      (λ e. record { within = omega arith; holds = λ h. e; above = λ k h j. absurd (omega arith) })
      (λ e. record { within = omega (arith, t.within); holds = t.holds; above = none_above n (highest f n) t.above e })

  not_below : (n s t : ℕ) → Highest f n s → Highest f n t → s < t → ⊥
  not_below n s t a b h = clash (sym (a.above t h b.within) ∙ b.holds (omega arith))

  pub one_highest : (n s t : ℕ) → Highest f n s → Highest f n t → s ≡ t
  one_highest n s t a b =
      by_test (ltb s t) (λ h. absurd (not_below n s t a b (ltb-true s t h)))
      (λ h.
      by_test (ltb t s) (λ k. absurd (not_below n t s b a (ltb-true t s k)))
      (λ k. omega (arith, ltb-false s t h, ltb-false t s k)))

  pub highest_exactly : (n s : ℕ) → (highest f n ≡ s) ↔ Highest f n s
  highest_exactly n = by_lines (Highest f n) (highest f n) (is_highest n) (λ s. one_highest n (highest f n) s (is_highest n))

-- ---- what is asked of each entry of a table

abbrev pub falls_at : List (List ℕ) → ℕ → Bool
falls_at table k = ltb (temperature_of table (suc k)) (temperature_of table k)

abbrev pub out_at : List (List ℕ) → ℕ → Bool
out_at table k = ltb 127 (temperature_of table k) || ltb 63 (value_of table k)

-- ---- a table's places

-- an entry's two numbers
abbrev pub temperature : List ℕ → ℕ
temperature entry = get_or entry 0 0

abbrev pub value : List ℕ → ℕ
value entry = get_or entry 1 0

-- a pair of the bytes, cut from the front on
pair_at : (k i : ℕ) (bytes : List ℕ) → 2 * k ≤ length bytes → i < k
    → get_or (first_chunks 2 k bytes) i [] ≡ get_or bytes (2 * i) 0 ∷ get_or bytes (suc (2 * i)) 0 ∷ []
pair_at zero i bytes h l = absurd (omega arith)
pair_at (suc k) i [] h l = absurd (omega arith)
pair_at (suc k) i (a ∷ []) h l = absurd (omega arith)
pair_at (suc k) zero (a ∷ b ∷ rest) h l = refl
pair_at (suc k) (suc i) (a ∷ b ∷ rest) h l =
    let even : 2 * suc i ≡ suc (suc (2 * i)) = omega arith in
    rw even (pair_at k i rest (omega arith) (omega arith))

-- sixteen bytes by twos are the table
pub by_twos : (bytes : List ℕ) → length bytes ≡ 16 → first_chunks 2 8 bytes ≡ table_of bytes
by_twos bytes l =
    let at : (i : ℕ) → i < 8 → get_or (first_chunks 2 8 bytes) i [] ≡ get_or bytes (2 * i) 0 ∷ get_or bytes (suc (2 * i)) 0 ∷ [] =
    λ i h. pair_at 8 i bytes (omega arith) h in
    rw (at 0 (omega arith), at 1 (omega arith), at 2 (omega arith), at 3 (omega arith))
    (rw (at 4 (omega arith), at 5 (omega arith), at 6 (omega arith), at 7 (omega arith)))

-- the PWM value of a step is that of the entry at the place before it, or 0
pub value_listed : (xs : List (List ℕ)) (step n : ℕ) → (step ≡ 0 → n ≡ 0) → ((i : ℕ) → step ≡ i + 1 → i < length xs → n ≡ value (get_or xs i []))
    → ((i : ℕ) → step ≡ i + 1 → length xs ≤ i → n ≡ 0) → n ≡ value_of xs step
value_listed xs zero n first some past = first refl
value_listed xs (suc i) n first some past =
    by_test (ltb i (length xs)) (λ t. some i (omega arith) (ltb-true _ _ t))
    (λ t. let h = ltb-false _ _ t in rw (get_or_past xs i [] h) (past i (omega arith) h))

-- where none stands the step is 0
none_stands : (xs : List (List ℕ)) (h e : ℕ) (r : ℤ) → ((i : ℕ) → i < 8 → entry_stands xs h e r (suc i) ≡ false) → step_of xs h e r ≡ 0
unfolding step_of
none_stands xs h e r each =
    one_highest (entry_stands xs h e r) 8 _ 0 (is_highest (entry_stands xs h e r) 8)
    (record { within = omega arith; holds = λ p. absurd (omega arith); above = above })
  where
    above : (k : ℕ) → 0 < k → k ≤ 8 → entry_stands xs h e r k ≡ false
    above zero p q = absurd (omega arith)
    above (suc i) p q = each i (omega arith)

-- the last that stands is the step
last_stands : (xs : List (List ℕ)) (h e : ℕ) (r : ℤ) (last : ℕ) → last < 8 → entry_stands xs h e r (suc last) ≡ true
    → ((i : ℕ) → last < i → i < 8 → entry_stands xs h e r (suc i) ≡ false) → step_of xs h e r ≡ last + 1
unfolding step_of
last_stands xs h e r last p here each =
    rw (add-one last)
    (one_highest (entry_stands xs h e r) 8 _ (suc last) (is_highest (entry_stands xs h e r) 8)
    (record { within = omega arith; holds = λ q. here; above = above }))
  where
    above : (k : ℕ) → suc last < k → k ≤ 8 → entry_stands xs h e r k ≡ false
    above zero q m = absurd (omega arith)
    above (suc i) q m = each i (omega arith) (omega arith)

pub at_place : (xs : List (List ℕ)) (h e : ℕ) (r : ℤ) (place : Option ℕ) → IfNone place ((i : ℕ) → i < 8 → entry_stands xs h e r (suc i) ≡ false)
    → IfSome place (λ (last : ℕ). (last < 8) × (entry_stands xs h e r (suc last) ≡ true))
    → IfSome place (λ (last : ℕ). (i : ℕ) → last < i → i < 8 → entry_stands xs h e r (suc i) ≡ false)
    → step_of xs h e r ≡ option_map_or (λ (i : ℕ). i + 1) place 0
at_place xs h e r None each here above = none_stands xs h e r each
at_place xs h e r (Some last) each here above = last_stands xs h e r last here.0 here.1 above

-- some element passes exactly if the test of an entry holds of some
some_listed : {A : Type 0} (p : A → Bool) (f : ℕ → Bool) (xs : List A) (d : A) (n : ℕ) → n ≤ length xs
    → ((k : ℕ) → k < length xs → f (suc k) ≡ p (get_or xs k d)) → list_any p (take n xs) ≡ some_of f n
unfolding some_of
some_listed p f xs d zero h same = refl
some_listed p f xs d (suc n) h same =
    let more = rw (add-one n) at (list_any_more p xs n d (omega arith)) in
    more ∙ rw (some_listed p f xs d n (omega arith) same, same n (omega arith))

-- a step is an entry or none
pub step_within : (table : List (List ℕ)) (hysteresis earlier : ℕ) (reading : ℤ) → step_of table hysteresis earlier reading ≤ 8
unfolding step_of
step_within table hysteresis earlier reading = (is_highest (entry_stands table hysteresis earlier reading) 8).within

-- an entry is out of its range
abbrev pub out : List ℕ → Bool
out entry = ltb 127 (temperature entry) || ltb 63 (value entry)

-- some element is out of its range exactly if some entry is
pub some_out : (xs : List (List ℕ)) → length xs ≡ 8 → list_any out xs ≡ out_of xs
unfolding out_of
some_out xs l =
    let all = take_all 8 xs (omega (arith, l)) in
    rw all at (some_listed out (out_at xs) xs [] 8 (omega (arith, l)) (λ k h. refl))
