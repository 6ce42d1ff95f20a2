-- The step after a reading is the highest entry that stands, `step_exactly`. It never changes when the same reading comes twice, `same_reading`; a hotter
-- reading never gives a lower step from the same earlier step, `hotter`; without hysteresis the earlier step does not matter, `no_hysteresis`.
-- Assumes nothing.
use mathlib.Core.Path.{◌≡◌, refl, sym, ◌∙◌}
use mathlib.Core.Logic.{◌↔◌, ◌⊎◌, inl, inr, ⊎_elim}
use mathlib.Core.Bool.{Bool, true, false, ◌&&◌}
use mathlib.Core.List.{List}
use Prim.Native.Nat.{ℕ, zero, suc, ◌≤◌, ◌<◌}
use native.Mathlib.Nat.{le_refl, le_trans}
use native.Mathlib.Omega.{arith}
use lib.Dec.{leb, ltb}
use lib.IntN.{ℤ, pos, ◌+ℤ◌, ◌-ℤ◌}
use lib.Signed.{le_z, ◌≤ℤ◌}
use borrow.Author.Tests.{leb-true, leb-false, le-leb, lt-leb, ltb-true, ltb-false}
use Rattle.laws.proofs.Choices.{clash, by_test, and_left, and_right, or_left, or_right}
use Rattle.fan.specs.Table.{temperature_of, reaches, stands_of, entry_stands, Highest, highest, step_of}
use Rattle.fan.proofs.Entries.{is_highest, highest_exactly}
use Rattle.fan_laws.specs.Ranges.{NeverFalls}
use Rattle.fan_laws.proofs.Order.{less_plus, less_still, less_none, reading_itself, hotter_test, test_hotter, hotter_still}

-- ---- the highest of two tests

-- where the second holds wherever the first does, its highest is no lower
no_lower : (f g : ℕ → Bool) (n : ℕ) → ((k : ℕ) → 0 < k → f k ≡ true → g k ≡ true) → highest f n ≤ highest g n
no_lower f g n also =
    by_test (ltb (highest g n) (highest f n))
    (λ t.
    let l = ltb-true (highest g n) (highest f n) t in
    let p : 0 < highest f n = omega arith in
    clash (sym ((is_highest g n).above (highest f n) l (is_highest f n).within) ∙ also (highest f n) p ((is_highest f n).holds p)))
    (λ t. ltb-false (highest g n) (highest f n) t)

-- ---- an entry that stands

-- at a hotter reading, of a lower temperature, with a larger hysteresis, up to a higher step, it stands too
still_stands : (t u g h : ℕ) (p q : Bool) (r s : ℤ) → u ≤ t → g ≤ h → (p ≡ true → q ≡ true) → le_z r s ≡ true
    → stands_of t g p r ≡ true → stands_of u h q s ≡ true
unfolding stands_of
still_stands t u g h p q r s l m up_to hotter e =
    by_test (reaches r (pos t)) plain
    (λ k. less (rw k at e))
  where
    plain : reaches r (pos t) ≡ true → stands_of u h q s ≡ true
    plain k =
        let lower = sym (less_none u r) ∙ less_still t u 0 0 l (omega arith) r (less_none t r ∙ k) in
        or_left (reaches s (pos u)) (q && reaches s (pos u -ℤ pos h)) (hotter_still (pos u) r s hotter lower)

    less : (p && reaches r (pos t -ℤ pos g)) ≡ true → stands_of u h q s ≡ true
    less k =
        let lower = less_still t u g h l m r (and_right p (reaches r (pos t -ℤ pos g)) k) in
        or_right (reaches s (pos u)) (q && reaches s (pos u -ℤ pos h))
        (rw (up_to (and_left p (reaches r (pos t -ℤ pos g)) k)) (hotter_still (pos u -ℤ pos h) r s hotter lower))

-- without hysteresis it stands whatever the earlier step
plainly_stands : (t h : ℕ) (p q : Bool) (r : ℤ) → stands_of t 0 p r ≡ true → stands_of t h q r ≡ true
unfolding stands_of
plainly_stands t h p q r e =
    by_test (reaches r (pos t))
    (λ k. or_left (reaches r (pos t)) (q && reaches r (pos t -ℤ pos h)) k)
    (λ k. clash (sym k ∙ sym (less_none t r) ∙ and_right p (reaches r (pos t -ℤ pos 0)) (rw k at e)))

-- what it is to stand, without a test and without a difference: the reading is at or above the temperature, or, up to the earlier step, the reading plus
-- hysteresis is
pub stands_exactly : (t h : ℕ) (up_to : Bool) (r : ℤ) → (stands_of t h up_to r ≡ true) ↔ ((pos t ≤ℤ r) ⊎ ((up_to ≡ true) × (pos t ≤ℤ (r +ℤ pos h))))
unfolding stands_of
stands_exactly t h up_to r = (apart, ⊎_elim plain less)
  where
    apart : stands_of t h up_to r ≡ true → (pos t ≤ℤ r) ⊎ ((up_to ≡ true) × (pos t ≤ℤ (r +ℤ pos h)))
    apart e =
        by_test (reaches r (pos t)) (λ k. inl (test_hotter (pos t) r k))
        (λ k.
        let both = rw k at e in
        let reached = sym (less_plus t h r) ∙ and_right up_to (reaches r (pos t -ℤ pos h)) both in
        inr (and_left up_to (reaches r (pos t -ℤ pos h)) both, test_hotter (pos t) (r +ℤ pos h) reached))

    plain : pos t ≤ℤ r → stands_of t h up_to r ≡ true
    plain k = or_left (reaches r (pos t)) (up_to && reaches r (pos t -ℤ pos h)) (hotter_test (pos t) r k)

    less : (up_to ≡ true) × (pos t ≤ℤ (r +ℤ pos h)) → stands_of t h up_to r ≡ true
    less k =
        or_right (reaches r (pos t)) (up_to && reaches r (pos t -ℤ pos h))
        (rw k.0 (less_plus t h r ∙ hotter_test (pos t) (r +ℤ pos h) k.1))

-- ---- the step

module _ (table : List (List ℕ)) where
  -- the highest entry that stands, or 0 where none does
  pub step_exactly : (h e : ℕ) (r : ℤ) (s : ℕ) → (step_of table h e r ≡ s) ↔ Highest (entry_stands table h e r) 8 s
  unfolding step_of
  step_exactly h e r = highest_exactly (entry_stands table h e r) 8

  stands_at : (h e : ℕ) (r : ℤ) → Highest (entry_stands table h e r) 8 (step_of table h e r)
  stands_at h e r = (step_exactly h e r (step_of table h e r)).0 refl

  -- a step that is no lower, for a larger hysteresis, a higher earlier step or a hotter reading
  no_lower_step : (g h d e : ℕ) (r s : ℤ) → g ≤ h → d ≤ e → le_z r s ≡ true → step_of table g d r ≤ step_of table h e s
  unfolding step_of
  no_lower_step g h d e r s l m hotter =
      no_lower (entry_stands table g d r) (entry_stands table h e s) 8
      (λ k p.
      still_stands (temperature_of table k) (temperature_of table k) g h (leb k d) (leb k e) r s (omega arith) l
      (λ u. le-leb k e (omega (arith, leb-true k d u))) hotter)

  -- a hotter reading never gives a lower step from the same earlier step
  pub hotter : (h e : ℕ) (r s : ℤ) → r ≤ℤ s → step_of table h e r ≤ step_of table h e s
  hotter h e r s l = no_lower_step h h e e r s (omega arith) (omega arith) (hotter_test r s l)

  -- nor does a higher earlier step, or a larger hysteresis
  pub from_higher : (h d e : ℕ) (r : ℤ) → d ≤ e → step_of table h d r ≤ step_of table h e r
  from_higher h d e r l = no_lower_step h h d e r r (omega arith) l (reading_itself r)

  pub held_longer : (g h e : ℕ) (r : ℤ) → g ≤ h → step_of table g e r ≤ step_of table h e r
  held_longer g h e r l = no_lower_step g h e e r r l (omega arith) (reading_itself r)

  plainly : (d e : ℕ) (r : ℤ) → step_of table 0 d r ≤ step_of table 0 e r
  unfolding step_of
  plainly d e r =
      no_lower (entry_stands table 0 d r) (entry_stands table 0 e r) 8
      (λ k p. plainly_stands (temperature_of table k) 0 (leb k d) (leb k e) r)

  -- without hysteresis the earlier step does not matter
  pub no_hysteresis : (d e : ℕ) (r : ℤ) → step_of table 0 d r ≡ step_of table 0 e r
  no_hysteresis d e r = omega (arith, plainly d e r, plainly e d r)

  -- above the earlier step an entry that does not stand from another, with whatever hysteresis, does not stand
  not_above : (g h d e k : ℕ) (r : ℤ) → e < k → entry_stands table g d r k ≡ false → entry_stands table h e r k ≡ false
  unfolding stands_of
  not_above g h d e k r l n =
      by_test (reaches r (pos (temperature_of table k)))
      (λ t. clash (sym n ∙ or_left _ _ t))
      (λ t. rw (t, lt-leb k e l))

  -- a step stays if it stands, and the earlier step is no higher
  stays : (g h d e : ℕ) (r : ℤ) → e ≤ step_of table g d r → (0 < step_of table g d r → entry_stands table h e r (step_of table g d r) ≡ true)
      → step_of table h e r ≡ step_of table g d r
  stays g h d e r l holds =
      let top = stands_at g d r in
      (step_exactly h e r (step_of table g d r)).1
      (record { within = top.within; holds = holds; above = λ k m n. not_above g h d e k r (omega arith) (top.above k m n) })

  -- the step never changes when the same reading comes twice
  pub same_reading : (h e : ℕ) (r : ℤ) → step_of table h (step_of table h e r) r ≡ step_of table h e r
  same_reading h e r =
      let s = step_of table h e r in
      let t = temperature_of table s in
      stays h h e s r (omega arith)
      (λ p.
      still_stands t t h h (leb s e) (leb s s) r r (omega arith) (omega arith) (λ u. le-leb s s (omega arith)) (reading_itself r)
      ((stands_at h e r).holds p))

  -- on the way up hysteresis does not matter: from a step that the reading reaches without it, or from a lower one
  pub way_up : (h e : ℕ) (r : ℤ) → e ≤ step_of table 0 e r → step_of table h e r ≡ step_of table 0 e r
  way_up h e r l =
      let s = step_of table 0 e r in
      stays 0 h e e r l (λ p. plainly_stands (temperature_of table s) h (leb s e) (leb s e) r ((stands_at 0 e r).holds p))

  -- ---- a table whose temperatures do not fall

  higher : NeverFalls table → (k s : ℕ) → 0 < k → k ≤ s → s ≤ 8 → temperature_of table k ≤ temperature_of table s
  higher rising k zero p l m = absurd (omega arith)
  higher rising k (suc s) p l m =
      by_test (leb k s)
      (λ t. let n = leb-true k s t in le_trans (higher rising k s p n (omega arith)) (rising.each s (omega arith) (omega arith)))
      (λ t. let q : k ≡ suc s = omega (arith, leb-false k s t) in rw q (le_refl _))

  -- the step is at least k exactly if entry k stands: entries up to the step stand, and none above it
  pub at_least : NeverFalls table → (h e : ℕ) (r : ℤ) (k : ℕ) → 0 < k → k ≤ 8 → (k ≤ step_of table h e r) ↔ (entry_stands table h e r k ≡ true)
  at_least rising h e r k p l = (stood, reached)
    where
      s : ℕ
      s = step_of table h e r

      stood : k ≤ step_of table h e r → entry_stands table h e r k ≡ true
      stood n =
          let top = stands_at h e r in
          still_stands (temperature_of table s) (temperature_of table k) h h (leb s e) (leb k e) r r
          (higher rising k s p n top.within) (omega arith) (λ u. le-leb k e (omega (arith, leb-true s e u))) (reading_itself r)
          (top.holds (omega arith))

      reached : entry_stands table h e r k ≡ true → k ≤ step_of table h e r
      reached t =
          by_test (leb k s) (λ n. leb-true k s n) (λ n. clash (sym ((stands_at h e r).above k (leb-false k s n) l) ∙ t))
