-- Where each named setting stands among the fourteen bytes, that every position is below 14 and every address below 80h.
-- Assumes nothing.
use mathlib.Core.Path.{◌≡◌, refl, ap, ◌∙◌}
use mathlib.Core.Bool.{Bool, true, false, ◌||◌, cond}
use mathlib.Core.List.{List, [], ◌∷◌, map}
use Prim.Native.Nat.{ℕ, suc, ◌+◌, ◌-◌, ◌≤◌, ◌<◌}
use native.Mathlib.Omega.{arith}
use lib.Dec.{eqb, lit<}
use lib.ListN.{get_or, set, length}
use borrow.Author.Tests.{eqb-true}
use Rattle.laws.proofs.Choices.{by_test, clash, or_right}
use Rattle.laws.proofs.Tables.{agree}
use Rattle.std.specs.Prelude.{Option, Some, None}
use Rattle.registers.specs.Page.{w_set, Settable, settable, among, find, on_position, setting_of, changed_of, read_position_of, write_position_of}
use Rattle.registers.specs.Page.{settable_of, read_at_of, one_shot, kept_of, known_of, readable_of, writable_of, address_of}

module _ (s : List ℕ) where
  pub configuration : setting_of s 0x03 ≡ get_or s 0 0
  unfolding setting_of read_position_of
  configuration = refl

  pub local_high : setting_of s 0x05 ≡ get_or s 2 0
  unfolding setting_of read_position_of
  local_high = refl

  pub local_low : setting_of s 0x06 ≡ get_or s 3 0
  unfolding setting_of read_position_of
  local_low = refl

  pub remote_high : setting_of s 0x07 ≡ get_or s 4 0
  unfolding setting_of read_position_of
  remote_high = refl

  pub remote_low : setting_of s 0x08 ≡ get_or s 5 0
  unfolding setting_of read_position_of
  remote_low = refl

  pub offset : setting_of s 0x11 ≡ get_or s 6 0
  unfolding setting_of read_position_of
  offset = refl

  pub offset_part : setting_of s 0x12 ≡ get_or s 7 0
  unfolding setting_of read_position_of
  offset_part = refl

  pub remote_high_part : setting_of s 0x13 ≡ get_or s 8 0
  unfolding setting_of read_position_of
  remote_high_part = refl

  pub remote_low_part : setting_of s 0x14 ≡ get_or s 9 0
  unfolding setting_of read_position_of
  remote_low_part = refl

  pub remote_crit : setting_of s 0x19 ≡ get_or s 10 0
  unfolding setting_of read_position_of
  remote_crit = refl

  pub local_crit : setting_of s 0x20 ≡ get_or s 11 0
  unfolding setting_of read_position_of
  local_crit = refl

  pub hysteresis : setting_of s 0x21 ≡ get_or s 12 0
  unfolding setting_of read_position_of
  hysteresis = refl

  pub filter_alert : setting_of s 0xBF ≡ get_or s 13 0
  unfolding setting_of read_position_of
  filter_alert = refl

  pub change_configuration : (b : ℕ) → changed_of s 0x03 b ≡ set s 0 b
  unfolding changed_of read_position_of
  change_configuration b = refl

-- ---- positions

-- what is found at position i of a list that begins at n is the list's entry there, and i is in the list
pub record Found (x n i : ℕ) (l : List ℕ) : Type 0 where
  pub from : n ≤ i
  pub below : i < n + length l
  pub entry : x ≡ get_or l (i - n) 0

found : (x n : ℕ) (l : List ℕ) (i : ℕ) → find x n l ≡ Some i → Found x n i l
found x n [] i e = let z : ◌≡◌ {A = ℕ} 0 1 = cc in absurd (omega arith)
found x n (y ∷ ys) i e = by_test (eqb x y) (λ t. here t (rw t at e)) (λ t. there (found x (suc n) ys i (rw t at e)))
  where
    here : eqb x y ≡ true → Some n ≡ Some i → Found x n i (y ∷ ys)
    here t q =
        let same : n ≡ i = cc in
        let none : i - n ≡ 0 = omega arith in
        record { from = omega arith; below = omega arith; entry = rw none (eqb-true x y t) }

    there : Found x (suc n) i ys → Found x n i (y ∷ ys)
    there f =
        let one : i - n ≡ suc (i - suc n) = omega (arith, f.from) in
        record { from = omega (arith, f.from); below = omega (arith, f.below); entry = rw one f.entry }

abbrev write_addresses : List ℕ
write_addresses = map (λ (s : Settable). s.write) settable

pub write_below : (w i : ℕ) → write_position_of w ≡ Some i → i < 14
unfolding write_position_of
write_below w i e = (found w 0 write_addresses i e).below

pub read_below : (r i : ℕ) → read_position_of r ≡ Some i → i < 14
unfolding read_position_of
read_below r i e = (found r 0 (map (λ (s : Settable). s.read) settable) i e).below

-- a settable register stands at its write address
write_entry : (w i : ℕ) → write_position_of w ≡ Some i → w ≡ get_or write_addresses i 0
unfolding write_position_of
write_entry w i e = let whole : i - 0 ≡ i = omega arith in rw whole at (found w 0 write_addresses i e).entry

-- the mask at a position of the fourteen
abbrev pub kept_at : ℕ → ℕ
kept_at i = get_or (map (λ (s : Settable). s.kept) settable) i 0

-- the mask of a register is the one at its position
pub write_kept : (w i : ℕ) → write_position_of w ≡ Some i → kept_of w ≡ kept_at i
unfolding kept_of
write_kept w i e =
    ap kept_of (write_entry w i e) ∙ agree (λ k. kept_of (get_or write_addresses k 0)) kept_at 14 refl i (write_below w i e)

-- a settable register is in W
pub write_writable : (w i : ℕ) → write_position_of w ≡ Some i → writable_of w ≡ true
unfolding writable_of
write_writable w i e =
    ap writable_of (write_entry w i e) ∙ agree (λ k. writable_of (get_or write_addresses k 0)) (λ k. true) 14 refl i (write_below w i e)

pub write_known : (w i : ℕ) → write_position_of w ≡ Some i → known_of w ≡ true
unfolding known_of
write_known w i e = or_right (readable_of w) (writable_of w) (write_writable w i e)

-- ---- a write, by register numbers and by position

-- the register written at w is read at `read_at_of w`, where its byte stands
pub write_read : (w i : ℕ) → write_position_of w ≡ Some i → read_position_of (read_at_of w) ≡ Some i
unfolding read_at_of read_position_of
write_read w i e =
    ap (λ (x : ℕ). read_position_of (read_at_of x)) (write_entry w i e)
    ∙ agree (λ k. read_position_of (read_at_of (get_or write_addresses k 0))) (λ k. Some k) 14 refl i (write_below w i e)

pub write_changed : (s : List ℕ) (w i b : ℕ) → write_position_of w ≡ Some i → changed_of s (read_at_of w) b ≡ set s i b
unfolding changed_of
write_changed s w i b e = ap (λ (p : Option ℕ). on_position p (λ j. set s j b) s) (write_read w i e)

-- 0F holds no byte
pub write_not_shot : (w i : ℕ) → write_position_of w ≡ Some i → eqb w one_shot ≡ false
write_not_shot w i e =
    ap (λ (x : ℕ). eqb x one_shot) (write_entry w i e)
    ∙ agree (λ k. eqb (get_or write_addresses k 0) one_shot) (λ k. false) 14 refl i (write_below w i e)

-- an entry of a list is at some place of it
record Entry (x : ℕ) (l : List ℕ) : Type 0 where
  place : ℕ
  inside : place < length l
  there : x ≡ get_or l place 0

entry_of : (x : ℕ) (l : List ℕ) → among x l ≡ true → Entry x l
entry_of x [] e = clash e
entry_of x (y ∷ ys) e =
    by_test (eqb x y) (λ t. record { place = 0; inside = omega arith; there = eqb-true x y t })
    (λ t. behind (entry_of x ys (rw t at e)))
  where
    behind : Entry x ys → Entry x (y ∷ ys)
    behind f = record { place = suc f.place; inside = omega (arith, f.inside); there = f.there }

abbrev pub somewhere : Option ℕ → Bool
somewhere (Some i) = true
somewhere None = false

-- a writable register has a position, but for 0F
pub write_somewhere : (w : ℕ) → writable_of w ≡ true → (eqb w one_shot || somewhere (write_position_of w)) ≡ true
unfolding writable_of write_position_of
write_somewhere w e =
    let f = entry_of w w_set e in
    ap (λ (x : ℕ). eqb x one_shot || somewhere (write_position_of x)) f.there
    ∙ agree (λ k. eqb (get_or w_set k 0) one_shot || somewhere (write_position_of (get_or w_set k 0))) (λ k. true) 15 refl f.place f.inside

-- so what is writable and has none is 0F
pub write_shot : (w : ℕ) → writable_of w ≡ true → write_position_of w ≡ None → eqb w one_shot ≡ true
write_shot w e n = by_test (eqb w one_shot) (λ t. t) (λ t. clash (rw (t, n) at (write_somewhere w e)))

-- and every other has one
pub record Placed (w : ℕ) : Type 0 where
  pub place : ℕ
  pub there : write_position_of w ≡ Some place

pub write_placed : (w : ℕ) → writable_of w ≡ true → eqb w one_shot ≡ false → Placed w
write_placed w e n = split (write_position_of w) refl (rw n at (write_somewhere w e))
  where
    split : (p : Option ℕ) → write_position_of w ≡ p → somewhere p ≡ true → Placed w
    split (Some i) q t = record { place = i; there = q }
    split None q t = clash t

-- ---- a read, by register numbers and by position

find_among : (x n : ℕ) (l : List ℕ) → somewhere (find x n l) ≡ among x l
find_among x n [] = refl
find_among x n (y ∷ ys) = by_test (eqb x y) (λ t. rw t) (λ t. rw t (find_among x (suc n) ys))

pub settable_position : (r : ℕ) → somewhere (read_position_of r) ≡ settable_of r
unfolding settable_of read_position_of
settable_position r = find_among r 0 (map (λ (s : Settable). s.read) settable)

-- ---- addresses

pub address_below : (v : ℕ) → address_of v < 0x80
unfolding address_of
address_below v = split (eqb v 1)
  where
    split : (t : Bool) → cond t 0x4C 0x4D < 0x80
    split true = lit< tt
    split false = lit< tt
