-- A register's byte changed, by register numbers: `setting_changed`, the byte of every register after one is changed; `changed_other` and
-- `changed_same`, two changes; `on_list`, two functions that agree on a printed list agree on each of its numbers; `and_assoc`, a mask of a
-- mask.
-- Assumes nothing.
use mathlib.Core.Path.{◌≡◌, refl, sym, ap, ◌∙◌}
use mathlib.Core.Bool.{true, false, cond}
use mathlib.Core.List.{List, [], ◌∷◌, map}
use Prim.Native.Nat.{ℕ, zero, suc, ◌/◌, ◌%◌, min, ◌<◌}
use native.Mathlib.Omega.{arith}
use lib.Arith.{bin_ind}
use lib.Bits.{bit_and, and_step}
use lib.Dec.{eqb}
use lib.ListN.{get_or, set, length}
use lib.Seq.{get_or-set_same, get_or-set_other, set_comm}
use borrow.Author.Tests.{eqb-true, eqb-false}
use Rattle.laws.proofs.Choices.{by_test, clash}
use Rattle.std.specs.Prelude.{Option, Some, None}
use Rattle.registers.specs.Page.{Settable, settable, among, on_position, read_position_of, setting_of, changed_of, settable_of}
use Rattle.registers.proofs.Settings.{somewhere, settable_position, read_below}

-- ---- a printed list

module _ {A : Type 0} (f g : ℕ → A) where
  abbrev first : A → List A → A
  first a [] = a
  first a (x ∷ xs) = x

  abbrev rest : List A → List A
  rest [] = []
  rest (x ∷ xs) = xs

  -- the second argument is `refl`
  pub on_list : (l : List ℕ) → map f l ≡ map g l → (x : ℕ) → among x l ≡ true → f x ≡ g x
  on_list [] e x h = clash h
  on_list (y ∷ ys) e x h = by_test (eqb x y) (λ t. here (eqb-true x y t)) (λ t. on_list ys (ap rest e) x (rw t at h))
    where
      here : x ≡ y → f x ≡ g x
      here q = ap f q ∙ ap (first (f y)) e ∙ ap g (sym q)

-- ---- a byte changed

abbrev read_numbers : List ℕ
read_numbers = map (λ (s : Settable). s.read) settable

-- a position names one register
number_at : (r i : ℕ) → read_position_of r ≡ Some i → get_or read_numbers i 0 ≡ r
unfolding settable_of read_position_of
number_at r i e =
    let listed : among r read_numbers ≡ true = sym (settable_position r) ∙ ap somewhere e in
    let back = on_list (λ x. on_position (read_position_of x) (λ j. get_or read_numbers j 0) 0) (λ x. x) read_numbers refl r listed in
    ap (λ (p : Option ℕ). on_position p (λ j. get_or read_numbers j 0) 0) (sym e) ∙ back

-- another register's byte stays, in any list
pub setting_other : (s : List ℕ) (r q b : ℕ) → eqb r q ≡ false → setting_of (changed_of s q b) r ≡ setting_of s r
unfolding setting_of changed_of
setting_other s r q b e = split (read_position_of r) (read_position_of q) refl refl
  where
    split : (m n : Option ℕ) → read_position_of r ≡ m → read_position_of q ≡ n
        → on_position m (λ i. get_or (on_position n (λ j. set s j b) s) i 0) 0 ≡ on_position m (λ i. get_or s i 0) 0
    split None n p t = refl
    split (Some i) None p t = refl
    split (Some i) (Some j) p t =
        get_or-set_other s j i b 0 (λ same. eqb-false r q e (sym (number_at r i p) ∙ ap (λ (k : ℕ). get_or read_numbers k 0) same ∙ number_at q j t))

-- the changed register's byte is the new one, in fourteen bytes
pub setting_same : (s : List ℕ) (q b : ℕ) → length s ≡ 14 → settable_of q ≡ true → setting_of (changed_of s q b) q ≡ b
unfolding setting_of changed_of
setting_same s q b whole e = split (read_position_of q) refl (settable_position q ∙ e)
  where
    split : (p : Option ℕ) → read_position_of q ≡ p → somewhere p ≡ true → on_position p (λ i. get_or (on_position p (λ j. set s j b) s) i 0) 0 ≡ b
    split None t h = clash h
    split (Some i) t h = let inside : i < length s = rw whole (read_below q i t) in get_or-set_same s i b 0 inside

pub setting_changed : (s : List ℕ) (r q b : ℕ) → length s ≡ 14 → settable_of q ≡ true → setting_of (changed_of s q b) r ≡ cond (eqb r q) b (setting_of s r)
setting_changed s r q b whole e =
    by_test (eqb r q) (λ t. rw t (ap (setting_of (changed_of s q b)) (eqb-true r q t) ∙ setting_same s q b whole e)) (λ t. rw t (setting_other s r q b t))

-- ---- two changes

-- a change is no change where no byte stands
module _ (g : ℕ → ℕ) where
  get_mapped : (s : List ℕ) (i : ℕ) → g 0 ≡ 0 → get_or (set s i (g (get_or s i 0))) i 0 ≡ g (get_or s i 0)
  get_mapped [] i e = sym e
  get_mapped (x ∷ xs) zero e = refl
  get_mapped (x ∷ xs) (suc i) e = get_mapped xs i e

  set_mapped : (s : List ℕ) (i b : ℕ) → set (set s i b) i (g (get_or (set s i b) i 0)) ≡ set s i (g b)
  set_mapped [] i b = refl
  set_mapped (x ∷ xs) zero b = refl
  set_mapped (x ∷ xs) (suc i) b = ap (λ (l : List ℕ). x ∷ l) (set_mapped xs i b)

  -- the byte changed by g, of a list of any length
  pub setting_mapped : (s : List ℕ) (q : ℕ) → g 0 ≡ 0 → setting_of (changed_of s q (g (setting_of s q))) q ≡ g (setting_of s q)
  unfolding setting_of changed_of
  setting_mapped s q e = split (read_position_of q)
    where
      split : (p : Option ℕ) → let old = on_position p (λ i. get_or s i 0) 0 in
          on_position p (λ i. get_or (on_position p (λ j. set s j (g old)) s) i 0) 0 ≡ g old
      split (Some i) = get_mapped s i e
      split None = sym e

  pub changed_mapped : (s : List ℕ) (q b : ℕ) → changed_of (changed_of s q b) q (g (setting_of (changed_of s q b) q)) ≡ changed_of s q (g b)
  unfolding setting_of changed_of
  changed_mapped s q b = split (read_position_of q)
    where
      split : (p : Option ℕ) →
          let once = on_position p (λ i. set s i b) s in
          on_position p (λ i. set once i (g (on_position p (λ j. get_or once j 0) 0))) once ≡ on_position p (λ i. set s i (g b)) s
      split (Some i) = set_mapped s i b
      split None = refl

pub changed_same : (s : List ℕ) (q a b : ℕ) → changed_of (changed_of s q a) q b ≡ changed_of s q b
changed_same s q a b = changed_mapped (λ x. b) s q a

pub changed_other : (s : List ℕ) (q r a b : ℕ) → eqb q r ≡ false → changed_of (changed_of s q a) r b ≡ changed_of (changed_of s r b) q a
unfolding changed_of
changed_other s q r a b e = split (read_position_of q) (read_position_of r) refl refl
  where
    split : (m n : Option ℕ) → read_position_of q ≡ m → read_position_of r ≡ n
        → let first = on_position m (λ i. set s i a) s in
        let second = on_position n (λ i. set s i b) s in
        on_position n (λ i. set first i b) first ≡ on_position m (λ i. set second i a) second
    split None None p t = refl
    split None (Some j) p t = refl
    split (Some i) None p t = refl
    split (Some i) (Some j) p t =
        set_comm s i j a b (λ same. eqb-false q r e (sym (number_at q i p) ∙ ap (λ (k : ℕ). get_or read_numbers k 0) same ∙ number_at r j t))

-- ---- a mask of a mask

assoc_step : (n : ℕ) → ((b c : ℕ) → bit_and (bit_and (n / 2) b) c ≡ bit_and (n / 2) (bit_and b c))
    → (b c : ℕ) → bit_and (bit_and n b) c ≡ bit_and n (bit_and b c)
assoc_step n ih b c =
    let e = and_step n b in
    let f = and_step b c in
    let q : bit_and n b / 2 ≡ bit_and (n / 2) (b / 2) = omega arith in
    let r : bit_and n b % 2 ≡ min (n % 2) (b % 2) = omega arith in
    let t : bit_and b c / 2 ≡ bit_and (b / 2) (c / 2) = omega arith in
    let u : bit_and b c % 2 ≡ min (b % 2) (c % 2) = omega arith in
    and_step (bit_and n b) c ∙ rw (q, ih (b / 2) (c / 2), r) (sym (and_step n (bit_and b c) ∙ rw (t, u) (omega arith)))

pub and_assoc : (a b c : ℕ) → bit_and (bit_and a b) c ≡ bit_and a (bit_and b c)
and_assoc = bin_ind (λ (n : ℕ). (b c : ℕ) → bit_and (bit_and n b) c ≡ bit_and n (bit_and b c)) (λ b c. refl) (λ n ih. assoc_step n ih)
