-- Two functions that agree on a whole table agree at each of its places: one comparison, which the checker computes.
-- Assumes nothing.
use mathlib.Core.Path.{◌≡◌, sym, ap, ◌∙◌}
use mathlib.Core.List.{List, [], ◌∷◌}
use Prim.Native.Nat.{ℕ, zero, suc, ◌+◌, ◌<◌}
use native.Mathlib.Nat.{add-zero, zero-add, add-suc, suc-add, le_of_suc-le-suc, not-suc-le-zero}
use lib.ListN.{get_or}

module _ {A : Type 0} where
  -- f i, f (i + 1), .., n of them
  abbrev pub tabulate : (ℕ → A) → ℕ → ℕ → List A
  tabulate f i zero = []
  tabulate f i (suc n) = f i ∷ tabulate f (suc i) n

  from : (a : A) (f : ℕ → A) (n i k : ℕ) → k < n → get_or (tabulate f i n) k a ≡ f (i + k)
  from a f zero i k h = absurd (not-suc-le-zero h)
  from a f (suc n) i zero h = rw (add-zero i)
  from a f (suc n) i (suc k) h = from a f n (suc i) k (le_of_suc-le-suc h) ∙ rw (suc-add i k, add-suc i k)

  -- an entry of a table that is given as a list
  pub entry : (a : A) (f : ℕ → A) (n k : ℕ) → k < n → get_or (tabulate f 0 n) k a ≡ f k
  entry a f n k h = from a f n 0 k h ∙ rw (zero-add k)

  -- the fourth argument is `refl`
  pub agree : (f g : ℕ → A) (n : ℕ) → tabulate f 0 n ≡ tabulate g 0 n → (k : ℕ) → k < n → f k ≡ g k
  agree f g n e k h =
      sym (entry (f k) f n k h) ∙ ap (λ (l : List A). get_or l k (f k)) e ∙ entry (f k) g n k h
