-- A list of what two neighbours give, place by place; the slowest and the fastest of a list of speeds occurred in it, and none is below or above.
-- Assumes nothing.
use mathlib.Core.Path.{◌≡◌, refl, sym, ap, ◌∙◌}
use mathlib.Core.Logic.{◌⊎◌, inl, inr, ⊎_elim}
use mathlib.Core.List.{List, [], ◌∷◌}
use Prim.Native.Nat.{ℕ, zero, suc, ◌<◌, ◌≤◌, min, max}
use native.Mathlib.Nat.{div-le_self}
use native.Mathlib.Omega.{arith}
use lib.Dec.{leb}
use lib.ListN.{length, length-map, get_or, get_or-map}
use borrow.Author.Tests.{leb-true, leb-false}
use Rattle.laws.proofs.Choices.{by_test}
use Rattle.tach.specs.Stamps.{behind, neighbours, period_of, ticks_a_minute, speed_of, speeds_of}
use Rattle.tach.specs.Tach.{slowest_of, fastest_of}
use Rattle.tach_laws.specs.Places.{places_of, speed_at, Occurred, Slowest, Fastest}

-- ---- place by place

module _ {A : Type 0} (f : ℕ → ℕ → A) where
  behind_many : (a : ℕ) (rest : List ℕ) → length (behind f a rest) ≡ length rest
  behind_many a [] = refl
  behind_many a (b ∷ rest) = ap suc (behind_many b rest)

  behind_at : (a : ℕ) (rest : List ℕ) (i : ℕ) (d : A) → i < length rest → get_or (behind f a rest) i d ≡ f (get_or (a ∷ rest) i 0) (get_or rest i 0)
  behind_at a [] i d h = absurd (omega arith)
  behind_at a (b ∷ rest) zero d h = refl
  behind_at a (b ∷ rest) (suc i) d h = behind_at b rest i d (omega arith)

  pub neighbours_many : (l : List ℕ) → length (neighbours f l) ≡ places_of l
  neighbours_many [] = refl
  neighbours_many (a ∷ rest) = behind_many a rest ∙ omega arith

  pub neighbours_at : (l : List ℕ) (i : ℕ) (d : A) → i < places_of l → get_or (neighbours f l) i d ≡ f (get_or l i 0) (get_or l (suc i) 0)
  neighbours_at [] i d h = absurd (omega arith)
  neighbours_at (a ∷ rest) i d h = behind_at a rest i d (omega arith)

-- ---- speeds

pub speeds_many : (stamps : List ℕ) → length (speeds_of stamps) ≡ places_of stamps
speeds_many stamps = length-map (neighbours period_of stamps) speed_of ∙ neighbours_many period_of stamps

pub speeds_at : (stamps : List ℕ) (i : ℕ) → i < places_of stamps → get_or (speeds_of stamps) i 0 ≡ speed_at stamps i
speeds_at stamps i h =
    get_or-map speed_of (neighbours period_of stamps) i 0
    ∙ ap speed_of (neighbours_at period_of stamps i 0 h)

-- none is above that of one tick
pub speeds_top : (stamps : List ℕ) (i : ℕ) → i < length (speeds_of stamps) → get_or (speeds_of stamps) i 0 ≤ ticks_a_minute
speeds_top stamps i h =
    let h' : i < places_of stamps = rw (speeds_many stamps) at h in
    rw (speeds_at stamps i h') (div-le_self ticks_a_minute _)

-- ---- slowest and fastest

abbrev at : List ℕ → ℕ → ℕ
at l i = get_or l i 0

-- picking one of two numbers, so that the one picked stands so to both
module _ (stands : ℕ → ℕ → Type 0) (pick : ℕ → ℕ → ℕ)
    (one_of : (a b : ℕ) → (pick a b ≡ a) ⊎ (pick a b ≡ b))
    (to_first : (a b : ℕ) → stands (pick a b) a)
    (to_second : (a b : ℕ) → stands (pick a b) b)
    (through : (a b c : ℕ) → stands a b → stands b c → stands a c)
  where
    alone_each : (v s i : ℕ) → i < 1 → stands (pick v s) (at (v ∷ []) i)
    alone_each v s zero h = to_first v s
    alone_each v s (suc i) h = absurd (omega arith)

    alone : (v s : ℕ) → pick v s ≡ v → Occurred stands (at (v ∷ [])) 1 (pick v s)
    alone v s e = record { place = 0; within = omega arith; there = sym e; each = alone_each v s }

    before_each : (v s : ℕ) (l : List ℕ) → Occurred stands (at l) (length l) s → (i : ℕ) → i < suc (length l) → stands (pick v s) (at (v ∷ l) i)
    before_each v s l o zero h = to_first v s
    before_each v s l o (suc i) h = through (pick v s) s (at l i) (to_second v s) (o.each i (omega arith))

    before : (v s : ℕ) (l : List ℕ) → Occurred stands (at l) (length l) s → Occurred stands (at (v ∷ l)) (suc (length l)) (pick v s)
    before v s l o =
        ⊎_elim
        (λ e. record { place = 0; within = omega arith; there = sym e; each = before_each v s l o })
        (λ e. record { place = suc o.place; within = omega (arith, o.within); there = o.there ∙ sym e; each = before_each v s l o })
        (one_of v s)

min_one : (a b : ℕ) → (min a b ≡ a) ⊎ (min a b ≡ b)
min_one a b = by_test (leb a b) (λ t. inl (omega (arith, leb-true a b t))) (λ t. inr (omega (arith, leb-false a b t)))

max_one : (a b : ℕ) → (max a b ≡ a) ⊎ (max a b ≡ b)
max_one a b = by_test (leb b a) (λ t. inl (omega (arith, leb-true b a t))) (λ t. inr (omega (arith, leb-false b a t)))

pub slowest : (l : List ℕ) → 0 < length l → ((i : ℕ) → i < length l → get_or l i 0 ≤ ticks_a_minute) → Slowest (at l) (length l) (slowest_of l)
unfolding slowest_of
slowest [] h top = absurd (omega arith)
slowest (v ∷ []) h top =
    alone (λ (s other : ℕ). s ≤ other) min min_one (λ a b. omega arith) (λ a b. omega arith) (λ a b c k l. omega arith)
    v ticks_a_minute (omega (arith, top 0 (omega arith)))
slowest (v ∷ w ∷ rest) h top =
    before (λ (s other : ℕ). s ≤ other) min min_one (λ a b. omega arith) (λ a b. omega arith) (λ a b c k l. omega arith)
    v (slowest_of (w ∷ rest)) (w ∷ rest) (slowest (w ∷ rest) (omega arith) (λ i k. top (suc i) (omega arith)))

pub fastest : (l : List ℕ) → 0 < length l → Fastest (at l) (length l) (fastest_of l)
unfolding fastest_of
fastest [] h = absurd (omega arith)
fastest (v ∷ []) h =
    alone (λ (s other : ℕ). other ≤ s) max max_one (λ a b. omega arith) (λ a b. omega arith) (λ a b c k l. omega arith)
    v 0 (omega arith)
fastest (v ∷ w ∷ rest) h =
    before (λ (s other : ℕ). other ≤ s) max max_one (λ a b. omega arith) (λ a b. omega arith) (λ a b c k l. omega arith)
    v (fastest_of (w ∷ rest)) (w ∷ rest) (fastest (w ∷ rest) (omega arith))
