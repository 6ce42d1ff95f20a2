-- Where the counter stood at the start does not matter: every stamp so many ticks further on, going round, is answered alike.
-- Assumes nothing.
use mathlib.Core.Path.{◌≡◌, refl, sym, ap, ◌∙◌}
use mathlib.Core.List.{List, [], ◌∷◌, map}
use Prim.Native.Nat.{ℕ, suc, ◌+◌, ◌<◌}
use native.Mathlib.Omega.{arith}
use lib.Dec.{eqb}
use lib.ListN.{length-map}
use borrow.Author.Tests.{eq-eqb, ne_eqb, eqb-true, eqb-false}
use Rattle.laws.proofs.Choices.{by_test}
use Rattle.tach.specs.Stamps.{round, stamp_of, behind, neighbours, period_of}
use Rattle.tach.specs.Tach.{tach_of}
use Rattle.tach_laws.specs.Places.{OfCounter}

module _ (ticks : ℕ) where
  abbrev further : ℕ → ℕ
  further stamp = stamp_of (stamp + ticks)

  same_period : (a b : ℕ) → a < round → b < round → period_of (further a) (further b) ≡ period_of a b
  same_period a b h k = omega arith

  same_test : (a b : ℕ) → a < round → b < round → eqb (further a) (further b) ≡ eqb a b
  same_test a b h k =
      by_test (eqb a b)
      (λ t. eq-eqb (further a) (further b) (ap further (eqb-true a b t)) ∙ sym t)
      (λ t. let n = eqb-false a b t in ne_eqb (further a) (further b) (λ e. n (omega arith)) ∙ sym t)

  module _ {A : Type 0} (f : ℕ → ℕ → A) (same : (a b : ℕ) → a < round → b < round → f (further a) (further b) ≡ f a b) where
    same_behind : (a : ℕ) (rest : List ℕ) → OfCounter (a ∷ rest) → behind f (further a) (map further rest) ≡ behind f a rest
    same_behind a [] c = refl
    same_behind a (b ∷ rest) c =
        rw (same a b (c.each 0 (omega arith)) (c.each 1 (omega arith)))
        (ap (λ (l : List A). f a b ∷ l) (same_behind b rest (record { each = λ i h. c.each (suc i) (omega arith) })))

    same_neighbours : (stamps : List ℕ) → OfCounter stamps → neighbours f (map further stamps) ≡ neighbours f stamps
    same_neighbours [] c = refl
    same_neighbours (a ∷ rest) c = same_behind a rest c

  pub anywhere : (stamps : List ℕ) (floor : ℕ) → OfCounter stamps → tach_of (map (λ (s : ℕ). stamp_of (s + ticks)) stamps) floor ≡ tach_of stamps floor
  unfolding tach_of
  anywhere stamps floor c =
      rw (length-map stamps further, same_neighbours eqb same_test stamps c, same_neighbours period_of same_period stamps c)
