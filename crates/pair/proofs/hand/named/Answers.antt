use Prim.Native.Nat.{ℕ, ◌≤◌, ◌<◌}
use mathlib.Core.Path.{◌≡◌, sym, ◌∙◌}
use mathlib.Core.Bool.{true, false, ◌&&◌}
use native.Mathlib.Omega.{arith}
use lib.Dec.{eqb}
use borrow.Author.Tests.{eq-eqb, eqb-true, ne_eqb, le-leb, lt-leb}
use Rattle.laws.proofs.Choices.{and_left}
use Rattle.pair.specs.declared.Bus.{Bus}
use Rattle.pair.specs.declared.Named.TheVariants.{First, Second}
use Rattle.pair.specs.Bus.{at_address_of, respondent_of}
use Rattle.pair.specs.Hand.{named_at}
use Rattle.pair.proofs.hand.named.Goals as goal

-- a record of two devices, by its kind

module _ (p : Bus) (kind a : ℕ) (two : p.devices ≡ 2) where
  answering : (eqb kind 4 && eqb a 12) ≡ true → named_at p kind a ≡ respondent_of p
  unfolding named_at
  answering h =
      let k = eqb-true kind 4 (and_left (eqb kind 4) (eqb a 12) h) in
      rw (eq-eqb p.devices 2 two, le-leb kind 4 (omega (arith, k)), h)

  addressed : (eqb kind 4 && eqb a 12) ≡ false → kind ≤ 4 → named_at p kind a ≡ at_address_of p a
  unfolding named_at
  addressed n k = rw (eq-eqb p.devices 2 two, le-leb kind 4 k, n)

  firsts : 4 < kind → kind < 7 → named_at p kind a ≡ First
  unfolding named_at
  firsts l m = rw (eq-eqb p.devices 2 two, lt-leb kind 4 l, ne_eqb kind 7 (λ e. omega (arith, e, m)), lt-leb 8 kind (omega (arith, m)))

  seconds : 8 ≤ kind → named_at p kind a ≡ Second
  unfolding named_at
  seconds l = rw (eq-eqb p.devices 2 two, lt-leb kind 4 (omega (arith, l)), ne_eqb kind 7 (λ e. omega (arith, e, l)), le-leb 8 kind l)

pub returns-then-bus-ne2 : goal.returns-then-bus-ne2
unfolding named_at
returns-then-bus-ne2 c = rw (ne_eqb _ _ c.if-bus-ne2.true)

pub returns-then-kind-a : goal.returns-then-kind-a
returns-then-kind-a c = c.respondent.ensures ∙ sym (answering _ _ _ c.if-bus-ne2.false c.if-kind-a.true)

pub returns-in-7 : goal.returns-in-7
unfolding named_at
returns-in-7 c = rw (eq-eqb _ _ c.if-bus-ne2.false, c.in-7.is)

pub returns-in_default : goal.returns-in_default
returns-in_default c = sym (firsts _ _ _ c.if-bus-ne2.false (omega arith) (omega arith))

pub returns-in-8-to-255 : goal.returns-in-8-to-255
returns-in-8-to-255 c = sym (seconds _ _ _ c.if-bus-ne2.false (omega arith))

pub returns-in-0-to-4 : goal.returns-in-0-to-4
returns-in-0-to-4 c = c.at_address.ensures ∙ sym (addressed _ _ _ c.if-bus-ne2.false c.if-kind-a.false (omega arith))
