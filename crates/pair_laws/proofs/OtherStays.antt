-- A record addressed to one device, or a conversion of it, leaves the other's state as it was: `other_stays`, of either device. `unnamed_stays`: a
-- device that an event does not name is as it was, of an alert response too. `one_named`: no event but power-on names both. `nobodys`: an event of
-- neither device, but for an alert response and power-on, does nothing. `restarts_both`: power-on.
-- Assumes nothing.
use Prim.Native.Nat.{ℕ}
use mathlib.Core.Path.{◌≡◌, refl, sym, ◌∙◌}
use mathlib.Core.Bool.{Bool, true, false, not, ◌||◌, ◌&&◌, cond, or-false}
use lib.Dec.{eqb}
use borrow.Author.Tests.{eqb-true, eqb-false, ne_eqb}
use Rattle.laws.proofs.Choices.{by_test, clash}
use Rattle.registers.specs.Page.{address_of}
use Rattle.device.specs.declared.Event.{Event}
use Rattle.device.specs.declared.Event.TheVariants.{Write, Read, Send, Receive, Convert, Open, PowerOn, ConvertSecond, OpenSecond}
use Rattle.device.specs.Bus.{responds_of, alert_response, powered_of}
use Rattle.device.specs.Ranges.{second_of}
use Rattle.pair.specs.declared.Bus.{Bus}
use Rattle.pair.specs.declared.Named.{Named}
use Rattle.pair.specs.declared.Named.TheVariants.{Neither, First, Second, Both}
use Rattle.pair.specs.Bus.{two_of, picked_of, first_address, second_address, at_address_of, respondent_of, among_of, names_of, quiet_of}
use Rattle.pair.specs.Bus.{by_named, bus_effect_of}
use Rattle.pair_laws.specs.Devices.{Two, address_at, alone_named, is_named, is_alert_response, is_power_on, is_of}

-- ---- a device that is not named

module _ (p : Bus) (e : Event) where
  stays : (n : Named) (second : Bool) → is_named n second ≡ false → picked_of (by_named p e n).bus second ≡ picked_of p second
  stays Neither second h = refl
  stays First true h = refl
  stays First false h = clash (sym h)
  stays Second true h = clash (sym h)
  stays Second false h = refl
  stays Both second h = clash (sym h)

  pub unnamed_stays : (second : Bool) → is_named (names_of p e) second ≡ false → picked_of (bus_effect_of p e).bus second ≡ picked_of p second
  unfolding bus_effect_of
  unnamed_stays second h = stays (names_of p e) second h

-- ---- a record of one device

-- no variant's address is that of the alert response
not_response : (a v : ℕ) → eqb a (address_of v) ≡ true → eqb a alert_response ≡ false
unfolding address_of
not_response a v h = rw (eqb-true a (address_of v) h) (by_test (eqb v 1) (λ e. rw e) (λ e. rw e))

turned : (a b : ℕ) → eqb a b ≡ false → eqb b a ≡ false
turned a b h = ne_eqb b a (λ e. eqb-false a b h (sym e))

module _ {p : Bus} (t : Two p) where
  at_address : (second : Bool) (a : ℕ) → eqb a (address_at p second) ≡ true → at_address_of p a ≡ alone_named second
  at_address false a h = rw h
  at_address true a h =
      let other : eqb a (first_address p) ≡ false = rw (eqb-true a (second_address p) h) (turned (first_address p) (second_address p) t.apart) in
      rw (other, h)

  -- it names that device alone
  pub of_device : (second : Bool) (e : Event) → is_of p second e ≡ true → names_of p e ≡ alone_named second
  unfolding names_of among_of
  of_device second (Write a w v) h = rw t.two (at_address second a (sym (or-false _) ∙ h))
  of_device second (Read a r) h = rw t.two (at_address second a (sym (or-false _) ∙ h))
  of_device second (Send a r) h = rw t.two (at_address second a (sym (or-false _) ∙ h))
  of_device second (Receive a) h =
      let own : eqb a (address_at p second) ≡ true = sym (or-false _) ∙ h in
      rw (t.two, not_response a (picked_of p second).variant own) (at_address second a own)
  of_device true (Convert local high low) h = clash h
  of_device false (Convert local high low) h = rw t.two
  of_device true (Open local) h = clash h
  of_device false (Open local) h = rw t.two
  of_device second PowerOn h = clash h
  of_device true (ConvertSecond local high low) h = rw t.two
  of_device false (ConvertSecond local high low) h = clash h
  of_device true (OpenSecond local) h = rw t.two
  of_device false (OpenSecond local) h = clash h

  pub other_stays : (second : Bool) (e : Event) → is_of p second e ≡ true
      → picked_of (bus_effect_of p e).bus (not second) ≡ picked_of p (not second)
  other_stays second e h = unnamed_stays p e (not second) (rw (of_device second e h) (not_other second))
    where
      not_other : (second : Bool) → is_named (alone_named second) (not second) ≡ false
      not_other true = refl
      not_other false = refl

-- ---- the exceptions

-- a choice of one device or none
one_of : (s t : Bool) (second : Bool) → is_named (cond s First (cond t Second Neither)) second ≡ true
    → is_named (cond s First (cond t Second Neither)) (not second) ≡ false
one_of true t true h = clash h
one_of true t false h = refl
one_of false true true h = refl
one_of false true false h = clash h
one_of false false second h = clash h

module _ (p : Bus) where
  at_one : (a : ℕ) (second : Bool) → is_named (at_address_of p a) second ≡ true → is_named (at_address_of p a) (not second) ≡ false
  at_one a = one_of (eqb a (first_address p)) (eqb a (second_address p))

  among_one : (e : Event) → is_power_on e ≡ false → (second : Bool) → is_named (among_of p e) second ≡ true → is_named (among_of p e) (not second) ≡ false
  unfolding among_of respondent_of
  among_one (Write a w v) o = at_one a
  among_one (Read a r) o = at_one a
  among_one (Send a r) o = at_one a
  among_one (Receive a) o =
      by_test (eqb a alert_response)
      (λ h. rw h (one_of (responds_of p.first && (not (responds_of p.second) || _)) (responds_of p.second)))
      (λ h. rw h (at_one a))
  among_one (Convert local high low) o = one_of true true
  among_one (Open local) o = one_of true true
  among_one PowerOn o = clash (sym o)
  among_one (ConvertSecond local high low) o = one_of false true
  among_one (OpenSecond local) o = one_of false true

  -- so that the other stays
  pub one_named : (e : Event) → is_power_on e ≡ false → (second : Bool) → is_named (names_of p e) second ≡ true → is_named (names_of p e) (not second) ≡ false
  unfolding names_of
  one_named e o second =
      by_test (two_of p)
      (λ h. rw h (among_one e o second))
      (λ h. rw h (by_test (second_of e) (λ k. rw k (λ i. clash i)) (λ k. rw k (one_of true true second))))

module _ {p : Bus} (t : Two p) where
  at_none : (a : ℕ) → eqb a (first_address p) ≡ false → eqb a (second_address p) ≡ false → at_address_of p a ≡ Neither
  at_none a h k = rw (h, k)

  names_none : (e : Event) → is_of p false e ≡ false → is_of p true e ≡ false → is_alert_response e ≡ false → is_power_on e ≡ false → names_of p e ≡ Neither
  unfolding names_of among_of
  names_none (Write a w v) h k i o = rw t.two (at_none a (sym (or-false _) ∙ h) (sym (or-false _) ∙ k))
  names_none (Read a r) h k i o = rw t.two (at_none a (sym (or-false _) ∙ h) (sym (or-false _) ∙ k))
  names_none (Send a r) h k i o = rw t.two (at_none a (sym (or-false _) ∙ h) (sym (or-false _) ∙ k))
  names_none (Receive a) h k i o = rw (t.two, i) (at_none a (sym (or-false _) ∙ h) (sym (or-false _) ∙ k))
  names_none (Convert local high low) h k i o = clash (sym h)
  names_none (Open local) h k i o = clash (sym h)
  names_none PowerOn h k i o = clash (sym o)
  names_none (ConvertSecond local high low) h k i o = clash (sym k)
  names_none (OpenSecond local) h k i o = clash (sym k)

  pub nobodys : (e : Event) → is_of p false e ≡ false → is_of p true e ≡ false → is_alert_response e ≡ false → is_power_on e ≡ false
      → bus_effect_of p e ≡ quiet_of p
  unfolding bus_effect_of
  nobodys e h k i o = rw (names_none e h k i o)

-- power-on restarts both, each of its variant
pub restarts_both : (p : Bus) → two_of p ≡ true → (second : Bool) → picked_of (bus_effect_of p PowerOn).bus second ≡ powered_of (picked_of p second).variant
unfolding bus_effect_of names_of among_of
restarts_both p two true = rw two
restarts_both p two false = rw two
