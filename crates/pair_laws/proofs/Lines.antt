-- The pins are the joined lines: `alert_line`, ALERT of the bus is pulled exactly if some device of it pulls it, and so T_CRIT_A, `tcrit_line`.
-- `alert_stays` and `tcrit_stays`: what a device pulls before an event that does not name it, the bus pulls after.
-- Assumes nothing.
use mathlib.Core.Path.{◌≡◌, refl, sym, ◌∙◌}
use mathlib.Core.Logic.{◌↔◌}
use mathlib.Core.Bool.{Bool, true, false, ◌||◌, cond}
use Rattle.laws.proofs.Choices.{by_test, clash, or_left, or_right}
use Rattle.device.specs.declared.Device.{Device}
use Rattle.device.specs.declared.Event.{Event}
use Rattle.device.specs.Pins.{alert_of, tcrit_of, pins_of}
use Rattle.pair.specs.declared.Bus.{Bus}
use Rattle.pair.specs.Bus.{two_of, picked_of, names_of, bus_effect_of, lines_of}
use Rattle.pair.proofs.Kept.{same_count}
use Rattle.pair_laws.specs.Devices.{present_of, is_named}
use Rattle.pair_laws.specs.Lines.{Pulled}
use Rattle.pair_laws.proofs.OtherStays.{unnamed_stays}

-- ---- either, or the first

module _ (line : Device → Bool) (p : Bus) where
  abbrev joined : Bool → Bool
  joined two = cond two (line p.first || line p.second) (line p.first)

  puller : (two : Bool) → two_of p ≡ two → joined two ≡ true → Pulled line p
  puller false h k = record { second = false; present = refl; pulls = k }
  puller true h k = split (line p.first) refl
    where
      split : (b : Bool) → line p.first ≡ b → Pulled line p
      split true e = record { second = false; present = refl; pulls = e }
      split false e = record { second = true; present = h; pulls = rw e at k }

  pulled : (two second : Bool) → two_of p ≡ two → present_of p second ≡ true → line (picked_of p second) ≡ true → joined two ≡ true
  pulled true true h there k = or_right (line p.first) (line p.second) k
  pulled true false h there k = or_left (line p.first) (line p.second) k
  pulled false true h there k = clash (sym h ∙ there)
  pulled false false h there k = k

  by_line : (joined (two_of p) ≡ true) ↔ Pulled line p
  by_line = (puller (two_of p) refl, λ k. pulled (two_of p) k.second refl k.present k.pulls)

module _ (p : Bus) where
  alert_joined : (lines_of p).alert ≡ joined alert_of p (two_of p)
  unfolding lines_of pins_of
  alert_joined = by_test (two_of p) (λ h. rw h) (λ h. rw h)

  tcrit_joined : (lines_of p).tcrit ≡ joined tcrit_of p (two_of p)
  unfolding lines_of pins_of
  tcrit_joined = by_test (two_of p) (λ h. rw h) (λ h. rw h)

  pub alert_line : ((lines_of p).alert ≡ true) ↔ Pulled alert_of p
  alert_line = rw alert_joined (by_line alert_of p)

  pub tcrit_line : ((lines_of p).tcrit ≡ true) ↔ Pulled tcrit_of p
  tcrit_line = rw tcrit_joined (by_line tcrit_of p)

-- ---- an event that does not name the device that pulls

module _ (p : Bus) (e : Event) (second : Bool) (present : present_of p second ≡ true) (unnamed : is_named (names_of p e) second ≡ false) where
  still_pulled : (line : Device → Bool) → line (picked_of p second) ≡ true → Pulled line (bus_effect_of p e).bus
  still_pulled line h = record { second = second; present = rw (same_count p e) present; pulls = rw (unnamed_stays p e second unnamed) h }

  pub alert_stays : alert_of (picked_of p second) ≡ true → (lines_of (bus_effect_of p e).bus).alert ≡ true
  alert_stays h = (alert_line (bus_effect_of p e).bus).1 (still_pulled alert_of h)

  pub tcrit_stays : tcrit_of (picked_of p second) ≡ true → (lines_of (bus_effect_of p e).bus).tcrit ≡ true
  tcrit_stays h = (tcrit_line (bus_effect_of p e).bus).1 (still_pulled tcrit_of h)
