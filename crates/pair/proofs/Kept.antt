-- No event leaves the ranges of a bus: `bus_kept`, once its header is complete. `same_count`, `same_variants`, `same_addresses`: none changes the
-- device count, a variant or an address. `second_place`: with one device, none touches the second's place.
-- Assumes nothing.
use Prim.Native.Nat.{ℕ, ◌≤◌}
use mathlib.Core.Path.{◌≡◌, refl, ap}
use mathlib.Core.Bool.{Bool, true, false, not, ◌||◌}
use native.Mathlib.Omega.{arith}
use lib.Dec.{eqb, ltb}
use borrow.Author.Tests.{le-leb}
use Rattle.laws.proofs.Choices.{by_test, or_left}
use Rattle.registers.specs.Page.{address_of}
use Rattle.device.specs.declared.Event.{Event}
use Rattle.device.specs.Ranges.{second_of, variant_of, ranged_of}
use Rattle.device.proofs.InRange.{kept, powered_in_range, powered_variant}
use Rattle.device.proofs.Tests.{each, of_each}
use Rattle.device.proofs.Untouched.{same_variant}
use Rattle.pair.specs.declared.Bus.{Bus}
use Rattle.pair.specs.declared.Named.{Named}
use Rattle.pair.specs.declared.Named.TheVariants.{Neither, First, Second, Both}
use Rattle.pair.specs.Bus.{two_of, picked_of, first_address, second_address, names_of, by_named, bus_effect_of, header_length}
use Rattle.pair.specs.Ranges.{absent_of, second_taken, count_test, bus_tests, bus_ranges_of}

-- ---- the count and the variants

module _ (p : Bus) (e : Event) where
  counts : (n : Named) → (by_named p e n).bus.devices ≡ p.devices
  counts Neither = refl
  counts First = refl
  counts Second = refl
  counts Both = refl

  pub same_count : (bus_effect_of p e).bus.devices ≡ p.devices
  unfolding bus_effect_of
  same_count = counts (names_of p e)

  variants : (n : Named) (second : Bool) → (picked_of (by_named p e n).bus second).variant ≡ (picked_of p second).variant
  variants Neither second = refl
  variants First true = refl
  variants First false = same_variant p.first e
  variants Second true = same_variant p.second e
  variants Second false = refl
  variants Both true = powered_variant p.second.variant
  variants Both false = powered_variant p.first.variant

  pub same_variants : (second : Bool) → (picked_of (bus_effect_of p e).bus second).variant ≡ (picked_of p second).variant
  unfolding bus_effect_of
  same_variants second = variants (names_of p e) second

  pub same_addresses : (first_address (bus_effect_of p e).bus ≡ first_address p) × (second_address (bus_effect_of p e).bus ≡ second_address p)
  same_addresses = (ap address_of (same_variants false), ap address_of (same_variants true))

-- ---- the devices

module _ (p : Bus) (e : Event) where
  devices_ranged : (n : Named) (second : Bool) → ranged_of (picked_of p second) ≡ true → ranged_of (picked_of (by_named p e n).bus second) ≡ true
  devices_ranged Neither second h = h
  devices_ranged First true h = h
  devices_ranged First false h = kept p.first e h
  devices_ranged Second true h = kept p.second e h
  devices_ranged Second false h = h
  devices_ranged Both true h = powered_in_range p.second.variant
  devices_ranged Both false h = powered_in_range p.first.variant

  device_ranged : (second : Bool) → ranged_of (picked_of p second) ≡ true → ranged_of (picked_of (bus_effect_of p e).bus second) ≡ true
  unfolding bus_effect_of
  device_ranged second = devices_ranged (names_of p e) second

  -- an absent device is never named
  pub second_place : two_of p ≡ false → (bus_effect_of p e).bus.second ≡ p.second
  unfolding bus_effect_of names_of
  second_place one = by_test (second_of e) (λ h. rw (one, h)) (λ h. rw (one, h))

-- ---- the tests by name

pub record Ranged (head : ℕ) (p : Bus) : Type 0 where
  pub counted : count_test head p.devices ≡ true
  pub variant : (ltb head 2 || variant_of p.first.variant) ≡ true
  pub ranged : ranged_of p.first ≡ true
  pub variant2 : (not (second_taken head p) || variant_of p.second.variant) ≡ true
  pub apart : (not (second_taken head p) || not (eqb (first_address p) (second_address p))) ≡ true
  pub ranged2 : (not (second_taken head p) || ranged_of p.second) ≡ true
  pub absent : (second_taken head p || absent_of p.second) ≡ true

pub named : (head : ℕ) (p : Bus) → bus_ranges_of head p ≡ true → Ranged head p
unfolding bus_ranges_of
named head p h =
    let t = each (bus_tests head p) h in
    record {
      counted = t.0;
      variant = t.1.0;
      ranged = t.1.1.0;
      variant2 = t.1.1.1.0;
      apart = t.1.1.1.1.0;
      ranged2 = t.1.1.1.1.1.0;
      absent = t.1.1.1.1.1.1.0;
    }

pub of_named : (head : ℕ) (p : Bus) → Ranged head p → bus_ranges_of head p ≡ true
unfolding bus_ranges_of
of_named head p r =
    of_each (bus_tests head p) (r.counted, (r.variant, (r.ranged, (r.variant2, (r.apart, (r.ranged2, (r.absent, tt)))))))

-- ---- no event leaves them

-- what follows of one test's being true
under : (t a b : Bool) → (a ≡ true → b ≡ true) → (t || a) ≡ true → (t || b) ≡ true
under true a b f h = refl
under false a b f h = f h

module _ (head : ℕ) (p : Bus) (e : Event) where
  complete : header_length p ≤ head → two_of p ≡ true → second_taken head p ≡ true
  complete h two = rw (two, le-leb 3 head (omega (arith, h)))

  pub bus_kept : header_length p ≤ head → bus_ranges_of head p ≡ true → bus_ranges_of head (bus_effect_of p e).bus ≡ true
  bus_kept done h =
      let r = named head p h in
      of_named head (bus_effect_of p e).bus
      (record {
        counted = rw (same_count p e) r.counted;
        variant = rw (same_variants p e false) r.variant;
        ranged = device_ranged p e false r.ranged;
        variant2 = rw (same_count p e, same_variants p e true) r.variant2;
        apart = rw (same_count p e, same_variants p e false, same_variants p e true) r.apart;
        ranged2 = rw (same_count p e) (under (not (second_taken head p)) _ _ (device_ranged p e true) r.ranged2);
        absent =
            by_test (two_of p)
            (λ two. rw (same_count p e) (or_left (second_taken head p) _ (complete done two)))
            (λ one. rw (same_count p e, second_place p e one) r.absent);
      })
