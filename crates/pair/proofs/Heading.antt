-- A bus while its header is read: each byte that is taken keeps it in its ranges. `opened`: the device count; `first_taken` and `second_taken`: the
-- variants; `later`: once they are taken, more header bytes change nothing; `zero_ranges`: it starts in them; `few_devices`: there are two at most.
-- Assumes nothing.
use Prim.Native.Nat.{ℕ, ◌+◌, ◌≤◌, ◌<◌}
use mathlib.Core.Path.{◌≡◌, refl, sym}
use mathlib.Core.Bool.{true, false, ◌||◌, and-false}
use native.Mathlib.Omega.{arith}
use lib.Dec.{eqb}
use borrow.Author.Tests.{eqb-true, eqb-false, ne_eqb, le-ltb, le-leb, lt-leb}
use Rattle.laws.proofs.Choices.{by_test}
use Rattle.registers.specs.Page.{address_of, setting_of, read_position_of, known_of, readable_of, writable_of}
use Rattle.device.specs.Bus.{powered_of}
use Rattle.device.specs.Ranges.{variant_of, masks_of, ranged_of}
use Rattle.device.proofs.InRange.{powered_in_range, powered_variant}
use Rattle.pair.specs.declared.Bus.{Bus}
use Rattle.pair.specs.Bus.{zero_bus, two_of, placed_of, counted_bus, first_address, count_place}
use Rattle.pair.specs.Ranges.{unsensed_of, absent_of, second_taken, bus_ranges_of}
use Rattle.pair.proofs.Kept.{Ranged, named, of_named}

pub zero_ranges : bus_ranges_of 0 zero_bus ≡ true
unfolding bus_ranges_of absent_of unsensed_of ranged_of masks_of setting_of read_position_of known_of readable_of writable_of
zero_ranges = refl

-- one or two, once the count is taken
pub counts : (devices : ℕ) → (eqb devices 1 || eqb devices 2) ≡ true → (1 ≤ devices) × (devices ≤ 2)
counts devices h =
    by_test (eqb devices 1)
    (λ e. let one = eqb-true devices 1 e in (omega (arith, one), omega (arith, one)))
    (λ e. let two = eqb-true devices 2 (rw e at h) in (omega (arith, two), omega (arith, two)))

module _ (head : ℕ) (p : Bus) (h : bus_ranges_of head p ≡ true) where
  r : Ranged head p
  r = named head p h

  some : (head ≡ 0 → ⊥) → (1 ≤ p.devices) × (p.devices ≤ 2)
  some n = counts p.devices (rw (ne_eqb head 0 n) at r.counted)

  pub few_devices : p.devices ≤ 2
  few_devices =
      by_test (eqb head 0)
      (λ z. let none = eqb-true p.devices 0 (rw z at r.counted) in omega (arith, none))
      (λ n. (some (eqb-false head 0 n)).1)

  pub some_devices : 1 ≤ head → 1 ≤ p.devices
  some_devices l = (some (λ z. omega (arith, z))).0

  -- until the second variant is taken
  until : head < 3 → second_taken head p ≡ false
  until l = rw (lt-leb 3 head l, and-false (two_of p))

  absent : head < 3 → absent_of p.second ≡ true
  absent l = rw (until l) at r.absent

  pub opened : head ≡ 0 → (devices : ℕ) → (eqb devices 1 || eqb devices 2) ≡ true → bus_ranges_of 1 (counted_bus p devices) ≡ true
  opened z devices c =
      of_named 1 (counted_bus p devices)
      (record {
        counted = c;
        variant = refl;
        ranged = r.ranged;
        variant2 = rw (and-false (eqb devices 2));
        apart = rw (and-false (eqb devices 2));
        ranged2 = rw (and-false (eqb devices 2));
        absent = rw (and-false (eqb devices 2)) (absent (omega (arith, z)));
      })

  pub first_taken : head ≡ 1 → (v : ℕ) → variant_of v ≡ true → bus_ranges_of 2 (placed_of p false (powered_of v)) ≡ true
  first_taken z v known =
      of_named 2 (placed_of p false (powered_of v))
      (record {
        counted = rw z at r.counted;
        variant = rw (powered_variant v) known;
        ranged = powered_in_range v;
        variant2 = rw (and-false (two_of p));
        apart = rw (and-false (two_of p));
        ranged2 = rw (and-false (two_of p));
        absent = rw (and-false (two_of p)) (absent (omega (arith, z)));
      })

  pub second_taken_lem : head ≡ 2 → two_of p ≡ true → (v : ℕ) → variant_of v ≡ true → eqb (address_of v) (first_address p) ≡ false
      → bus_ranges_of 3 (placed_of p true (powered_of v)) ≡ true
  second_taken_lem z two v known apart =
      let other : eqb (first_address p) (address_of v) ≡ false =
      ne_eqb (first_address p) (address_of v) (λ e. eqb-false (address_of v) (first_address p) apart (sym e))
      in
      of_named 3 (placed_of p true (powered_of v))
      (record {
        counted = rw z at r.counted;
        variant = rw z at r.variant;
        ranged = r.ranged;
        variant2 = rw (two, powered_variant v) known;
        apart = rw (two, powered_variant v, other);
        ranged2 = rw (two, powered_in_range v);
        absent = rw two;
      })

  -- no byte of the record count changes the bus
  pub later : count_place p ≤ head → 1 ≤ head → bus_ranges_of (head + 1) p ≡ true
  later l m =
      of_named (head + 1) p
      (record {
        counted = rw (ne_eqb (head + 1) 0 (λ e. omega (arith, e))) (rw (ne_eqb head 0 (λ e. omega (arith, e, m))) at r.counted);
        variant = rw (le-ltb (head + 1) 2 (omega (arith, m))) (rw (le-ltb head 2 (omega (arith, l, some_devices m))) at r.variant);
        ranged = r.ranged;
        variant2 = rw same r.variant2;
        apart = rw same r.apart;
        ranged2 = rw same r.ranged2;
        absent = rw same r.absent;
      })
    where
      same : second_taken (head + 1) p ≡ second_taken head p
      same =
          by_test (two_of p)
          (λ t. let two = eqb-true p.devices 2 t in rw (t, le-leb 3 (head + 1) (omega (arith, l, two)), le-leb 3 head (omega (arith, l, two))))
          (λ t. rw t)
