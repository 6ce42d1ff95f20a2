-- Of two devices on a bus, the addresses are two: `in_ranges`, the ranges of a bus ask it once the header is complete; `still_two`, no event ends it.
-- Assumes nothing.
use Prim.Native.Nat.{ℕ, ◌≤◌}
use mathlib.Core.Path.{◌≡◌, refl}
use mathlib.Core.Bool.{Bool, true, false, not, ◌||◌}
use native.Mathlib.Omega.{arith}
use lib.Dec.{eqb}
use borrow.Author.Tests.{le-leb}
use Rattle.laws.proofs.Choices.{clash}
use Rattle.device.specs.declared.Event.{Event}
use Rattle.device.proofs.Tests.{each}
use Rattle.pair.specs.declared.Bus.{Bus}
use Rattle.pair.specs.Bus.{two_of, first_address, second_address, bus_effect_of, header_length}
use Rattle.pair.specs.Ranges.{second_taken, bus_tests, bus_ranges_of}
use Rattle.pair.proofs.Kept.{same_count, same_addresses}
use Rattle.pair_laws.specs.Devices.{Two}

pub in_ranges : (head : ℕ) (p : Bus) → header_length p ≤ head → two_of p ≡ true → bus_ranges_of head p ≡ true → Two p
unfolding bus_ranges_of
in_ranges head p complete two ranges =
    let taken : second_taken head p ≡ true = rw (two, le-leb 3 head (omega (arith, complete))) in
    record { two = two; apart = told (second_taken head p) (eqb (first_address p) (second_address p)) taken (each (bus_tests head p) ranges).1.1.1.1.0 }
  where
    told : (taken same : Bool) → taken ≡ true → (not taken || not same) ≡ true → same ≡ false
    told true true h k = clash k
    told true false h k = refl
    told false same h k = clash h

pub still_two : {p : Bus} → Two p → (e : Event) → Two (bus_effect_of p e).bus
still_two {p} t e = record { two = rw (same_count p e) t.two; apart = rw ((same_addresses p e).0, (same_addresses p e).1) t.apart }
