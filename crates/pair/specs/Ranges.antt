-- Request c: the ranges of a bus, with so many of the capture's header bytes taken. No other test is made.
-- Assumes nothing.
use Rattle.std.specs.Prelude.{ℕ, Bool, not, ◌||◌, ◌&&◌, cond, List, [], ◌∷◌, map, pos, ltb, leb, eqb}
use Rattle.std.specs.Int.Signed.{le_z}
use Rattle.conversion.specs.declared.Sensed.{Sensed}
use Rattle.device.specs.declared.Device.{Device}
use Rattle.device.specs.Ranges.{all_true, variant_of, ranged_of}
use Rattle.pair.specs.declared.Bus.{Bus}
use Rattle.pair.specs.Bus.{two_of, first_address, second_address}

abbrev pub zeros_of : List ℕ → Bool
zeros_of bytes = all_true (map (λ (byte : ℕ). eqb byte 0) bytes)

-- nothing is sensed: a remote reading of 0 is neither below nor above it
abbrev pub unsensed_tests : Sensed → List Bool
unsensed_tests s =
    eqb s.local 0 ∷
    le_z (pos 0) s.remote ∷
    le_z s.remote (pos 0) ∷
    eqb s.live 0 ∷
    eqb s.faults 0 ∷
    not s.llatch ∷
    not s.rlatch ∷
    []

unfoldable pub unsensed_of : Sensed → Bool
unsensed_of s = all_true (unsensed_tests s)

-- an absent device is all zeros
abbrev pub zero_tests : Device → List Bool
zero_tests d =
    unsensed_of d.sensed ∷
    eqb d.variant 0 ∷
    eqb d.pointer 0 ∷
    not d.pending ∷
    eqb d.status 0 ∷
    zeros_of d.settings ∷
    eqb d.low 0 ∷
    not d.lowkept ∷
    []

unfoldable pub absent_of : Device → Bool
absent_of d = all_true (zero_tests d)

-- the second variant is taken: two devices, and three header bytes
abbrev pub second_taken : ℕ → Bus → Bool
second_taken head p = two_of p && leb 3 head

-- a device count of 0 with no header byte taken, else 1 or 2
abbrev pub count_test : ℕ → ℕ → Bool
count_test head devices = cond (eqb head 0) (eqb devices 0) (eqb devices 1 || eqb devices 2)

abbrev pub bus_tests : ℕ → Bus → List Bool
bus_tests head p =
    count_test head p.devices ∷
    -- the first variant 1 to 3 once two header bytes are taken
    (ltb head 2 || variant_of p.first.variant) ∷
    ranged_of p.first ∷
    -- the second variant 1 to 3 once it is taken, of another address, its device in its ranges
    (not (second_taken head p) || variant_of p.second.variant) ∷
    (not (second_taken head p) || not (eqb (first_address p) (second_address p))) ∷
    (not (second_taken head p) || ranged_of p.second) ∷
    -- until or without that the second device is all zeros
    (second_taken head p || absent_of p.second) ∷
    []

unfoldable pub bus_ranges_of : ℕ → Bus → Bool
bus_ranges_of head p = all_true (bus_tests head p)
