-- Each device alone follows demand 2. `each_stepped`: over any row of events each device of a bus is stepped by value, with code 0, through the events
-- that it sees, and ends as it stands on the bus. `alone_replies`: a device alone replies what the bus answers. `ready`: this is so from any bus in its ranges.
-- Assumes nothing.
use Prim.Native.Nat.{ℕ, ◌≤◌}
use mathlib.Core.Path.{◌≡◌, refl, ◌∙◌}
use mathlib.Core.Bool.{Bool, true, false, not, ◌||◌}
use mathlib.Core.List.{List, [], ◌∷◌}
use lib.Dec.{eqb}
use native.Mathlib.Omega.{arith}
use borrow.Author.Tests.{eqb-false, le-ltb, le-leb}
use Rattle.laws.proofs.Choices.{clash, cond_ind, by_test}
use Rattle.device.specs.declared.Device.{Device}
use Rattle.device.specs.declared.Event.{Event}
use Rattle.device.specs.declared.Event.TheVariants.{Write, Read, Send, Receive, Convert, Open, PowerOn, ConvertSecond, OpenSecond}
use Rattle.device.specs.Ranges.{operands_of, second_of}
use Rattle.device.specs.Step.{effect_of}
use Rattle.device.specs.Run.{replies_of, after_of}
use Rattle.device.proofs.Steps.{step_effect}
use Rattle.device.proofs.InRange.{kept}
use Rattle.device.proofs.Untouched.{same_variant}
use Rattle.pair.specs.declared.Bus.{Bus}
use Rattle.pair.specs.Bus.{two_of, picked_of, bus_effect_of, header_length}
use Rattle.pair.specs.Ranges.{second_taken, bus_ranges_of}
use Rattle.pair.proofs.Kept.{Ranged, named}
use Rattle.pair_laws.specs.Devices.{present_of}
use Rattle.pair_laws.specs.Absent.{NoSecond}
use Rattle.pair_laws.specs.Seen.{as_alone, sight_of, bus_answers, bus_after, alone_answers, device_after}
use Rattle.pair_laws.specs.Stepping.{Able, Ready, Allowed, AllStepped, replied_in, seen_in, Stepped}
use Rattle.pair_laws.proofs.TwoDevices.{in_ranges}
use Rattle.pair_laws.proofs.EachAlone.{device_alone}
use Rattle.pair_laws.proofs.OneDevice.{one_after, one_answers, sees_all}

-- ---- a device stepped by value

able_after : (d : Device) (e : Event) → Able d → Able (effect_of d e).device
able_after d e i = record { known = rw (same_variant d e) i.known; ranged = kept d e i.ranged }

-- of kinds 01 to 07, with operands in the table
abbrev Own : List Event → Type 0
Own [] = Unit {0}
Own (e ∷ es) = (second_of e ≡ false) × (operands_of e ≡ true) × Own es

-- each step is the effect, with code 0
record Walked (d : Device) (es : List Event) : Type 0 where
  codes : AllStepped (replies_of d es)
  device : device_after d es ≡ after_of d es
  replies : alone_answers d es ≡ replied_in (replies_of d es)

walked : (d : Device) (es : List Event) → Able d → Own es → Walked d es
walked d [] i o = record { codes = tt; device = refl; replies = refl }
walked d (e ∷ es) i o =
    let step = step_effect d e i.known i.ranged o.0 o.1 in
    let rest = walked (effect_of d e).device es (able_after d e i) o.2 in
    record { codes = rw step (refl, rest.codes); device = rw step rest.device; replies = rw step (rw rest.replies) }

-- 08 and 09 as a device alone has them
alone_own : (e : Event) → (second_of (as_alone e) ≡ false) × (operands_of (as_alone e) ≡ operands_of e)
unfolding second_of operands_of
alone_own (Write a w v) = (refl, refl)
alone_own (Read a r) = (refl, refl)
alone_own (Send a r) = (refl, refl)
alone_own (Receive a) = (refl, refl)
alone_own (Convert local high low) = (refl, refl)
alone_own (Open local) = (refl, refl)
alone_own PowerOn = (refl, refl)
alone_own (ConvertSecond local high low) = (refl, refl)
alone_own (OpenSecond local) = (refl, refl)

seen_own : (p : Bus) (second : Bool) (devices : ℕ) (es : List Event) → Allowed devices es → Own (seen_in p second es)
seen_own p second devices [] a = tt
seen_own p second devices (e ∷ es) a =
    let own = alone_own e in
    let rest = seen_own (bus_effect_of p e).bus second devices es a.2 in
    cond_ind Own (sight_of p second e).seen (λ _. (own.0, own.1 ∙ a.0, rest)) (λ _. rest)

-- under another count than 2 all are of kinds 01 to 07
no_second : (devices : ℕ) → eqb devices 2 ≡ false → (es : List Event) → Allowed devices es → NoSecond es
no_second devices n [] a = tt
no_second devices n (e ∷ es) a =
    (by_test (second_of e) (λ s. absurd (eqb-false devices 2 n (a.1 s))) (λ s. s), no_second devices n es a.2)

all_own : (es : List Event) (devices : ℕ) → NoSecond es → Allowed devices es → Own es
all_own [] devices n a = tt
all_own (e ∷ es) devices n a = (n.0, a.0, all_own es devices n.1 a.2)

-- ---- each device of a bus

module _ (p : Bus) (i : Ready p) (es : List Event) (a : Allowed p.devices es) where
  after_seen : (second : Bool) → present_of p second ≡ true → picked_of (bus_after p es) second ≡ device_after (picked_of p second) (seen_in p second es)
  after_seen second here =
      by_test (two_of p)
      (λ two. device_alone (i.apart two) es second)
      (λ one. alone second one (rw one at here))
    where
      alone : (second : Bool) → two_of p ≡ false → (not second || false) ≡ true
          → picked_of (bus_after p es) second ≡ device_after (picked_of p second) (seen_in p second es)
      alone true one h = clash h
      alone false one h =
          let n = no_second p.devices one es a in
          rw (one_after p one es n, sees_all p one es n)

  pub each_stepped : (second : Bool) → present_of p second ≡ true → Stepped p second es (picked_of (bus_after p es) second)
  each_stepped second here =
      let w = walked (picked_of p second) (seen_in p second es) (i.able second here) (seen_own p second p.devices es a) in
      record { codes = w.codes; device = after_seen second here ∙ w.device }

  -- and a device alone replies what the bus answers
  pub alone_replies : two_of p ≡ false → bus_answers p es ≡ replied_in (replies_of p.first es)
  alone_replies one =
      let n = no_second p.devices one es a in
      one_answers p one es n ∙ (walked p.first es (i.able false refl) (all_own es p.devices n a)).replies

-- ---- a bus in its ranges, its header complete, is ready

pub ready : (head : ℕ) (p : Bus) → header_length p ≤ head → bus_ranges_of head p ≡ true → Ready p
ready head p done h =
    record { able = able; apart = λ two. in_ranges head p done two h }
  where
    r : Ranged head p
    r = named head p h

    taken : two_of p ≡ true → second_taken head p ≡ true
    taken two = rw (two, le-leb 3 head (omega (arith, done)))

    able : (second : Bool) → present_of p second ≡ true → Able (picked_of p second)
    able false here = record { known = rw (le-ltb head 2 (omega (arith, done))) at r.variant; ranged = r.ranged }
    able true here = record { known = rw (taken here) at r.variant2; ranged = rw (taken here) at r.ranged2 }
