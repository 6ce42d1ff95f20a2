-- A record's answer, by the account. `answering`: the first answer byte of a capture's record is that of the bus before it and the record's event.
-- `some_record`: every number up to the record count has its event. `taken_bit`: of an accepted capture, D3 of a conversion's answer is set exactly if the
-- account before it says that it is taken.
-- Assumes nothing.
use mathlib.Core.Path.{◌≡◌, refl, sym, ap, ◌∙◌}
use mathlib.Core.Bool.{Bool, true, false, not, ◌||◌, and-true, and-false, or-false}
use mathlib.Core.List.{List, [], ◌∷◌}
use Prim.Native.Nat.{ℕ, zero, suc, ◌*◌, ◌<◌}
use native.Mathlib.Omega.{arith}
use lib.Dec.{eqb}
use lib.ListN.{length, get_or, take, drop}
use Rattle.laws.proofs.Choices.{by_test, clash}
use Rattle.registers.specs.Bits.{has, standby}
use Rattle.device.specs.declared.Device.{Device}
use Rattle.device.specs.declared.Pins.{Pins}
use Rattle.device.specs.declared.Event.{Event}
use Rattle.device.specs.declared.Event.TheVariants.{Write, Read, Send, Receive, Convert, Open, PowerOn, ConvertSecond, OpenSecond}
use Rattle.device.specs.Pins.{first_of}
use Rattle.device.specs.Bus.{takes_of}
use Rattle.device.specs.Ranges.{second_of}
use Rattle.device.specs.Step.{effect_of}
use Rattle.device_laws.proofs.Bits.{has_or, bit_of_lem}
use Rattle.device_laws.proofs.Moves.{taken_exactly}
use Rattle.pair.specs.declared.Bus.{Bus}
use Rattle.pair.specs.declared.Named.TheVariants.{First}
use Rattle.pair.specs.Bus.{two_of, picked_of, among_of, names_of, Done, bus_effect_of, lines_of, bus_answer_of}
use Rattle.pair.proofs.Kept.{same_count}
use Rattle.pair_laws.specs.Devices.{present_of, conversion_of}
use Rattle.pair_laws.specs.Seen.{bus_after, bus_answers}
use Rattle.capture_laws.specs.Events.{events_of, bus_in, answered_bytes}
use Rattle.capture_laws.proofs.Stepping.{step_by_step}
use Rattle.history.specs.Account.{is_taken, account_of, on_bus}
use Rattle.history.specs.Verdict.{Next}
use Rattle.history.specs.Latches.{Accepted, record_count, front, state_after, answer_at, d3_at, in_force_of}
use Rattle.history.proofs.WithoutD7.{low_bit}
use Rattle.history.proofs.Fronts.{header, front_bus, first_events, bus_devices, events_counted}
use Rattle.history.proofs.History.{in_force_lem}

-- ---- rows of events

-- record number k + 1, the bus before it and after it, and the first byte of its answer
pub record Answering (p : Bus) (es : List Event) (k : ℕ) : Type 0 where
  pub event : Event
  pub rest : List Event
  pub is : drop k es ≡ event ∷ rest
  pub bus : bus_after p (take (suc k) es) ≡ (bus_effect_of (bus_after p (take k es)) event).bus
  pub byte : get_or (answered_bytes (bus_answers p es)) (k * 2) 0 ≡ bus_answer_of (bus_effect_of (bus_after p (take k es)) event)

answering : (p : Bus) (es : List Event) (k : ℕ) → k < length es → Answering p es k
answering p [] k h = absurd (omega arith)
answering p (e ∷ es) zero h = record { event = e; rest = es; is = refl; bus = refl; byte = refl }
answering p (e ∷ es) (suc k) h =
    let two : suc k * 2 ≡ suc (suc (k * 2)) = omega arith in
    let a = answering (bus_effect_of p e).bus es k (omega arith) in
    record { event = a.event; rest = a.rest; is = a.is; bus = a.bus; byte = rw two a.byte }

-- no event changes the device count
after_devices : (p : Bus) (es : List Event) → (bus_after p es).devices ≡ p.devices
after_devices p [] = refl
after_devices p (e ∷ es) = after_devices (bus_effect_of p e).bus es ∙ same_count p e

-- ---- D1 and D3 of the first answer byte

module _ (pins : Pins) (acknowledged taken held : Bool) where
  first_tcrit : has (first_of pins acknowledged taken held) 0x02 ≡ pins.tcrit
  unfolding first_of
  first_tcrit = simp (has_or, bit_of_lem) (simp (and-false, and-true, or-false))

  first_taken : has (first_of pins acknowledged taken held) 0x08 ≡ taken
  unfolding first_of
  first_taken = simp (has_or, bit_of_lem) (simp (and-false, and-true, or-false))

pub answer_tcrit : (o : Done) → has (bus_answer_of o) 0x02 ≡ (lines_of o.bus).tcrit
unfolding bus_answer_of
answer_tcrit o = first_tcrit (lines_of o.bus) o.acknowledged o.taken o.held

answer_taken : (o : Done) → has (bus_answer_of o) 0x08 ≡ o.taken
unfolding bus_answer_of
answer_taken o = first_taken (lines_of o.bus) o.acknowledged o.taken o.held

-- ---- a conversion, of the device that it is of

module _ (p : Bus) where
  first_takes : (e : Event) → second_of e ≡ false → among_of p e ≡ First → (bus_effect_of p e).taken ≡ (effect_of p.first e).taken
  unfolding bus_effect_of names_of
  first_takes e s n = by_test (two_of p) (λ two. rw (two, n)) (λ one. rw (one, s))

  takes : (second : Bool) → present_of p second ≡ true → (e : Event) → conversion_of second e ≡ true → (bus_effect_of p e).taken ≡ takes_of (picked_of p second)
  unfolding bus_effect_of names_of among_of second_of takes_of
  takes second here (Write a w v) c = clash c
  takes second here (Read a r) c = clash c
  takes second here (Send a r) c = clash c
  takes second here (Receive a) c = clash c
  takes true here (Convert local high low) c = clash c
  takes false here (Convert local high low) c = first_takes (Convert local high low) refl refl ∙ taken_exactly p.first (Convert local high low)
  takes true here (Open local) c = clash c
  takes false here (Open local) c = first_takes (Open local) refl refl ∙ taken_exactly p.first (Open local)
  takes second here PowerOn c = clash c
  takes true here (ConvertSecond local high low) c = rw here (taken_exactly p.second (ConvertSecond local high low))
  takes false here (ConvertSecond local high low) c = clash c
  takes true here (OpenSecond local) c = rw here (taken_exactly p.second (OpenSecond local))
  takes false here (OpenSecond local) c = clash c

-- the account's test is the device's
same_taken : (d : Device) → takes_of d ≡ is_taken (in_force_of d)
unfolding takes_of is_taken
same_taken d = rw (low_bit d.settings standby (omega arith))

-- ---- of an accepted capture

module _ (xs : List ℕ) (accepted : Accepted xs) where
  -- the bus after the first k records
  pub bus_after_lem : (k : ℕ) → (state_after xs k).bus ≡ bus_after (bus_in xs) (take k (events_of xs))
  bus_after_lem k =
      let h = header xs accepted in
      (step_by_step (front xs k)).bus ∙ rw (front_bus h (k * 4), first_events h k)

  pub on_bus_lem : (k : ℕ) (second : Bool) → present_of (state_after xs k).bus second ≡ on_bus xs second
  on_bus_lem k second =
      ap (λ (n : ℕ). not second || eqb n 2)
      (ap (λ (p : Bus). p.devices) (bus_after_lem k) ∙ after_devices (bus_in xs) (take k (events_of xs)) ∙ bus_devices (header xs accepted))

  pub answer : (k : ℕ) → k < record_count xs → Answering (bus_in xs) (events_of xs) k
  answer k few = answering (bus_in xs) (events_of xs) k (omega (arith, few, events_counted xs accepted))

  pub some_record : (k : ℕ) → k < record_count xs → (e : Event) × Next xs k e
  some_record k few = let a = answer k few in (a.event, record { rest = a.rest; is = a.is })

  pub answer_byte : (k : ℕ) (few : k < record_count xs) → answer_at xs k ≡ bus_answer_of (bus_effect_of (state_after xs k).bus (answer k few).event)
  answer_byte k few =
      ap (λ (l : List ℕ). get_or l (k * 2) 0) (step_by_step xs).answers
      ∙ (answer k few).byte
      ∙ ap (λ (p : Bus). bus_answer_of (bus_effect_of p (answer k few).event)) (sym (bus_after_lem k))

  -- of record number k + 1, a conversion of a device on the bus
  pub taken_bit : (k : ℕ) → k < record_count xs → (second : Bool) → on_bus xs second ≡ true → {e : Event} → Next xs k e → conversion_of second e ≡ true
      → d3_at xs k ≡ is_taken (account_of xs second k).in_force
  taken_bit k few second there {e} n c =
      let p = (state_after xs k).bus in
      let same : (answer k few).event ≡ e = ap (λ (l : List Event). get_or l 0 e) (sym (answer k few).is ∙ n.is) in
      let here = on_bus_lem k second ∙ there in
      ap (λ (b : ℕ). has b 0x08) (answer_byte k few ∙ ap (λ (x : Event). bus_answer_of (bus_effect_of p x)) same)
      ∙ answer_taken (bus_effect_of p e)
      ∙ takes p second here e c
      ∙ same_taken (picked_of p second)
      ∙ ap is_taken (in_force_lem xs accepted k (omega arith) second there)
