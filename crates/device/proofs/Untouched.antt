-- What an event leaves alone. `elsewhere` and `outside`: a record at another address, or to a register outside the profile,
-- changes nothing and is not acknowledged; `unanswered`: so is an alert response that P9 does not let it answer. `still`: only
-- conversions and power-on move readings, live byte, fault count and latches. `same_variant`: nothing changes the variant.
-- Assumes nothing.
use mathlib.Core.Path.{◌≡◌, refl}
use mathlib.Core.Bool.{Bool, true, false, cond}
use Prim.Native.Nat.{ℕ}
use lib.Dec.{eqb}
use Rattle.laws.proofs.Choices.{cond_ind}
use Rattle.temperature.specs.declared.Reading.{Reading}
use Rattle.registers.specs.Page.{readable_of, writable_of, known_of, one_shot, address_of}
use Rattle.device.specs.declared.Device.{Device}
use Rattle.device.specs.declared.Outcome.{Outcome}
use Rattle.device.specs.declared.Event.{Event}
use Rattle.device.specs.declared.Event.TheVariants.{Write, Read, Send, Receive, Convert, Open, PowerOn, ConvertSecond, OpenSecond}
use Rattle.device.specs.Bus.{silent_of, pointed_of, masked_of, stored_of, fired_of, put_of, status_cleared_of, get_of, point_of}
use Rattle.device.specs.Bus.{responds_of, respond_of, takes_of, converted_of, taking_of, sense_of, powered_of, alert_response, at_of}
use Rattle.device.specs.Profile.{OnBus, IsConversion, AtAnother, OutsideProfile}
use Rattle.device.specs.Step.{effect_of}
use Rattle.device.proofs.AfterRead.{read_ind}

-- ---- at another address

pub elsewhere : (d : Device) (e : Event) → AtAnother d e → effect_of d e ≡ silent_of d
unfolding effect_of
elsewhere d (Write a w v) h = rw h
elsewhere d (Read a r) h = rw h
elsewhere d (Send a r) h = rw h
elsewhere d (Receive a) h = rw (h.1, h.0)
elsewhere d (Convert local high low) h = absurd h
elsewhere d (Open local) h = absurd h
elsewhere d PowerOn h = absurd h
elsewhere d (ConvertSecond local high low) h = absurd h
elsewhere d (OpenSecond local) h = absurd h

-- ---- outside the profile

put_outside : (d : Device) (w v : ℕ) → writable_of w ≡ false → put_of d w v ≡ silent_of d
unfolding put_of
put_outside d w v h = rw h

get_outside : (d : Device) (r : ℕ) → readable_of r ≡ false → get_of d r ≡ silent_of d
unfolding get_of
get_outside d r h = rw h

point_outside : (d : Device) (r : ℕ) → known_of r ≡ false → point_of d r ≡ silent_of d
unfolding point_of
point_outside d r h = rw h

-- at another address, or at its own where it keeps silent
at_silent : (d : Device) (a : ℕ) (own : Outcome) → own ≡ silent_of d → at_of d a own ≡ silent_of d
at_silent d a own h = cond_ind (λ (o : Outcome). o ≡ silent_of d) (eqb a (address_of d.variant)) (λ _. h) (λ _. refl)

pub outside : (d : Device) (e : Event) → OutsideProfile d e → effect_of d e ≡ silent_of d
unfolding effect_of
outside d (Write a w v) h = at_silent d a (put_of d w v) (put_outside d w v h)
outside d (Read a r) h = at_silent d a (get_of d r) (get_outside d r h)
outside d (Send a r) h = at_silent d a (point_of d r) (point_outside d r h)
outside d (Receive a) h = rw h.1 (at_silent d a (get_of d d.pointer) (get_outside d d.pointer h.0))
outside d (Convert local high low) h = absurd h
outside d (Open local) h = absurd h
outside d PowerOn h = absurd h
outside d (ConvertSecond local high low) h = absurd h
outside d (OpenSecond local) h = absurd h

-- P9: an alert response that the device may not answer
pub unanswered : (d : Device) → responds_of d ≡ false → effect_of d (Receive alert_response) ≡ silent_of d
unfolding effect_of respond_of
unanswered d h = rw h

-- ---- what no bus event moves

-- the same sensed state and the same variant
pub record Same (d e : Device) : Type 0 where
  pub sensed : e.sensed ≡ d.sensed
  pub variant : e.variant ≡ d.variant

module _ (d : Device) where
  same : Same d d
  same = record { sensed = refl; variant = refl }

  masked_same : (e : Device) → Same d e → Same d (masked_of e)
  unfolding masked_of
  masked_same e h = record { sensed = h.sensed; variant = h.variant }

  put_same : (w v : ℕ) → Same d (put_of d w v).device
  unfolding put_of stored_of fired_of
  put_same w v =
      cond_ind (λ (o : Outcome). Same d o.device) (writable_of w)
      (λ _. cond_ind (Same d) (eqb w one_shot) (λ _. record { sensed = refl; variant = refl }) (λ _. record { sensed = refl; variant = refl }))
      (λ _. same)

  get_same : (r : ℕ) → Same d (get_of d r).device
  unfolding get_of
  get_same r =
      let pointed : Same d (pointed_of d r) = record { sensed = refl; variant = refl } in
      let cleared : Same d (status_cleared_of (pointed_of d r)) = record { sensed = refl; variant = refl } in
      cond_ind (λ (o : Outcome). Same d o.device) (readable_of r)
      (λ _. read_ind (Same d) (pointed_of d r) r
      (λ _. record { sensed = refl; variant = refl })
      (λ _ _. cleared)
      (λ _ _. masked_same (status_cleared_of (pointed_of d r)) cleared)
      (λ _. record { sensed = refl; variant = refl })
      (λ _ _ _. pointed))
      (λ _. same)

  point_same : (r : ℕ) → Same d (point_of d r).device
  unfolding point_of
  point_same r = cond_ind (λ (o : Outcome). Same d o.device) (known_of r) (λ _. record { sensed = refl; variant = refl }) (λ _. same)

  respond_same : Same d (respond_of d).device
  unfolding respond_of
  respond_same = cond_ind (λ (o : Outcome). Same d o.device) (responds_of d) (λ _. masked_same d same) (λ _. same)

  at_same : (a : ℕ) (own : Outcome) → Same d own.device → Same d (at_of d a own).device
  at_same a own h = cond_ind (λ (o : Outcome). Same d o.device) (eqb a (address_of d.variant)) (λ _. h) (λ _. same)

  bus_same : (e : Event) → OnBus e → Same d (effect_of d e).device
  unfolding effect_of
  bus_same (Write a w v) h = at_same a (put_of d w v) (put_same w v)
  bus_same (Read a r) h = at_same a (get_of d r) (get_same r)
  bus_same (Send a r) h = at_same a (point_of d r) (point_same r)
  bus_same (Receive a) h =
      cond_ind (λ (o : Outcome). Same d o.device) (eqb a alert_response) (λ _. respond_same)
      (λ _. at_same a (get_of d d.pointer) (get_same d.pointer))
  bus_same (Convert local high low) h = absurd h
  bus_same (Open local) h = absurd h
  bus_same PowerOn h = absurd h
  bus_same (ConvertSecond local high low) h = absurd h
  bus_same (OpenSecond local) h = absurd h

-- only conversions and power-on move readings, live byte, fault count and latches
pub still : (d : Device) (e : Event) → OnBus e → (effect_of d e).device.sensed ≡ d.sensed
still d e h = (bus_same d e h).sensed

-- ---- what a conversion that is not taken moves: nothing

-- P11, of kinds 05 and 06 and, by request c, of 08 and 09
pub untaken : (d : Device) (e : Event) → IsConversion e → takes_of d ≡ false → effect_of d e ≡ silent_of d
unfolding effect_of sense_of
untaken d (Write a w v) c h = absurd c
untaken d (Read a r) c h = absurd c
untaken d (Send a r) c h = absurd c
untaken d (Receive a) c h = absurd c
untaken d (Convert local high low) c h = rw h
untaken d (Open local) c h = rw h
untaken d PowerOn c h = absurd c
untaken d (ConvertSecond local high low) c h = rw h
untaken d (OpenSecond local) c h = rw h

-- ---- the variant

sense_variant : (d : Device) (local : ℕ) (remote : Reading) (broken : Bool) → (sense_of d local remote broken).device.variant ≡ d.variant
unfolding sense_of converted_of
sense_variant d local remote broken = split (takes_of d)
  where
    split : (t : Bool) → (cond t (taking_of d local remote broken) (silent_of d)).device.variant ≡ d.variant
    split true = refl
    split false = refl

pub same_variant : (d : Device) (e : Event) → (effect_of d e).device.variant ≡ d.variant
unfolding effect_of powered_of
same_variant d (Write a w v) = (bus_same d (Write a w v) tt).variant
same_variant d (Read a r) = (bus_same d (Read a r) tt).variant
same_variant d (Send a r) = (bus_same d (Send a r) tt).variant
same_variant d (Receive a) = (bus_same d (Receive a) tt).variant
same_variant d (Convert local high low) = sense_variant d local _ false
same_variant d (Open local) = sense_variant d local _ true
same_variant d PowerOn = refl
same_variant d (ConvertSecond local high low) = sense_variant d local _ false
same_variant d (OpenSecond local) = sense_variant d local _ true
