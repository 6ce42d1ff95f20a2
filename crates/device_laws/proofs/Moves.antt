-- What moves each part of a device, for every device and event: `pointer_moves`, `pending_moves`, `status_moves`, `low_moves`, `local_moves`,
-- `remote_moves`, `faults_moves`; `sensed_rests` and `sensed_starts` for these three with the live byte and the latches; and what is
-- acknowledged, taken and, by request b, held: `acknowledged_exactly`, `taken_exactly` and `held_exactly`.
-- Assumes nothing.
use mathlib.Core.Path.{◌≡◌, refl, sym, ap, ◌∙◌}
use mathlib.Core.Bool.{Bool, true, false, not, cond, ◌||◌, ◌&&◌, and-true, and-false, or-false}
use mathlib.Core.List.{List, [], ◌∷◌}
use Prim.Native.Nat.{ℕ, ◌+◌, ◌*◌, min}
use lib.IntN.{ℤ, pos, ◌*ℤ◌, +ℤ_idr}
use lib.Signed.{lt_z}
use lib.Dec.{eqb}
use lib.Bits.{bit_and, bit_or}
use borrow.Author.Tests.{eqb-true, ne_eqb}
use Rattle.laws.proofs.Choices.{cond_ind, by_test, clash}
use Rattle.temperature.specs.declared.Reading.{Reading}
use Rattle.temperature.specs.Temperature.{degrees_of, eighths_of, sum_of, open_reading}
use Rattle.temperature.proofs.Held.{held_tells, held_eighths}
use Rattle.registers.specs.Page.{r_set, w_set, among, readable_of, writable_of, known_of, address_of, read_at_of, kept_of, setting_of, changed_of}
use Rattle.registers.specs.Page.{read_position_of, read_only_of}
use Rattle.registers.proofs.Entries.{zero_at}
use Rattle.conversion.specs.declared.Sensed.{Sensed}
use Rattle.conversion.specs.Conversion.{reading_of, remote_limits_of, out_of, any_of, count_of, sensed_of, remote_out_of}
use Rattle.device.specs.declared.Device.{Device}
use Rattle.device.specs.declared.Outcome.{Outcome}
use Rattle.device.specs.declared.Event.{Event}
use Rattle.device.specs.declared.Event.TheVariants.{Write, Read, Send, Receive, Convert, Open, PowerOn, ConvertSecond, OpenSecond}
use Rattle.device.specs.Pins.{comparator_of, watched_of, alert_of}
use Rattle.device.specs.Bus.{silent_of, answered_of, standby_of, masked_of, stored_of, stored_in, fired_of, written_of, put_of, pointed_of}
use Rattle.device.specs.Bus.{after_read_of, value_of, get_of, point_of, responds_of, respond_of, takes_of, converted_of, taking_of, sense_of}
use Rattle.device.specs.Bus.{powered_of, alert_response, at_of}
use Rattle.device_laws.specs.Moves.{byte_at, own_of, any_set, in_standby, taken_of, named_of, pointer_after, pending_after, local_after}
use Rattle.device_laws.specs.Moves.{remote_after, count_after, rests_at, sum_at, sample_of, faults_after, status_after, kept_low, low_after_read, low_after}
use Rattle.device_laws.specs.Moves.{answers_alert, acknowledged_of, taken_by, held_by}
use Rattle.device.specs.Ranges.{ranged_of}
use Rattle.device.specs.Profile.{OnBus}
use Rattle.device.specs.Step.{effect_of}
use Rattle.device_laws.proofs.Changes.{on_list, setting_other, and_assoc}
use Rattle.device.proofs.InRange.{named}
use Rattle.device.proofs.AfterRead.{read_ind}
use Rattle.device.proofs.Untouched.{still}

-- ---- choices

pub cond_same : {A : Type 0} (t : Bool) (x : A) → cond t x x ≡ x
cond_same true x = refl
cond_same false x = refl

-- a number outside a list is none of the list's
pub outside : (l : List ℕ) (k x : ℕ) → among k l ≡ true → among x l ≡ false → eqb x k ≡ false
outside l k x inside e = ne_eqb x k (λ q. clash (sym e ∙ ap (λ (y : ℕ). among y l) q ∙ inside))

-- 0C is no device's own address
pub response_apart : (d : Device) (a : ℕ) → eqb a alert_response ≡ true → own_of d a ≡ false
response_apart d a e = ap (own_of d) (eqb-true a alert_response e) ∙ split (eqb d.variant 1)
  where
    split : (t : Bool) → eqb alert_response (cond t 0x4C 0x4D) ≡ false
    split true = refl
    split false = refl

-- ---- a part f of the device, at each kind of event

module _ {A : Type 0} (f : Device → A) (d : Device) where
  -- moved to x at the own address under a test, else left
  pub at_moves : (a : ℕ) (own : Outcome) (t : Bool) (x : A) → f own.device ≡ cond t x (f d) → f (at_of d a own).device ≡ cond (own_of d a && t) x (f d)
  unfolding address_of
  at_moves a own t x h = split (own_of d a)
    where
      split : (s : Bool) → f (cond s own (silent_of d)).device ≡ cond (s && t) x (f d)
      split true = h
      split false = refl

  pub at_leaves : (a : ℕ) (own : Outcome) → f own.device ≡ f d → f (at_of d a own).device ≡ f d
  at_leaves a own h = cond_ind (λ (o : Outcome). f o.device ≡ f d) (eqb a (address_of d.variant)) (λ _. h) (λ _. refl)

  receive_leaves : (a : ℕ) → f (respond_of d).device ≡ f d → f (get_of d d.pointer).device ≡ f d → f (effect_of d (Receive a)).device ≡ f d
  unfolding effect_of
  receive_leaves a respond get =
      cond_ind (λ (o : Outcome). f o.device ≡ f d) (eqb a alert_response) (λ _. respond) (λ _. at_leaves a (get_of d d.pointer) get)

  -- moved to x by an outcome under a test, else left
  pub choice_moves : (t : Bool) (o : Outcome) (x : A) → f o.device ≡ x → f (cond t o (silent_of d)).device ≡ cond t x (f d)
  choice_moves true o x h = h
  choice_moves false o x h = refl

  pub put_moves : (w v : ℕ) (x : A) → f (written_of d w v) ≡ x → f (put_of d w v).device ≡ cond (among w w_set) x (f d)
  unfolding put_of writable_of
  put_moves w v x h = choice_moves (writable_of w) (answered_of (written_of d w v) 0) x h

  get_moves : (r : ℕ) (x : A) → f (after_read_of (pointed_of d r) r) ≡ x → f (get_of d r).device ≡ cond (among r r_set) x (f d)
  unfolding get_of readable_of
  get_moves r x h = choice_moves (readable_of r) (answered_of (after_read_of (pointed_of d r) r) (value_of d r)) x h

  pub point_moves : (r : ℕ) (x : A) → f (pointed_of d r) ≡ x → f (point_of d r).device ≡ cond (named_of r) x (f d)
  unfolding point_of known_of readable_of writable_of
  point_moves r x h = choice_moves (known_of r) (answered_of (pointed_of d r) 0) x h

  respond_leaves : f (masked_of d) ≡ f d → f (respond_of d).device ≡ f d
  unfolding respond_of
  respond_leaves h = cond_ind (λ (o : Outcome). f o.device ≡ f d) (responds_of d) (λ _. h) (λ _. refl)

  pub sense_moves : (local : ℕ) (remote : Reading) (broken : Bool) (x : A) → f (converted_of d local remote.eighths broken) ≡ x
      → f (sense_of d local remote broken).device ≡ cond (taken_of d) x (f d)
  unfolding sense_of takes_of
  sense_moves local remote broken x h = choice_moves (takes_of d) _ x h

-- ---- the pointer

module _ (d : Device) where
  written_pointer : (w v : ℕ) → (written_of d w v).pointer ≡ w
  unfolding fired_of stored_of
  written_pointer w v = cond_ind (λ (e : Device). e.pointer ≡ w) (eqb w 0x0F) (λ t. sym (eqb-true w 0x0F t)) (λ _. refl)

  read_pointer : (r : ℕ) → (after_read_of (pointed_of d r) r).pointer ≡ r
  unfolding masked_of
  read_pointer r = read_ind (λ (e : Device). e.pointer ≡ r) (pointed_of d r) r (λ _. refl) (λ _ _. refl) (λ _ _. refl) (λ _. refl) (λ _ _ _. refl)

  masked_pointer : (masked_of d).pointer ≡ d.pointer
  unfolding masked_of
  masked_pointer = refl

  converted_pointer : (local : ℕ) (remote : Reading) (broken : Bool) → (sense_of d local remote broken).device.pointer ≡ d.pointer
  unfolding converted_of
  converted_pointer local remote broken =
      sense_moves (λ (e : Device). e.pointer) d local remote broken d.pointer refl ∙ cond_same (taken_of d) d.pointer

pub pointer_moves : (d : Device) (e : Event) → (effect_of d e).device.pointer ≡ pointer_after d e
unfolding effect_of powered_of
pointer_moves d (Write a w v) =
    at_moves (λ (e : Device). e.pointer) d a (put_of d w v) (among w w_set) w (put_moves (λ (e : Device). e.pointer) d w v w (written_pointer d w v))
pointer_moves d (Read a r) =
    at_moves (λ (e : Device). e.pointer) d a (get_of d r) (among r r_set) r (get_moves (λ (e : Device). e.pointer) d r r (read_pointer d r))
pointer_moves d (Send a r) =
    at_moves (λ (e : Device). e.pointer) d a (point_of d r) (named_of r) r (point_moves (λ (e : Device). e.pointer) d r r refl)
pointer_moves d (Receive a) =
    receive_leaves (λ (e : Device). e.pointer) d a (respond_leaves (λ (e : Device). e.pointer) d (masked_pointer d))
    (get_moves (λ (e : Device). e.pointer) d d.pointer d.pointer (read_pointer d d.pointer) ∙ cond_same (among d.pointer r_set) d.pointer)
pointer_moves d (Convert local high low) = converted_pointer d local _ false
pointer_moves d (Open local) = converted_pointer d local _ true
pointer_moves d PowerOn = refl
pointer_moves d (ConvertSecond local high low) = converted_pointer d local _ false
pointer_moves d (OpenSecond local) = converted_pointer d local _ true

-- ---- the pending one-shot

-- the byte of 03 changed, of a device in standby
configuration_changed : (s : List ℕ) (b : ℕ) → standby_of s ≡ true → setting_of (changed_of s 0x03 b) 0x03 ≡ b
unfolding setting_of changed_of read_position_of
configuration_changed [] b e = clash e
configuration_changed (x ∷ xs) b e = refl

at_09 : (d : Device) (v : ℕ) → stored_in d 0x09 v ≡ changed_of d.settings 0x03 (bit_and v 0xD5)
unfolding read_at_of kept_of
at_09 d v = refl

-- of the writable registers 09 alone is 03
only_09 : (w : ℕ) → among w w_set ≡ true → eqb 0x03 (read_at_of w) ≡ eqb w 0x09
unfolding read_at_of
only_09 = on_list (λ x. eqb 0x03 (read_at_of x)) (λ x. eqb x 0x09) w_set refl

-- in standby a write stays in it, but for one to 09 with D6 clear
stored_standby : (d : Device) (w v : ℕ) → among w w_set ≡ true → standby_of d.settings ≡ true
    → standby_of (stored_in d w v) ≡ cond (eqb w 0x09 && not (any_set v 0x40)) false true
stored_standby d w v may st = by_test (eqb w 0x09) (λ t. rw t (leaves t)) (λ t. rw t (stays t))
  where
    twice : (t : Bool) → t ≡ cond (not t) false true
    twice true = refl
    twice false = refl

    leaves : eqb w 0x09 ≡ true → standby_of (stored_in d w v) ≡ cond (not (any_set v 0x40)) false true
    leaves t =
        ap (λ (x : ℕ). standby_of (stored_in d x v)) (eqb-true w 0x09 t)
        ∙ ap standby_of (at_09 d v)
        ∙ ap (λ (x : ℕ). any_set x 0x40) (configuration_changed d.settings (bit_and v 0xD5) st)
        ∙ ap (λ (x : ℕ). not (eqb x 0)) (and_assoc v 0xD5 0x40)
        ∙ twice (any_set v 0x40)

    stays : eqb w 0x09 ≡ false → standby_of (stored_in d w v) ≡ true
    stays t = ap (λ (x : ℕ). any_set x 0x40) (setting_other d.settings 0x03 (read_at_of w) (bit_and v (kept_of w)) (only_09 w may ∙ t)) ∙ st

-- what a write at the own address leaves pending
abbrev pending_put : Device → ℕ → ℕ → Bool
pending_put d w v = cond (eqb w 0x0F) (in_standby d) (cond (eqb w 0x09 && not (any_set v 0x40)) false d.pending)

module _ (d : Device) (ranged : ranged_of d ≡ true) where
  stored_pending : (w v : ℕ) → among w w_set ≡ true → (stored_of d w v).pending ≡ cond (eqb w 0x09 && not (any_set v 0x40)) false d.pending
  unfolding stored_of
  stored_pending w v may = split d.pending (named d ranged).pending
    where
      split : (p : Bool) → (not p || standby_of d.settings) ≡ true
          → (p && standby_of (stored_in d w v)) ≡ cond (eqb w 0x09 && not (any_set v 0x40)) false p
      split false e = sym (cond_same (eqb w 0x09 && not (any_set v 0x40)) false)
      split true e = stored_standby d w v may e

  fired_pending : (fired_of d).pending ≡ in_standby d
  unfolding fired_of
  fired_pending = split d.pending (in_standby d) (named d ranged).pending
    where
      split : (p s : Bool) → (not p || s) ≡ true → (p || s) ≡ s
      split true s e = sym e
      split false s e = refl

  put_pending : (w v : ℕ) → (put_of d w v).device.pending ≡ pending_put d w v
  unfolding put_of writable_of
  put_pending w v = cond_ind (λ (o : Outcome). o.device.pending ≡ pending_put d w v) (writable_of w) inside apart
    where
      inside : among w w_set ≡ true → (written_of d w v).pending ≡ pending_put d w v
      inside m =
          cond_ind (λ (e : Device). e.pending ≡ pending_put d w v) (eqb w 0x0F) (λ t. rw t fired_pending) (λ t. rw t (stored_pending w v m))

      apart : among w w_set ≡ false → d.pending ≡ pending_put d w v
      apart m = rw (outside w_set 0x0F w refl m, outside w_set 0x09 w refl m)

  get_pending : (r : ℕ) → (get_of d r).device.pending ≡ d.pending
  unfolding masked_of
  get_pending r =
      get_moves (λ (e : Device). e.pending) d r d.pending
      (read_ind (λ (e : Device). e.pending ≡ d.pending) (pointed_of d r) r (λ _. refl) (λ _ _. refl) (λ _ _. refl) (λ _. refl) (λ _ _ _. refl))
      ∙ cond_same (among r r_set) d.pending

  point_pending : (r : ℕ) → (point_of d r).device.pending ≡ d.pending
  point_pending r = point_moves (λ (e : Device). e.pending) d r d.pending refl ∙ cond_same (named_of r) d.pending

  write_pending : (a w v : ℕ) → (effect_of d (Write a w v)).device.pending ≡ pending_after d (Write a w v)
  unfolding effect_of address_of
  write_pending a w v = split (own_of d a)
    where
      split : (s : Bool) → (cond s (put_of d w v) (silent_of d)).device.pending
          ≡ cond (s && eqb w 0x0F) (in_standby d) (cond (s && (eqb w 0x09 && not (any_set v 0x40))) false d.pending)
      split true = put_pending w v
      split false = refl

  pub pending_moves : (e : Event) → (effect_of d e).device.pending ≡ pending_after d e
  unfolding effect_of powered_of masked_of converted_of
  pending_moves (Write a w v) = write_pending a w v
  pending_moves (Read a r) = at_leaves (λ (e : Device). e.pending) d a (get_of d r) (get_pending r)
  pending_moves (Send a r) = at_leaves (λ (e : Device). e.pending) d a (point_of d r) (point_pending r)
  pending_moves (Receive a) =
      receive_leaves (λ (e : Device). e.pending) d a (respond_leaves (λ (e : Device). e.pending) d refl) (get_pending d.pointer)
  pending_moves (Convert local high low) = sense_moves (λ (e : Device). e.pending) d local _ false false refl
  pending_moves (Open local) = sense_moves (λ (e : Device). e.pending) d local _ true false refl
  pending_moves PowerOn = refl
  pending_moves (ConvertSecond local high low) = sense_moves (λ (e : Device). e.pending) d local _ false false refl
  pending_moves (OpenSecond local) = sense_moves (λ (e : Device). e.pending) d local _ true false refl

-- ---- status

module _ (d : Device) where
  read_status : (r : ℕ) → (after_read_of (pointed_of d r) r).status ≡ cond (eqb r 0x02) 0 d.status
  unfolding masked_of
  read_status r =
      read_ind (λ (e : Device). e.status ≡ cond (eqb r 0x02) 0 d.status) (pointed_of d r) r
      (λ t. rw (eqb-true r 0x01 t)) (λ t _. rw t) (λ t _. rw t) (λ t. rw (eqb-true r 0x10 t)) (λ _ t _. rw t)

  get_status : (r : ℕ) → (get_of d r).device.status ≡ cond (eqb r 0x02) 0 d.status
  unfolding get_of readable_of
  get_status r = cond_ind (λ (o : Outcome). o.device.status ≡ cond (eqb r 0x02) 0 d.status) (readable_of r)
      (λ _. read_status r)
      (λ m. rw (outside r_set 0x02 r refl m))

  put_status : (w v : ℕ) → (put_of d w v).device.status ≡ d.status
  unfolding fired_of stored_of
  put_status w v =
      put_moves (λ (e : Device). e.status) d w v d.status
      (cond_ind (λ (e : Device). e.status ≡ d.status) (eqb w 0x0F) (λ _. refl) (λ _. refl))
      ∙ cond_same (among w w_set) d.status

  point_status : (r : ℕ) → (point_of d r).device.status ≡ d.status
  point_status r = point_moves (λ (e : Device). e.status) d r d.status refl ∙ cond_same (named_of r) d.status

  receive_status : (a : ℕ) → (effect_of d (Receive a)).device.status ≡ cond (own_of d a && eqb d.pointer 0x02) 0 d.status
  unfolding effect_of masked_of
  receive_status a =
      cond_ind (λ (o : Outcome). o.device.status ≡ cond (own_of d a && eqb d.pointer 0x02) 0 d.status) (eqb a alert_response)
      (λ t. rw (response_apart d a t) (respond_leaves (λ (e : Device). e.status) d refl))
      (λ _. at_moves (λ (e : Device). e.status) d a (get_of d d.pointer) (eqb d.pointer 0x02) 0 (get_status d.pointer))

  sense_status : (local : ℕ) (remote : Reading) (broken : Bool) →
      let o = sense_of d local remote broken in o.device.status ≡ cond (taken_of d) (bit_or d.status o.device.sensed.live) d.status
  unfolding sense_of takes_of converted_of
  sense_status local remote broken = split (takes_of d)
    where
      after : Outcome
      after = taking_of d local remote broken

      split : (t : Bool) →
          (cond t after (silent_of d)).device.status ≡ cond t (bit_or d.status (cond t after (silent_of d)).device.sensed.live) d.status
      split true = refl
      split false = refl

pub status_moves : (d : Device) (e : Event) → (effect_of d e).device.status ≡ status_after d e (effect_of d e).device.sensed.live
unfolding effect_of powered_of
status_moves d (Write a w v) = at_leaves (λ (e : Device). e.status) d a (put_of d w v) (put_status d w v)
status_moves d (Read a r) = at_moves (λ (e : Device). e.status) d a (get_of d r) (eqb r 0x02) 0 (get_status d r)
status_moves d (Send a r) = at_leaves (λ (e : Device). e.status) d a (point_of d r) (point_status d r)
status_moves d (Receive a) = receive_status d a
status_moves d (Convert local high low) = sense_status d local _ false
status_moves d (Open local) = sense_status d local _ true
status_moves d PowerOn = zero_at d.variant 0x02 refl
status_moves d (ConvertSecond local high low) = sense_status d local _ false
status_moves d (OpenSecond local) = sense_status d local _ true

-- ---- the kept low byte, by request a

module _ (d : Device) where
  read_low : (r : ℕ) → kept_low (after_read_of (pointed_of d r) r) ≡ low_after_read d true r
  unfolding masked_of
  read_low r =
      read_ind (λ (e : Device). kept_low e ≡ low_after_read d true r) (pointed_of d r) r
      (λ t. rw t) (λ t _. rw (eqb-true r 0x02 t)) (λ t _. rw (eqb-true r 0x02 t)) (λ t. rw (eqb-true r 0x10 t)) (λ s _ t. rw (s, t))

  get_low : (r : ℕ) → kept_low (get_of d r).device ≡ low_after_read d true r
  unfolding get_of readable_of
  get_low r = cond_ind (λ (o : Outcome). kept_low o.device ≡ low_after_read d true r) (readable_of r)
      (λ _. read_low r)
      (λ m. rw (outside r_set 0x01 r refl m, outside r_set 0x10 r refl m))

  at_low : (a r : ℕ) → kept_low (at_of d a (get_of d r)).device ≡ low_after_read d (own_of d a) r
  unfolding address_of
  at_low a r = split (own_of d a)
    where
      split : (s : Bool) → kept_low (cond s (get_of d r) (silent_of d)).device ≡ low_after_read d s r
      split true = get_low r
      split false = refl

  put_low : (w v : ℕ) → kept_low (put_of d w v).device ≡ kept_low d
  unfolding fired_of stored_of
  put_low w v =
      put_moves kept_low d w v (kept_low d) (cond_ind (λ (e : Device). kept_low e ≡ kept_low d) (eqb w 0x0F) (λ _. refl) (λ _. refl))
      ∙ cond_same (among w w_set) (kept_low d)

  point_low : (r : ℕ) → kept_low (point_of d r).device ≡ kept_low d
  point_low r = point_moves kept_low d r (kept_low d) refl ∙ cond_same (named_of r) (kept_low d)

  receive_low : (a : ℕ) → kept_low (effect_of d (Receive a)).device ≡ low_after_read d (own_of d a) d.pointer
  unfolding effect_of masked_of
  receive_low a =
      cond_ind (λ (o : Outcome). kept_low o.device ≡ low_after_read d (own_of d a) d.pointer) (eqb a alert_response)
      (λ t. rw (response_apart d a t) (respond_leaves kept_low d refl))
      (λ _. at_low a d.pointer)

  sense_low : (local : ℕ) (remote : Reading) (broken : Bool) → kept_low (sense_of d local remote broken).device ≡ kept_low d
  unfolding converted_of
  sense_low local remote broken = sense_moves kept_low d local remote broken (kept_low d) refl ∙ cond_same (taken_of d) (kept_low d)

pub low_moves : (d : Device) (e : Event) → kept_low (effect_of d e).device ≡ low_after d e
unfolding effect_of powered_of
low_moves d (Write a w v) = at_leaves kept_low d a (put_of d w v) (put_low d w v)
low_moves d (Read a r) = at_low d a r
low_moves d (Send a r) = at_leaves kept_low d a (point_of d r) (point_low d r)
low_moves d (Receive a) = receive_low d a
low_moves d (Convert local high low) = sense_low d local _ false
low_moves d (Open local) = sense_low d local _ true
low_moves d PowerOn = refl
low_moves d (ConvertSecond local high low) = sense_low d local _ false
low_moves d (OpenSecond local) = sense_low d local _ true

-- ---- the readings and the fault count

pub local_moves : (d : Device) (e : Event) → (effect_of d e).device.sensed.local ≡ local_after d e
unfolding effect_of powered_of converted_of sensed_of
local_moves d (Write a w v) = ap (λ (s : Sensed). s.local) (still d (Write a w v) tt)
local_moves d (Read a r) = ap (λ (s : Sensed). s.local) (still d (Read a r) tt)
local_moves d (Send a r) = ap (λ (s : Sensed). s.local) (still d (Send a r) tt)
local_moves d (Receive a) = ap (λ (s : Sensed). s.local) (still d (Receive a) tt)
local_moves d (Convert local high low) = sense_moves (λ (e : Device). e.sensed.local) d local _ false local refl
local_moves d (Open local) = sense_moves (λ (e : Device). e.sensed.local) d local _ true local refl
local_moves d PowerOn = zero_at d.variant 0x00 refl
local_moves d (ConvertSecond local high low) = sense_moves (λ (e : Device). e.sensed.local) d local _ false local refl
local_moves d (OpenSecond local) = sense_moves (λ (e : Device). e.sensed.local) d local _ true local refl

powered_remote : (v : ℕ) → eighths_of (read_only_of v 0x01) (read_only_of v 0x10) ≡ pos 0
unfolding eighths_of degrees_of
powered_remote v = rw (zero_at v 0x01 refl, zero_at v 0x10 refl)

sample_remote : (d : Device) (local high low : ℕ) → (sense_of d local (reading_of d.settings high low) false).device.sensed.remote
    ≡ cond (taken_of d) (sample_of d high low) d.sensed.remote
unfolding converted_of sensed_of reading_of sum_of
sample_remote d local high low =
    sense_moves (λ (e : Device). e.sensed.remote) d local _ false (sample_of d high low) (held_eighths (sum_at d high low))

pub remote_moves : (d : Device) (e : Event) → (effect_of d e).device.sensed.remote ≡ remote_after d e
unfolding effect_of powered_of converted_of sensed_of
remote_moves d (Write a w v) = ap (λ (s : Sensed). s.remote) (still d (Write a w v) tt)
remote_moves d (Read a r) = ap (λ (s : Sensed). s.remote) (still d (Read a r) tt)
remote_moves d (Send a r) = ap (λ (s : Sensed). s.remote) (still d (Send a r) tt)
remote_moves d (Receive a) = ap (λ (s : Sensed). s.remote) (still d (Receive a) tt)
remote_moves d (Convert local high low) = sample_remote d local high low
remote_moves d (Open local) = sense_moves (λ (e : Device). e.sensed.remote) d local _ true (pos 1016) refl
remote_moves d PowerOn = powered_remote d.variant
remote_moves d (ConvertSecond local high low) = sample_remote d local high low
remote_moves d (OpenSecond local) = sense_moves (λ (e : Device). e.sensed.remote) d local _ true (pos 1016) refl

-- a T_CRIT is its byte times 8
crit_eighths : (b : ℕ) → eighths_of b 0 ≡ degrees_of b *ℤ pos 8
unfolding eighths_of
crit_eighths b = +ℤ_idr (degrees_of b *ℤ pos 8)

count_outside : (d : Device) (t : ℤ) → count_of d.sensed.faults (any_of (remote_out_of d.settings t)) ≡ count_after d t
unfolding count_of any_of out_of remote_limits_of
count_outside d t = ap (λ (crit : ℤ). counted (lt_z crit t)) (crit_eighths (byte_at d 0x19)) ∙ split above below (lt_z (degrees_of (byte_at d 0x19) *ℤ pos 8) t)
  where
    above : Bool
    above = lt_z (eighths_of (byte_at d 0x07) (byte_at d 0x13)) t

    below : Bool
    below = lt_z t (eighths_of (byte_at d 0x08) (byte_at d 0x14))

    counted : Bool → ℕ
    counted crit = cond (above || below || crit) (min 3 (d.sensed.faults + 1)) 0

    split : (h l c : Bool) → cond (h || l || c) (min 3 (d.sensed.faults + 1)) 0 ≡ cond (not h && (not l && not c)) 0 (min 3 (d.sensed.faults + 1))
    split true l c = refl
    split false true c = refl
    split false false true = refl
    split false false false = refl

converted_faults : (d : Device) (local : ℕ) (t : ℤ) (broken : Bool) → (converted_of d local t broken).sensed.faults ≡ count_after d t
unfolding converted_of sensed_of
converted_faults d local t broken = count_outside d t

sample_faults : (d : Device) (local high low : ℕ) → (sense_of d local (reading_of d.settings high low) false).device.sensed.faults
    ≡ cond (taken_of d) (count_after d (sample_of d high low)) d.sensed.faults
unfolding reading_of sum_of
sample_faults d local high low =
    let count = converted_faults d local _ false ∙ ap (count_after d) (held_eighths (sum_at d high low)) in
    sense_moves (λ (e : Device). e.sensed.faults) d local _ false (count_after d (sample_of d high low)) count

open_faults : (d : Device) (local : ℕ) → (sense_of d local open_reading true).device.sensed.faults
    ≡ cond (taken_of d) (count_after d (pos 1016)) d.sensed.faults
open_faults d local =
    sense_moves (λ (e : Device). e.sensed.faults) d local open_reading true (count_after d (pos 1016)) (converted_faults d local (pos 1016) true)

pub faults_moves : (d : Device) (e : Event) → (effect_of d e).device.sensed.faults ≡ faults_after d e
unfolding effect_of powered_of
faults_moves d (Write a w v) = ap (λ (s : Sensed). s.faults) (still d (Write a w v) tt)
faults_moves d (Read a r) = ap (λ (s : Sensed). s.faults) (still d (Read a r) tt)
faults_moves d (Send a r) = ap (λ (s : Sensed). s.faults) (still d (Send a r) tt)
faults_moves d (Receive a) = ap (λ (s : Sensed). s.faults) (still d (Receive a) tt)
faults_moves d (Convert local high low) = sample_faults d local high low
faults_moves d (Open local) = open_faults d local
faults_moves d PowerOn = refl
faults_moves d (ConvertSecond local high low) = sample_faults d local high low
faults_moves d (OpenSecond local) = open_faults d local

-- ---- the live byte and the latches, with the readings and the count

sense_rests : (d : Device) (local : ℕ) (remote : Reading) (broken : Bool) → not (taken_of d) ≡ true → (sense_of d local remote broken).device.sensed ≡ d.sensed
unfolding sense_of takes_of
sense_rests d local remote broken = split (takes_of d)
  where
    split : (t : Bool) → not t ≡ true
        → (cond t (taking_of d local remote broken) (silent_of d)).device.sensed ≡ d.sensed
    split true e = clash e
    split false e = refl

-- P8: only taken conversions and power-on move them
pub sensed_rests : (d : Device) (e : Event) → rests_at d e ≡ true → (effect_of d e).device.sensed ≡ d.sensed
unfolding effect_of
sensed_rests d (Write a w v) h = still d (Write a w v) tt
sensed_rests d (Read a r) h = still d (Read a r) tt
sensed_rests d (Send a r) h = still d (Send a r) tt
sensed_rests d (Receive a) h = still d (Receive a) tt
sensed_rests d (Convert local high low) h = sense_rests d local _ false h
sensed_rests d (Open local) h = sense_rests d local _ true h
sensed_rests d PowerOn h = clash h
sensed_rests d (ConvertSecond local high low) h = sense_rests d local _ false h
sensed_rests d (OpenSecond local) h = sense_rests d local _ true h

-- and power-on leaves both readings 0, no live bit, no fault counted and no latch set
pub sensed_starts : (d : Device)
    → (effect_of d PowerOn).device.sensed ≡ record { local = 0; remote = pos 0; live = 0; faults = 0; llatch = false; rlatch = false }
unfolding effect_of powered_of
sensed_starts d = rw (powered_remote d.variant, zero_at d.variant 0x00 refl)

-- ---- acknowledged, taken and held

module _ (d : Device) where
  pub at_acknowledged : (a : ℕ) (own : Outcome) (t : Bool) → own.acknowledged ≡ t → (at_of d a own).acknowledged ≡ (own_of d a && t)
  unfolding address_of
  at_acknowledged a own t h = split (own_of d a)
    where
      split : (s : Bool) → (cond s own (silent_of d)).acknowledged ≡ (s && t)
      split true = h
      split false = refl

  answered_or_silent : (t : Bool) (e : Device) (byte : ℕ) → (cond t (answered_of e byte) (silent_of d)).acknowledged ≡ t
  answered_or_silent true e byte = refl
  answered_or_silent false e byte = refl

  put_acknowledged : (w v : ℕ) → (put_of d w v).acknowledged ≡ among w w_set
  unfolding put_of writable_of
  put_acknowledged w v = answered_or_silent (writable_of w) (written_of d w v) 0

  get_acknowledged : (r : ℕ) → (get_of d r).acknowledged ≡ among r r_set
  unfolding get_of readable_of
  get_acknowledged r = answered_or_silent (readable_of r) (after_read_of (pointed_of d r) r) (value_of d r)

  point_acknowledged : (r : ℕ) → (point_of d r).acknowledged ≡ named_of r
  unfolding point_of known_of readable_of writable_of
  point_acknowledged r = answered_or_silent (known_of r) (pointed_of d r) 0

  -- P7 under BF D0 = 0 looks at status
  pub responds_exactly : responds_of d ≡ answers_alert d
  unfolding responds_of alert_of watched_of comparator_of
  responds_exactly = split (not (any_set (byte_at d 0x03) 0x80)) (any_set (byte_at d 0xBF) 0x01)
    where
      split : (m c : Bool) → ((m && any_set (cond c d.sensed.live d.status) 0x7B) && not c) ≡ (m && (not c && any_set d.status 0x7B))
      split false c = refl
      split true true = and-false (any_set d.sensed.live 0x7B)
      split true false = and-true (any_set d.status 0x7B)

  respond_acknowledged : (respond_of d).acknowledged ≡ answers_alert d
  unfolding respond_of
  respond_acknowledged = answered_or_silent (responds_of d) (masked_of d) (address_of d.variant * 2 + 1) ∙ responds_exactly

  receive_acknowledged : (a : ℕ) → (effect_of d (Receive a)).acknowledged ≡ ((own_of d a && among d.pointer r_set) || (eqb a 0x0C && answers_alert d))
  unfolding effect_of
  receive_acknowledged a = by_test (eqb a 0x0C) respond get
    where
      respond : eqb a 0x0C ≡ true → (effect_of d (Receive a)).acknowledged ≡ ((own_of d a && among d.pointer r_set) || (eqb a 0x0C && answers_alert d))
      respond t = rw (response_apart d a t, t) respond_acknowledged

      get : eqb a 0x0C ≡ false → (effect_of d (Receive a)).acknowledged ≡ ((own_of d a && among d.pointer r_set) || (eqb a 0x0C && answers_alert d))
      get t =
          rw (t, or-false (own_of d a && among d.pointer r_set))
          (at_acknowledged a (get_of d d.pointer) (among d.pointer r_set) (get_acknowledged d.pointer))

  sense_unacknowledged : (local : ℕ) (remote : Reading) (broken : Bool) → (sense_of d local remote broken).acknowledged ≡ false
  unfolding sense_of
  sense_unacknowledged local remote broken = cond_ind (λ (o : Outcome). o.acknowledged ≡ false) (takes_of d) (λ _. refl) (λ _. refl)

pub acknowledged_exactly : (d : Device) (e : Event) → (effect_of d e).acknowledged ≡ acknowledged_of d e
unfolding effect_of
acknowledged_exactly d (Write a w v) = at_acknowledged d a (put_of d w v) (among w w_set) (put_acknowledged d w v)
acknowledged_exactly d (Read a r) = at_acknowledged d a (get_of d r) (among r r_set) (get_acknowledged d r)
acknowledged_exactly d (Send a r) = at_acknowledged d a (point_of d r) (named_of r) (point_acknowledged d r)
acknowledged_exactly d (Receive a) = receive_acknowledged d a
acknowledged_exactly d (Convert local high low) = sense_unacknowledged d local _ false
acknowledged_exactly d (Open local) = sense_unacknowledged d local _ true
acknowledged_exactly d PowerOn = refl
acknowledged_exactly d (ConvertSecond local high low) = sense_unacknowledged d local _ false
acknowledged_exactly d (OpenSecond local) = sense_unacknowledged d local _ true

-- a yes or no of an outcome that silence and every acknowledgement leave at no: every event on the bus does
module _ (f : Outcome → Bool) (silent : (d : Device) → f (silent_of d) ≡ false) (answered : (d : Device) (byte : ℕ) → f (answered_of d byte) ≡ false) where
  choice_none : (d after : Device) (t : Bool) (byte : ℕ) → f (cond t (answered_of after byte) (silent_of d)) ≡ false
  choice_none d after true byte = answered after byte
  choice_none d after false byte = silent d

  at_none : (d : Device) (a : ℕ) (own : Outcome) → f own ≡ false → f (at_of d a own) ≡ false
  at_none d a own h = cond_ind (λ (o : Outcome). f o ≡ false) (eqb a (address_of d.variant)) (λ _. h) (λ _. silent d)

  bus_none : (d : Device) (e : Event) → OnBus e → f (effect_of d e) ≡ false
  unfolding effect_of put_of get_of point_of respond_of
  bus_none d (Write a w v) h = at_none d a (put_of d w v) (choice_none d (written_of d w v) (writable_of w) 0)
  bus_none d (Read a r) h = at_none d a (get_of d r) (choice_none d (after_read_of (pointed_of d r) r) (readable_of r) (value_of d r))
  bus_none d (Send a r) h = at_none d a (point_of d r) (choice_none d (pointed_of d r) (known_of r) 0)
  bus_none d (Receive a) h =
      let p = d.pointer in
      cond_ind (λ (o : Outcome). f o ≡ false) (eqb a alert_response)
      (λ _. choice_none d (masked_of d) (responds_of d) (address_of d.variant * 2 + 1))
      (λ _. at_none d a (get_of d p) (choice_none d (after_read_of (pointed_of d p) p) (readable_of p) (value_of d p)))
  bus_none d (Convert local high low) h = absurd h
  bus_none d (Open local) h = absurd h
  bus_none d PowerOn h = absurd h
  bus_none d (ConvertSecond local high low) h = absurd h
  bus_none d (OpenSecond local) h = absurd h

untaken : (d : Device) (e : Event) → OnBus e → (effect_of d e).taken ≡ false
untaken = bus_none (λ (o : Outcome). o.taken) (λ d. refl) (λ d byte. refl)

unheld : (d : Device) (e : Event) → OnBus e → (effect_of d e).held ≡ false
unheld = bus_none (λ (o : Outcome). o.held) (λ d. refl) (λ d byte. refl)

module _ (d : Device) where
  sense_taken : (local : ℕ) (remote : Reading) (broken : Bool) → (sense_of d local remote broken).taken ≡ taken_of d
  unfolding sense_of takes_of
  sense_taken local remote broken = split (takes_of d)
    where
      split : (t : Bool) → (cond t (taking_of d local remote broken) (silent_of d)).taken ≡ t
      split true = refl
      split false = refl

  sense_held : (local : ℕ) (remote : Reading) (broken : Bool) → (sense_of d local remote broken).held ≡ (taken_of d && remote.held)
  unfolding sense_of takes_of
  sense_held local remote broken = split (takes_of d)
    where
      split : (t : Bool) → (cond t (taking_of d local remote broken) (silent_of d)).held ≡ (t && remote.held)
      split true = refl
      split false = refl

pub taken_exactly : (d : Device) (e : Event) → (effect_of d e).taken ≡ taken_by d e
unfolding effect_of
taken_exactly d (Write a w v) = untaken d (Write a w v) tt
taken_exactly d (Read a r) = untaken d (Read a r) tt
taken_exactly d (Send a r) = untaken d (Send a r) tt
taken_exactly d (Receive a) = untaken d (Receive a) tt
taken_exactly d (Convert local high low) = sense_taken d local _ false
taken_exactly d (Open local) = sense_taken d local _ true
taken_exactly d PowerOn = refl
taken_exactly d (ConvertSecond local high low) = sense_taken d local _ false
taken_exactly d (OpenSecond local) = sense_taken d local _ true

pub held_exactly : (d : Device) (e : Event) → (effect_of d e).held ≡ held_by d e
unfolding effect_of reading_of sum_of
held_exactly d (Write a w v) = unheld d (Write a w v) tt
held_exactly d (Read a r) = unheld d (Read a r) tt
held_exactly d (Send a r) = unheld d (Send a r) tt
held_exactly d (Receive a) = unheld d (Receive a) tt
held_exactly d (Convert local high low) = sense_held d local _ false ∙ ap (λ (t : Bool). taken_of d && t) (held_tells (sum_at d high low))
held_exactly d (Open local) = sense_held d local open_reading true ∙ and-false (taken_of d)
held_exactly d PowerOn = refl
held_exactly d (ConvertSecond local high low) = sense_held d local _ false ∙ ap (λ (t : Bool). taken_of d && t) (held_tells (sum_at d high low))
held_exactly d (OpenSecond local) = sense_held d local open_reading true ∙ and-false (taken_of d)
