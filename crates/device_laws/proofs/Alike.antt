-- P12: `alike_event`, two devices alike answer every event alike but for a read of 04 or BF, and are alike after it; `alike_run`, so do
-- they over a row of events; `alike_second`, they stay alike over a row of events done at a second device (request c).
-- Assumes nothing.
use mathlib.Core.Path.{◌≡◌, refl, sym, ap, subst, ◌∙◌}
use mathlib.Core.Bool.{Bool, true, false, not, cond, ◌||◌, ◌&&◌}
use mathlib.Core.List.{List, [], ◌∷◌}
use Prim.Native.Nat.{ℕ, ◌+◌, ◌*◌}
use lib.IntN.{ℤ}
use lib.Dec.{eqb}
use lib.Bits.{bit_and, bit_or}
use borrow.Author.Tests.{eqb-true, eqb-false, ne_eqb}
use Rattle.laws.proofs.Choices.{by_test, clash}
use Rattle.temperature.specs.declared.Reading.{Reading}
use Rattle.temperature.specs.Temperature.{open_reading}
use Rattle.registers.specs.Bits.{has}
use Rattle.registers.specs.Page.{setting_of, changed_of, readable_of, writable_of, known_of, settable_of, read_at_of, kept_of, address_of}
use Rattle.conversion.specs.declared.Sensed.{Sensed}
use Rattle.conversion.specs.Conversion.{reading_of, local_limits_of, remote_limits_of, sensed_of}
use Rattle.device.specs.declared.Device.{Device}
use Rattle.device.specs.declared.Pins.{Pins}
use Rattle.device.specs.declared.Outcome.{Outcome}
use Rattle.device.specs.declared.Event.{Event}
use Rattle.device.specs.declared.Event.TheVariants.{Write, Read, Send, Receive, Convert, Open, PowerOn, ConvertSecond, OpenSecond}
use Rattle.device.specs.Pins.{comparator_of, watched_of, alert_of, tcrit_of, pins_of}
use Rattle.device.specs.Bus.{silent_of, answered_of, set_up_of, standby_of, pointed_of, masked_of, stored_of, stored_in, fired_of, written_of, put_of}
use Rattle.device.specs.Bus.{read_out_of, status_cleared_of, status_read_of, latest_low_of, low_kept_of, low_let_go_of, low_read_of, after_read_of}
use Rattle.device.specs.Bus.{read_only_value_of, value_of, get_of, point_of, responds_of, respond_of}
use Rattle.device.specs.Bus.{takes_of, gathered_of, converted_of, sense_of, alert_response, at_of}
use Rattle.device_laws.specs.Moves.{own_of}
use Rattle.device_laws.specs.Conversions.{after_all}
use Rattle.device_laws.specs.Alike.{blanked, blank_of, Alike, reads_them, AnswerAlike, shown_reply, shown_replies}
use Rattle.device.specs.Run.{Reply, ok, after_of}
use Rattle.device.specs.Ranges.{variant_of, ranged_of, operands_of, second_of}
use Rattle.device.specs.Step.{Stepped, effect_of, answer_of, step_of, stepped_of, refused_of}
use Rattle.device_laws.proofs.Changes.{setting_other, setting_mapped, changed_mapped, changed_same, changed_other}
use Rattle.device_laws.proofs.Codes.{second_refused}
use Rattle.device.proofs.Steps.{step_effect, ranged_after, variant_after}

-- ---- the fourteen bytes

-- what of a byte is not left out
abbrev shown_byte : ℕ → ℕ → ℕ
shown_byte q b = cond (eqb q 0x04) 0 (cond (eqb q 0xBF) (bit_and b 0x01) b)

module _ (s : List ℕ) where
  blanked_rate : (b : ℕ) → blanked (changed_of s 0x04 b) ≡ changed_of (blanked s) 0x04 0
  blanked_rate b =
      let x = bit_and (setting_of s 0xBF) 0x01 in
      ap (λ (y : ℕ). changed_of (changed_of (changed_of s 0x04 b) 0x04 0) 0xBF (bit_and y 0x01)) (setting_other s 0xBF 0x04 b refl)
      ∙ ap (λ (l : List ℕ). changed_of l 0xBF x) (changed_same s 0x04 b 0 ∙ sym (changed_same s 0x04 0 0))
      ∙ changed_other (changed_of s 0x04 0) 0x04 0xBF 0 x refl

  blanked_filter : (b : ℕ) → blanked (changed_of s 0xBF b) ≡ changed_of (blanked s) 0xBF (bit_and b 0x01)
  blanked_filter b =
      let u = changed_of s 0x04 0 in
      let swap = changed_other s 0xBF 0x04 b 0 refl in
      let same = sym (setting_other (changed_of s 0xBF b) 0xBF 0x04 0 refl) ∙ ap (λ (l : List ℕ). setting_of l 0xBF) swap in
      ap (λ (y : ℕ). changed_of (changed_of (changed_of s 0xBF b) 0x04 0) 0xBF (bit_and y 0x01)) same
      ∙ ap (λ (l : List ℕ). changed_of l 0xBF (bit_and (setting_of (changed_of u 0xBF b) 0xBF) 0x01)) swap
      ∙ changed_mapped (λ y. bit_and y 0x01) u 0xBF b
      ∙ sym (changed_same u 0xBF (bit_and (setting_of s 0xBF) 0x01) (bit_and b 0x01))

  blanked_other : (q b : ℕ) → eqb q 0x04 ≡ false → eqb q 0xBF ≡ false → blanked (changed_of s q b) ≡ changed_of (blanked s) q b
  blanked_other q b e f =
      let x = bit_and (setting_of s 0xBF) 0x01 in
      ap (λ (y : ℕ). changed_of (changed_of (changed_of s q b) 0x04 0) 0xBF (bit_and y 0x01)) (setting_other s 0xBF q b (turned q f))
      ∙ ap (λ (l : List ℕ). changed_of l 0xBF x) (changed_other s q 0x04 b 0 e)
      ∙ changed_other (changed_of s 0x04 0) q 0xBF b x f
    where
      turned : (q : ℕ) → eqb q 0xBF ≡ false → eqb 0xBF q ≡ false
      turned q h = ne_eqb 0xBF q (λ same. eqb-false q 0xBF h (sym same))

  blanked_changed : (q b : ℕ) → blanked (changed_of s q b) ≡ changed_of (blanked s) q (shown_byte q b)
  blanked_changed q b =
      by_test (eqb q 0x04) (λ t. rw (t, eqb-true q 0x04 t) (blanked_rate b))
      (λ t. by_test (eqb q 0xBF) (λ u. rw (t, u, eqb-true q 0xBF u) (blanked_filter b)) (λ u. rw (t, u) (blanked_other q b t u)))

  blanked_setting : (r : ℕ) → eqb r 0x04 ≡ false → eqb r 0xBF ≡ false → setting_of (blanked s) r ≡ setting_of s r
  blanked_setting r e f = setting_other (changed_of s 0x04 0) r 0xBF (bit_and (setting_of s 0xBF) 0x01) f ∙ setting_other s r 0x04 0 e

  blanked_mode : setting_of (blanked s) 0xBF ≡ bit_and (setting_of s 0xBF) 0x01
  blanked_mode =
      let u = changed_of s 0x04 0 in
      let same : setting_of u 0xBF ≡ setting_of s 0xBF = setting_other s 0xBF 0x04 0 refl in
      ap (λ (y : ℕ). setting_of (changed_of u 0xBF (bit_and y 0x01)) 0xBF) (sym same)
      ∙ setting_mapped (λ y. bit_and y 0x01) u 0xBF refl
      ∙ ap (λ (y : ℕ). bit_and y 0x01) same

-- ---- two lists alike

module _ (s t : List ℕ) (h : blanked s ≡ blanked t) where
  setting_alike : (r : ℕ) → eqb r 0x04 ≡ false → eqb r 0xBF ≡ false → setting_of s r ≡ setting_of t r
  setting_alike r e f = sym (blanked_setting s r e f) ∙ ap (λ (l : List ℕ). setting_of l r) h ∙ blanked_setting t r e f

  mode_alike : bit_and (setting_of s 0xBF) 0x01 ≡ bit_and (setting_of t 0xBF) 0x01
  mode_alike = sym (blanked_mode s) ∙ ap (λ (l : List ℕ). setting_of l 0xBF) h ∙ blanked_mode t

  changed_alike : (q b : ℕ) → blanked (changed_of s q b) ≡ blanked (changed_of t q b)
  changed_alike q b = blanked_changed s q b ∙ ap (λ (l : List ℕ). changed_of l q (shown_byte q b)) h ∙ sym (blanked_changed t q b)

  masked_alike : blanked (changed_of s 0x03 (bit_or (setting_of s 0x03) 0x80)) ≡ blanked (changed_of t 0x03 (bit_or (setting_of t 0x03) 0x80))
  masked_alike =
      ap (λ (x : ℕ). blanked (changed_of s 0x03 (bit_or x 0x80))) (setting_alike 0x03 refl refl)
      ∙ changed_alike 0x03 (bit_or (setting_of t 0x03) 0x80)

  standby_alike : standby_of s ≡ standby_of t
  standby_alike = ap (λ (x : ℕ). has x 0x40) (setting_alike 0x03 refl refl)

  local_limits_alike : local_limits_of s ≡ local_limits_of t
  unfolding local_limits_of
  local_limits_alike = rw (setting_alike 0x05 refl refl, setting_alike 0x06 refl refl, setting_alike 0x20 refl refl)

  remote_limits_alike : remote_limits_of s ≡ remote_limits_of t
  unfolding remote_limits_of
  remote_limits_alike =
      rw (setting_alike 0x07 refl refl, setting_alike 0x13 refl refl, setting_alike 0x08 refl refl, setting_alike 0x14 refl refl, setting_alike 0x19 refl refl)

  reading_alike : (high low : ℕ) → reading_of s high low ≡ reading_of t high low
  unfolding reading_of
  reading_alike high low = rw (setting_alike 0x11 refl refl, setting_alike 0x12 refl refl)

  sensed_alike : (old : Sensed) (local : ℕ) (remote : ℤ) (broken : Bool) → sensed_of s old local remote broken ≡ sensed_of t old local remote broken
  unfolding sensed_of
  sensed_alike old local remote broken =
      let e03 = setting_alike 0x03 refl refl in
      let e19 = setting_alike 0x19 refl refl in
      let e20 = setting_alike 0x20 refl refl in
      let e21 = setting_alike 0x21 refl refl in
      rw (local_limits_alike, remote_limits_alike, e03, e19, e20, e21)

-- ---- two outcomes alike

record Like (o p : Outcome) (hidden : Bool) : Type 0 where
  acknowledged : o.acknowledged ≡ p.acknowledged
  taken : o.taken ≡ p.taken
  held : o.held ≡ p.held
  byte : hidden ≡ false → o.byte ≡ p.byte
  device : Alike o.device p.device

choose : (k : Bool) (s t : Bool) {o p x y : Outcome} → s ≡ t → Like o p k → Like x y k → Like (cond s o x) (cond t p y) k
choose k true true e l m = l
choose k false false e l m = m
choose k true false e l m = clash (sym e)
choose k false true e l m = clash e

module _ (d : Device) (t : List ℕ) (h : blanked d.settings ≡ blanked t) where
  -- the device with other bytes
  abbrev other : Device
  other = set_up_of d d.pointer d.pending t

  set_alike : (p : ℕ) (x y : Bool) (a b : List ℕ) → x ≡ y → blanked a ≡ blanked b → Alike (set_up_of d p x a) (set_up_of other p y b)
  set_alike p x y a b e f = ap (λ (z : Bool). set_up_of d p z (blanked a)) e ∙ ap (λ (l : List ℕ). set_up_of d p y l) f

  answered_like : (k : Bool) (e f : Device) (byte : ℕ) → Alike e f → Like (answered_of e byte) (answered_of f byte) k
  answered_like k e f byte a = record { acknowledged = refl; taken = refl; held = refl; byte = λ _. refl; device = a }

  silent_like : (k : Bool) → Like (silent_of d) (silent_of other) k
  silent_like k =
      let same = set_alike d.pointer d.pending d.pending d.settings t refl h in
      record { acknowledged = refl; taken = refl; held = refl; byte = λ _. refl; device = same }

  comparator_alike : comparator_of d ≡ comparator_of other
  unfolding comparator_of
  comparator_alike = ap (λ (x : ℕ). not (eqb x 0)) (mode_alike d.settings t h)

  stored_alike : (w v : ℕ) → Alike (stored_of d w v) (stored_of other w v)
  unfolding stored_of
  stored_alike w v =
      let bytes = changed_alike d.settings t h (read_at_of w) (bit_and v (kept_of w)) in
      set_alike w _ _ (stored_in d w v) (stored_in other w v)
      (ap (λ (b : Bool). d.pending && b) (standby_alike (stored_in d w v) (stored_in other w v) bytes)) bytes

  fired_alike : Alike (fired_of d) (fired_of other)
  unfolding fired_of
  fired_alike = set_alike 0x0F _ _ d.settings t (ap (λ (b : Bool). d.pending || b) (standby_alike d.settings t h)) h

  put_like : (w v : ℕ) → Like (put_of d w v) (put_of other w v) false
  unfolding put_of
  put_like w v =
      choose false (writable_of w) (writable_of w) refl
      (answered_like false (written_of d w v) (written_of other w v) 0 (written (eqb w 0x0F))) (silent_like false)
    where
      written : (s : Bool) → Alike (cond s (fired_of d) (stored_of d w v)) (cond s (fired_of other) (stored_of other w v))
      written true = fired_alike
      written false = stored_alike w v

  value_alike : (r : ℕ) → eqb r 0x04 ≡ false → eqb r 0xBF ≡ false → value_of d r ≡ value_of other r
  unfolding value_of read_only_value_of low_read_of
  value_alike r e f = ap (λ (x : ℕ). cond (settable_of r) x (read_only_value_of d r)) (setting_alike d.settings t h r e f)

  -- P6: both set the mask bit, or neither
  status_read_alike : (r : ℕ) → Alike (status_read_of (pointed_of d r)) (status_read_of (pointed_of other r))
  unfolding status_read_of masked_of comparator_of
  status_read_alike r = split (comparator_of d) (comparator_of other) comparator_alike (has d.status 0x7B)
    where
      split : (a b : Bool) → a ≡ b → (c : Bool)
          → Alike (cond (not a && c) (masked_of (status_cleared_of (pointed_of d r))) (status_cleared_of (pointed_of d r)))
          (cond (not b && c) (masked_of (status_cleared_of (pointed_of other r))) (status_cleared_of (pointed_of other r)))
      split true true e c = ap (λ (l : List ℕ). status_cleared_of (set_up_of d r d.pending l)) h
      split false false e true = ap (λ (l : List ℕ). status_cleared_of (set_up_of d r d.pending l)) (masked_alike d.settings t h)
      split false false e false = ap (λ (l : List ℕ). status_cleared_of (set_up_of d r d.pending l)) h
      split true false e c = clash (sym e)
      split false true e c = clash e

  -- what a read leaves, by the register that it is of
  abbrev left_of : Bool → Bool → Bool → Device → Device
  left_of one two ten e = cond one (low_kept_of e) (cond two (status_read_of e) (cond ten (low_let_go_of e) e))

  -- request a: what is kept, and let go, is no setting's
  read_alike : (r : ℕ) → Alike (after_read_of (pointed_of d r) r) (after_read_of (pointed_of other r) r)
  unfolding after_read_of
  read_alike r = split (eqb r 0x01) (eqb r 0x02) (eqb r 0x10)
    where
      split : (one two ten : Bool) → Alike (left_of one two ten (pointed_of d r)) (left_of one two ten (pointed_of other r))
      split true two ten = ap (λ (l : List ℕ). read_out_of (set_up_of d r d.pending l) d.status (latest_low_of d) true) h
      split false true ten = status_read_alike r
      split false false true = ap (λ (l : List ℕ). read_out_of (set_up_of d r d.pending l) d.status 0 false) h
      split false false false = set_alike r d.pending d.pending d.settings t refl h

  get_like : (r : ℕ) → Like (get_of d r) (get_of other r) (eqb r 0x04 || eqb r 0xBF)
  unfolding get_of
  get_like r =
      choose (eqb r 0x04 || eqb r 0xBF) (readable_of r) (readable_of r) refl
      (record { acknowledged = refl; taken = refl; held = refl; byte = unless; device = read_alike r })
      (silent_like (eqb r 0x04 || eqb r 0xBF))
    where
      unless : (eqb r 0x04 || eqb r 0xBF) ≡ false → value_of d r ≡ value_of other r
      unless e = value_alike r (neither (eqb r 0x04) (eqb r 0xBF) e).0 (neither (eqb r 0x04) (eqb r 0xBF) e).1
        where
          neither : (a b : Bool) → (a || b) ≡ false → (a ≡ false) × (b ≡ false)
          neither true b e = clash (sym e)
          neither false b e = (refl, e)

  point_like : (r : ℕ) → Like (point_of d r) (point_of other r) false
  unfolding point_of
  point_like r =
      let pointed = set_alike r d.pending d.pending d.settings t refl h in
      choose false (known_of r) (known_of r) refl (answered_like false (pointed_of d r) (pointed_of other r) 0 pointed) (silent_like false)

  pins_other : pins_of d ≡ pins_of other
  unfolding pins_of alert_of tcrit_of watched_of comparator_of
  pins_other =
      ap (λ (c : ℕ). pulled c (bit_and (setting_of d.settings 0xBF) 0x01)) (setting_alike d.settings t h 0x03 refl refl)
      ∙ ap (pulled (setting_of t 0x03)) (mode_alike d.settings t h)
    where
      pulled : ℕ → ℕ → Pins
      pulled configuration mode =
          record {
            alert = not (has configuration 0x80) && has (cond (not (eqb mode 0)) d.sensed.live d.status) 0x7B;
            tcrit = (d.sensed.llatch && not (has configuration 0x04)) || (d.sensed.rlatch && not (has configuration 0x10));
          }

  responds_alike : responds_of d ≡ responds_of other
  unfolding responds_of pins_of
  responds_alike =
      ap (λ (p : Pins). p.alert && not (comparator_of d)) pins_other ∙ ap (λ (c : Bool). alert_of other && not c) comparator_alike

  respond_like : (k : Bool) → Like (respond_of d) (respond_of other) k
  unfolding respond_of masked_of
  respond_like k =
      let masked = set_alike d.pointer d.pending d.pending _ _ refl (masked_alike d.settings t h) in
      choose k (responds_of d) (responds_of other) responds_alike
      (answered_like k (masked_of d) (masked_of other) (address_of d.variant * 2 + 1) masked)
      (silent_like k)

  takes_alike : takes_of d ≡ takes_of other
  unfolding takes_of
  takes_alike = ap (λ (b : Bool). not b || d.pending) (standby_alike d.settings t h)

  converted_alike : (local : ℕ) (remote : ℤ) (broken : Bool) → Alike (converted_of d local remote broken) (converted_of other local remote broken)
  unfolding converted_of
  converted_alike local remote broken =
      let n = sensed_of t d.sensed local remote broken in
      ap (λ (m : Sensed). blank_of (gathered_of d m)) (sensed_alike d.settings t h d.sensed local remote broken)
      ∙ ap (λ (l : List ℕ). set_up_of (gathered_of d n) d.pointer false l) h

  sense_like : (local : ℕ) (r q : Reading) (broken : Bool) → r ≡ q → Like (sense_of d local r broken) (sense_of other local q broken) false
  unfolding sense_of
  sense_like local r q broken e = subst (λ (z : Reading). Like (sense_of d local r broken) (sense_of other local z broken) false) e same
    where
      same : Like (sense_of d local r broken) (sense_of other local r broken) false
      same =
          choose false (takes_of d) (takes_of other) takes_alike
          (record { acknowledged = refl; taken = refl; held = refl; byte = λ _. refl; device = converted_alike local r.eighths broken })
          (silent_like false)

  at_like : (k : Bool) (a : ℕ) (o p : Outcome) → Like o p k → Like (at_of d a o) (at_of other a p) (own_of d a && k)
  unfolding address_of
  at_like k a o p l = split (own_of d a)
    where
      split : (s : Bool) → Like (cond s o (silent_of d)) (cond s p (silent_of other)) (s && k)
      split true = l
      split false = silent_like false

  at_like_plain : (a : ℕ) (o p : Outcome) → Like o p false → Like (at_of d a o) (at_of other a p) false
  at_like_plain a o p l = choose false (eqb a (address_of d.variant)) (eqb a (address_of d.variant)) refl l (silent_like false)

  event_like : (e : Event) → Like (effect_of d e) (effect_of other e) (reads_them d e)
  unfolding effect_of
  event_like (Write a w v) = at_like_plain a (put_of d w v) (put_of other w v) (put_like w v)
  event_like (Read a r) = at_like (eqb r 0x04 || eqb r 0xBF) a (get_of d r) (get_of other r) (get_like r)
  event_like (Send a r) = at_like_plain a (point_of d r) (point_of other r) (point_like r)
  event_like (Receive a) =
      let p = d.pointer in
      let k = eqb p 0x04 || eqb p 0xBF in
      choose (own_of d a && k) (eqb a alert_response) (eqb a alert_response) refl (respond_like (own_of d a && k))
      (at_like k a (get_of d p) (get_of other p) (get_like p))
  event_like (Convert local high low) = sense_like local _ _ false (reading_alike d.settings t h high low)
  event_like (Open local) = sense_like local open_reading open_reading true refl
  event_like PowerOn = record { acknowledged = refl; taken = refl; held = refl; byte = λ _. refl; device = refl }
  event_like (ConvertSecond local high low) = sense_like local _ _ false (reading_alike d.settings t h high low)
  event_like (OpenSecond local) = sense_like local open_reading open_reading true refl

  reads_other : (e : Event) → reads_them d e ≡ reads_them other e
  reads_other (Write a w v) = refl
  reads_other (Read a r) = refl
  reads_other (Send a r) = refl
  reads_other (Receive a) = refl
  reads_other (Convert local high low) = refl
  reads_other (Open local) = refl
  reads_other PowerOn = refl
  reads_other (ConvertSecond local high low) = refl
  reads_other (OpenSecond local) = refl

-- ---- two devices alike

module _ (d e : Device) (a : Alike d e) where
  bytes_alike : blanked d.settings ≡ blanked e.settings
  bytes_alike = ap (λ (x : Device). x.settings) a

  -- the second is the first with bytes of its own
  alike_ind : (P : Device → Type 0) → P (set_up_of d d.pointer d.pending e.settings) → P e
  alike_ind P p = subst P (ap (λ (x : Device). set_up_of x x.pointer x.pending e.settings) a) p

  pub pins_alike : pins_of d ≡ pins_of e
  pins_alike = alike_ind (λ (x : Device). pins_of d ≡ pins_of x) (pins_other d e.settings bytes_alike)

  like : (event : Event) → Like (effect_of d event) (effect_of e event) (reads_them d event)
  like event =
      alike_ind (λ (x : Device). Like (effect_of d event) (effect_of x event) (reads_them d event)) (event_like d e.settings bytes_alike event)

  reads_alike : (event : Event) → reads_them d event ≡ reads_them e event
  reads_alike event = alike_ind (λ (x : Device). reads_them d event ≡ reads_them x event) (reads_other d e.settings bytes_alike event)

  variant_alike : d.variant ≡ e.variant
  variant_alike = ap (λ (x : Device). x.variant) a

first_alike : (o p : Outcome) (k : Bool) → Like o p k → answer_of o ≡ answer_of p
unfolding answer_of
first_alike o p k l = rw (pins_alike o.device p.device l.device, l.acknowledged, l.taken, l.held)

pub alike_event : (d e : Device) (event : Event) → Alike d e → AnswerAlike d e event
alike_event d e event a =
    let l = like d e a event in
    record {
      acknowledged = l.acknowledged;
      taken = l.taken;
      held = l.held;
      first = first_alike (effect_of d event) (effect_of e event) (reads_them d event) l;
      byte = l.byte;
      after = l.device;
    }

-- ---- over a row of events

-- a step's reply, without its second byte where k says so
abbrev shown : Bool → Stepped → Reply
shown k s = record { code = s.code; first = s.first; second = cond k 0 s.second }

reply_alike : (d e : Device) (event : Event) → Alike d e
    → shown (reads_them d event) (stepped_of (effect_of d event)) ≡ shown (reads_them e event) (stepped_of (effect_of e event))
reply_alike d e event a =
    let l = alike_event d e event a in
    let x = (effect_of d event).byte in
    let y = (effect_of e event).byte in
    let k = reads_them d event in
    ap (λ (f : ℕ). ok f (cond k 0 x)) l.first
    ∙ ap (ok (answer_of (effect_of e event))) (seconds k x y l.byte)
    ∙ ap (λ (m : Bool). ok (answer_of (effect_of e event)) (cond m 0 y)) (reads_alike d e a event)
  where
    seconds : (k : Bool) (x y : ℕ) → (k ≡ false → x ≡ y) → cond k 0 x ≡ cond k 0 y
    seconds true x y h = refl
    seconds false x y h = h refl

refused_reply : (k m : Bool) (d e : Device) (code : ℕ) → shown k (refused_of d code) ≡ shown m (refused_of e code)
refused_reply true true d e code = refl
refused_reply true false d e code = refl
refused_reply false true d e code = refl
refused_reply false false d e code = refl

step_operand : (d : Device) (event : Event) → variant_of d.variant ≡ true → ranged_of d ≡ true → second_of event ≡ false → operands_of event ≡ false
    → step_of d event ≡ refused_of d 4
unfolding step_of
step_operand d event variant ranged own operands = rw (variant, ranged, own, operands)

module _ (d e : Device) (event : Event) (a : Alike d e) (variant : variant_of d.variant ≡ true) (rd : ranged_of d ≡ true) (re : ranged_of e ≡ true) where
  variant_of_second : variant_of e.variant ≡ true
  variant_of_second = ap variant_of (sym (variant_alike d e a)) ∙ variant

  -- one step: the same reply, and devices alike
  abbrev StepAlike : Type 0
  StepAlike = (shown_reply d event ≡ shown_reply e event) × Alike (step_of d event).device (step_of e event).device

  admitted : second_of event ≡ false → operands_of event ≡ true → StepAlike
  admitted own h =
      let p = step_effect d event variant rd own h in
      let q = step_effect e event variant_of_second re own h in (
        ap (shown (reads_them d event)) p ∙ reply_alike d e event a ∙ sym (ap (shown (reads_them e event)) q),
        ap (λ (s : Stepped). blank_of s.device) p ∙ (alike_event d e event a).after ∙ sym (ap (λ (s : Stepped). blank_of s.device) q),
      )

  refused : (code : ℕ) → step_of d event ≡ refused_of d code → step_of e event ≡ refused_of e code → StepAlike
  refused code p q = (
    ap (shown (reads_them d event)) p ∙ refused_reply (reads_them d event) (reads_them e event) d e code ∙ sym (ap (shown (reads_them e event)) q),
    ap (λ (s : Stepped). blank_of s.device) p ∙ a ∙ sym (ap (λ (s : Stepped). blank_of s.device) q),
  )

  step_alike : StepAlike
  step_alike =
      by_test (second_of event)
      (λ s. refused 3
      (second_refused d event (record { variant = variant; ranges = rd }) s)
      (second_refused e event (record { variant = variant_of_second; ranges = re }) s))
      (λ s. by_test (operands_of event) (admitted s)
      (λ o. refused 4 (step_operand d event variant rd s o) (step_operand e event variant_of_second re s o)))

pub alike_run : (events : List Event) (d e : Device) → Alike d e → variant_of d.variant ≡ true → ranged_of d ≡ true → ranged_of e ≡ true
    → (shown_replies d events ≡ shown_replies e events) × Alike (after_of d events) (after_of e events)
alike_run [] d e a v rd re = (refl, a)
alike_run (x ∷ xs) d e a v rd re =
    let s = step_alike d e x a v rd re in
    let d' = (step_of d x).device in
    let e' = (step_of e x).device in
    let rest = alike_run xs d' e' s.1 (variant_after d x v) (ranged_after d x rd) (ranged_after e x re) in
    (ap (λ (r : Reply). r ∷ shown_replies d' xs) s.0 ∙ ap (λ (l : List Reply). shown_reply e x ∷ l) rest.0, rest.1)

-- request c: kinds 08 and 09 among them
pub alike_second : (events : List Event) (d e : Device) → Alike d e → Alike (after_all d events) (after_all e events)
alike_second [] d e a = a
alike_second (x ∷ xs) d e a = alike_second xs (effect_of d x).device (effect_of e x).device (alike_event d e x a).after
