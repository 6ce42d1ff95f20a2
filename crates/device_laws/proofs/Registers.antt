-- What moves the fourteen register bytes, and the byte read, by register numbers: `setting_moves` and `byte_exactly`.
-- Assumes nothing.
use mathlib.Core.Path.{◌≡◌, refl, sym, ap, ◌∙◌}
use mathlib.Core.Bool.{Bool, true, false, cond, ◌||◌, ◌&&◌, or-false}
use mathlib.Core.List.{List, map}
use Prim.Native.Nat.{ℕ, zero, suc, ◌+◌, ◌*◌, ◌≤◌}
use native.Mathlib.Omega.{arith}
use lib.Dec.{eqb, leb}
use lib.Bits.{bit_and, bit_or}
use lib.ListN.{get_or, length}
use borrow.Author.Tests.{eqb-true, leb-true}
use Rattle.laws.proofs.Choices.{cond_ind, by_test, clash, and_left, and_right}
use Rattle.temperature.specs.declared.Reading.{Reading}
use Rattle.std.specs.Prelude.{Option, Some, None}
use Rattle.registers.specs.Page.{r_set, w_set, Settable, settable, among, on_position, readable_of, writable_of, known_of, address_of, read_at_of}
use Rattle.registers.specs.Page.{kept_of, settable_of, read_position_of, setting_of, power_on_of, read_only_of}
use Rattle.registers.proofs.Settings.{somewhere, settable_position}
use Rattle.device.specs.declared.Device.{Device}
use Rattle.device.specs.declared.Outcome.{Outcome}
use Rattle.device.specs.declared.Event.{Event}
use Rattle.device.specs.declared.Event.TheVariants.{Write, Read, Send, Receive, Convert, Open, PowerOn, ConvertSecond, OpenSecond}
use Rattle.device.specs.Pins.{comparator_of}
use Rattle.device.specs.Bus.{silent_of, answered_of, masked_of, stored_of, fired_of, put_of, pointed_of, read_out_of, low_read_of}
use Rattle.device.specs.Bus.{after_read_of, read_only_value_of, value_of, get_of, point_of, responds_of, respond_of, converted_of}
use Rattle.device.specs.Bus.{takes_of, sense_of, powered_of, at_of}
use Rattle.device_laws.specs.Moves.{byte_at, own_of, taken_of, named_of, fourteen, read_number, kept_bits, start_byte, finds_alert, masked_at, answers_alert}
use Rattle.device_laws.specs.Moves.{setting_after, shown_at, register_byte, byte_read}
use Rattle.device.specs.Ranges.{variant_of}
use Rattle.device.specs.Step.{effect_of}
use Rattle.device.proofs.AfterRead.{read_ind}
use Rattle.device_laws.proofs.Changes.{on_list, setting_changed}
use Rattle.device_laws.proofs.Moves.{cond_same, outside, response_apart, at_moves, at_leaves, point_moves, sense_moves, responds_exactly}

-- ---- choices

-- a test that is known
under : {A : Type 0} (s t : Bool) (x y : A) → s ≡ true → cond (s && t) x y ≡ cond t x y
under true t x y e = refl
under false t x y e = clash e

beside : {A : Type 0} (s t : Bool) (x y : A) → s ≡ false → cond (s && t) x y ≡ y
beside true t x y e = clash (sym e)
beside false t x y e = refl

-- the variants
variants : (P : ℕ → Type 0) → P 1 → P 2 → P 3 → (v : ℕ) → variant_of v ≡ true → P v
unfolding variant_of
variants P one two three v e = split v (leb-true 1 v (and_left (leb 1 v) (leb v 3) e)) (leb-true v 3 (and_right (leb 1 v) (leb v 3) e))
  where
    split : (v : ℕ) → 1 ≤ v → v ≤ 3 → P v
    split zero lo hi = absurd (omega arith)
    split (suc zero) lo hi = one
    split (suc (suc zero)) lo hi = two
    split (suc (suc (suc zero))) lo hi = three
    split (suc (suc (suc (suc n)))) lo hi = absurd (omega arith)

-- ---- a write, by printed numbers

fourteen_writable : (w : ℕ) → among w fourteen ≡ true → writable_of w ≡ true
unfolding writable_of
fourteen_writable = on_list writable_of (λ x. true) fourteen refl

fourteen_settable : (w : ℕ) → among w fourteen ≡ true → settable_of (read_at_of w) ≡ true
unfolding settable_of read_at_of
fourteen_settable = on_list (λ x. settable_of (read_at_of x)) (λ x. true) fourteen refl

read_number_lem : (w : ℕ) → among w fourteen ≡ true → read_at_of w ≡ read_number w
unfolding read_at_of
read_number_lem = on_list read_at_of read_number fourteen refl

kept_number : (w : ℕ) → among w fourteen ≡ true → kept_of w ≡ kept_bits (read_number w)
unfolding kept_of
kept_number = on_list kept_of (λ x. kept_bits (read_number x)) fourteen refl

-- every writable register but 0F is one of the fourteen, and 0F is none
writable_fourteen : (w : ℕ) → writable_of w ≡ true → (eqb w 0x0F || among w fourteen) ≡ true
unfolding writable_of
writable_fourteen = on_list (λ x. eqb x 0x0F || among x fourteen) (λ x. true) w_set refl

not_shot : (w : ℕ) → writable_of w ≡ true → eqb w 0x0F ≡ false → among w fourteen ≡ true
not_shot w may e = split (eqb w 0x0F) (among w fourteen) e (writable_fourteen w may)
  where
    split : (s t : Bool) → s ≡ false → (s || t) ≡ true → t ≡ true
    split true t p h = clash (sym p)
    split false t p h = h

shot_apart : (w : ℕ) → eqb w 0x0F ≡ true → among w fourteen ≡ false
shot_apart w e = ap (λ (x : ℕ). among x fourteen) (eqb-true w 0x0F e)

unwritable_apart : (w : ℕ) → writable_of w ≡ false → among w fourteen ≡ false
unwritable_apart w e = by_test (among w fourteen) (λ t. clash (sym e ∙ fourteen_writable w t)) (λ t. t)

-- ---- the fourteen bytes

module _ (d : Device) (whole : length d.settings ≡ 14) (q : ℕ) where
  -- what a write at the own address makes of the byte
  abbrev put_byte : ℕ → ℕ → ℕ
  put_byte w v = cond (among w fourteen && eqb q (read_number w)) (bit_and v (kept_bits q)) (byte_at d q)

  stored_byte : (w v : ℕ) → among w fourteen ≡ true → byte_at (stored_of d w v) q ≡ put_byte w v
  unfolding stored_of
  stored_byte w v m =
      setting_changed d.settings q (read_at_of w) (bit_and v (kept_of w)) whole (fourteen_settable w m)
      ∙ by_number (read_at_of w) (kept_of w) (read_number_lem w m) (kept_number w m)
      ∙ sym (under (among w fourteen) (eqb q (read_number w)) (bit_and v (kept_bits q)) (byte_at d q) m)
    where
      chosen : (n : ℕ) → cond (eqb q n) (bit_and v (kept_bits n)) (byte_at d q) ≡ cond (eqb q n) (bit_and v (kept_bits q)) (byte_at d q)
      chosen n =
          by_test (eqb q n)
          (λ t. ap (λ (k : ℕ). cond (eqb q n) (bit_and v (kept_bits k)) (byte_at d q)) (sym (eqb-true q n t)))
          (λ t. rw t)

      by_number : (n k : ℕ) → n ≡ read_number w → k ≡ kept_bits (read_number w)
          → cond (eqb q n) (bit_and v k) (byte_at d q) ≡ cond (eqb q (read_number w)) (bit_and v (kept_bits q)) (byte_at d q)
      by_number n k e f =
          ap (λ (x : ℕ). cond (eqb q x) (bit_and v k) (byte_at d q)) e
          ∙ ap (λ (x : ℕ). cond (eqb q (read_number w)) (bit_and v x) (byte_at d q)) f
          ∙ chosen (read_number w)

  put_byte_lem : (w v : ℕ) → byte_at (put_of d w v).device q ≡ put_byte w v
  unfolding put_of fired_of
  put_byte_lem w v =
      cond_ind (λ (o : Outcome). byte_at o.device q ≡ put_byte w v) (writable_of w)
      (λ may. cond_ind (λ (e : Device). byte_at e q ≡ put_byte w v) (eqb w 0x0F)
      (λ t. unmoved (shot_apart w t))
      (λ t. stored_byte w v (not_shot w may t)))
      (λ t. unmoved (unwritable_apart w t))
    where
      unmoved : among w fourteen ≡ false → byte_at d q ≡ put_byte w v
      unmoved t = sym (beside (among w fourteen) (eqb q (read_number w)) (bit_and v (kept_bits q)) (byte_at d q) t)

  masked_byte : (p status : ℕ) → byte_at (masked_of (read_out_of (pointed_of d p) status d.low d.lowkept)) q ≡ masked_at d true q
  unfolding masked_of settable_of
  masked_byte p status =
      setting_changed d.settings q 0x03 (bit_or (byte_at d 0x03) 0x80) whole refl
      ∙ by_test (eqb q 0x03) (λ t. rw (t, eqb-true q 0x03 t)) (λ t. rw t)

  -- P6, at the own address
  get_byte : (r : ℕ) → byte_at (get_of d r).device q ≡ masked_at d (eqb r 0x02 && finds_alert d) q
  unfolding get_of comparator_of readable_of
  get_byte r =
      cond_ind (λ (o : Outcome). byte_at o.device q ≡ masked_at d (eqb r 0x02 && finds_alert d) q) (readable_of r)
      (λ _. read_ind (λ (e : Device). byte_at e q ≡ masked_at d (eqb r 0x02 && finds_alert d) q) (pointed_of d r) r
      (λ t. rw (eqb-true r 0x01 t))
      (λ t f. rw (t, f))
      (λ t f. rw (t, f) (masked_byte r 0))
      (λ t. rw (eqb-true r 0x10 t))
      (λ _ t _. rw t))
      (λ t. rw (outside r_set 0x02 r refl t))

  -- P9
  respond_byte : byte_at (respond_of d).device q ≡ masked_at d (answers_alert d) q
  unfolding respond_of
  respond_byte =
      ap (λ (t : Bool). byte_at (cond t answered (silent_of d)).device q) (responds_exactly d) ∙ split (answers_alert d)
    where
      answered : Outcome
      answered = answered_of (masked_of d) (address_of d.variant * 2 + 1)

      split : (t : Bool) → byte_at (cond t answered (silent_of d)).device q ≡ masked_at d t q
      split true = masked_byte d.pointer d.status
      split false = refl

  at_byte : (a : ℕ) (own : Outcome) (t : Bool) → byte_at own.device q ≡ masked_at d t q → byte_at (at_of d a own).device q ≡ masked_at d (own_of d a && t) q
  unfolding address_of
  at_byte a own t h = split (own_of d a)
    where
      split : (s : Bool) → byte_at (cond s own (silent_of d)).device q ≡ masked_at d (s && t) q
      split true = h
      split false = refl

  receive_byte : (a : ℕ) → byte_at (effect_of d (Receive a)).device q ≡ setting_after d (Receive a) q
  unfolding effect_of
  receive_byte a = by_test (eqb a 0x0C) respond get
    where
      respond : eqb a 0x0C ≡ true → byte_at (effect_of d (Receive a)).device q ≡ setting_after d (Receive a) q
      respond t = rw (response_apart d a t, t) respond_byte

      get : eqb a 0x0C ≡ false → byte_at (effect_of d (Receive a)).device q ≡ setting_after d (Receive a) q
      get t =
          let read = eqb d.pointer 0x02 && finds_alert d in
          rw (t, or-false (own_of d a && read)) (at_byte a (get_of d d.pointer) read (get_byte d.pointer))

  point_byte : (r : ℕ) → byte_at (point_of d r).device q ≡ byte_at d q
  point_byte r = point_moves (λ (e : Device). byte_at e q) d r (byte_at d q) refl ∙ cond_same (named_of r) (byte_at d q)

  sense_byte : (local : ℕ) (remote : Reading) (broken : Bool) → byte_at (sense_of d local remote broken).device q ≡ byte_at d q
  unfolding converted_of
  sense_byte local remote broken =
      sense_moves (λ (e : Device). byte_at e q) d local remote broken (byte_at d q) refl ∙ cond_same (taken_of d) (byte_at d q)

-- ---- power-on

abbrev read_numbers : List ℕ
read_numbers = map (λ (s : Settable). s.read) settable

-- a number at which no settable register is read
setting_none : (s : List ℕ) (q : ℕ) → settable_of q ≡ false → setting_of s q ≡ 0
unfolding setting_of
setting_none s q e = split (read_position_of q) (settable_position q ∙ e)
  where
    split : (p : Option ℕ) → somewhere p ≡ false → on_position p (λ i. get_or s i 0) 0 ≡ 0
    split (Some i) h = clash (sym h)
    split None h = refl

start_none : (v q : ℕ) → settable_of q ≡ false → start_byte v q ≡ 0
unfolding settable_of
start_none v q e =
    let apart : (k : ℕ) → among k read_numbers ≡ true → eqb q k ≡ false = λ k h. outside read_numbers k q h e in
    rw (apart 0x04 refl, apart 0x05 refl, apart 0x07 refl, apart 0x19 refl, apart 0x20 refl, apart 0x21 refl)

powered_byte : (v : ℕ) → variant_of v ≡ true → (q : ℕ) → setting_of (power_on_of v) q ≡ start_byte v q
unfolding settable_of setting_of read_position_of power_on_of
powered_byte v e q =
    by_test (settable_of q)
    (λ t. variants (λ (n : ℕ). setting_of (power_on_of n) q ≡ start_byte n q)
    (on_list (setting_of (power_on_of 1)) (start_byte 1) read_numbers refl q t)
    (on_list (setting_of (power_on_of 2)) (start_byte 2) read_numbers refl q t)
    (on_list (setting_of (power_on_of 3)) (start_byte 3) read_numbers refl q t) v e)
    (λ t. setting_none (power_on_of v) q t ∙ sym (start_none v q t))

-- the length is a fact of the type: a device holds fourteen bytes
pub setting_moves : (d : Device) (e : Event) → length d.settings ≡ 14 → variant_of d.variant ≡ true
    → (q : ℕ) → setting_of (effect_of d e).device.settings q ≡ setting_after d e q
unfolding effect_of powered_of
setting_moves d (Write a w v) whole variant q =
    at_moves (λ (e : Device). byte_at e q) d a (put_of d w v) (among w fourteen && eqb q (read_number w)) (bit_and v (kept_bits q)) (put_byte_lem d whole q w v)
setting_moves d (Read a r) whole variant q = at_byte d whole q a (get_of d r) (eqb r 0x02 && finds_alert d) (get_byte d whole q r)
setting_moves d (Send a r) whole variant q = at_leaves (λ (e : Device). byte_at e q) d a (point_of d r) (point_byte d whole q r)
setting_moves d (Receive a) whole variant q = receive_byte d whole q a
setting_moves d (Convert local high low) whole variant q = sense_byte d whole q local _ false
setting_moves d (Open local) whole variant q = sense_byte d whole q local _ true
setting_moves d PowerOn whole variant q = powered_byte d.variant variant q
setting_moves d (ConvertSecond local high low) whole variant q = sense_byte d whole q local _ false
setting_moves d (OpenSecond local) whole variant q = sense_byte d whole q local _ true

-- ---- the byte read

shown_read : (d : Device) (r : ℕ) → among r r_set ≡ true → value_of d r ≡ shown_at d (read_only_of d.variant 0xFE) (read_only_of d.variant 0xFF) r
unfolding value_of settable_of read_only_value_of low_read_of
shown_read d = on_list (value_of d) (shown_at d (read_only_of d.variant 0xFE) (read_only_of d.variant 0xFF)) r_set refl

manufacturer : (v : ℕ) → variant_of v ≡ true → read_only_of v 0xFE ≡ 0x01
unfolding read_only_of
manufacturer = variants (λ (v : ℕ). read_only_of v 0xFE ≡ 0x01) refl refl refl

revision : (v : ℕ) → variant_of v ≡ true → read_only_of v 0xFF ≡ cond (eqb v 1) 0x31 (cond (eqb v 2) 0x34 0x35)
unfolding read_only_of
revision = variants (λ (v : ℕ). read_only_of v 0xFF ≡ cond (eqb v 1) 0x31 (cond (eqb v 2) 0x34 0x35)) refl refl refl

response_byte : (v : ℕ) → address_of v * 2 + 1 ≡ cond (eqb v 1) 0x99 0x9B
unfolding address_of
response_byte v = split (eqb v 1)
  where
    split : (t : Bool) → cond t 0x4C 0x4D * 2 + 1 ≡ cond t 0x99 0x9B
    split true = refl
    split false = refl

module _ (d : Device) (variant : variant_of d.variant ≡ true) where
  value_read : (r : ℕ) → among r r_set ≡ true → value_of d r ≡ register_byte d r
  value_read r h =
      let v = d.variant in
      shown_read d r h
      ∙ ap (λ (m : ℕ). shown_at d m (read_only_of v 0xFF) r) (manufacturer v variant)
      ∙ ap (λ (n : ℕ). shown_at d 0x01 n r) (revision v variant)

  get_read : (r : ℕ) → (get_of d r).byte ≡ cond (among r r_set) (register_byte d r) 0
  unfolding get_of readable_of
  get_read r = split (readable_of r) (value_read r)
    where
      split : (t : Bool) → (t ≡ true → value_of d r ≡ register_byte d r)
          → (cond t (answered_of (after_read_of (pointed_of d r) r) (value_of d r)) (silent_of d)).byte ≡ cond t (register_byte d r) 0
      split true h = h refl
      split false h = refl

  at_read : (a : ℕ) (own : Outcome) (t : Bool) (x : ℕ) → own.byte ≡ cond t x 0 → (at_of d a own).byte ≡ cond (own_of d a && t) x 0
  unfolding address_of
  at_read a own t x h = split (own_of d a)
    where
      split : (s : Bool) → (cond s own (silent_of d)).byte ≡ cond (s && t) x 0
      split true = h
      split false = refl

  at_none : (a : ℕ) (own : Outcome) → own.byte ≡ 0 → (at_of d a own).byte ≡ 0
  at_none a own h = cond_ind (λ (o : Outcome). o.byte ≡ 0) (eqb a (address_of d.variant)) (λ _. h) (λ _. refl)

  respond_read : (respond_of d).byte ≡ cond (answers_alert d) (cond (eqb d.variant 1) 0x99 0x9B) 0
  unfolding respond_of
  respond_read =
      ap (λ (n : ℕ). (cond (responds_of d) (answered_of (masked_of d) n) (silent_of d)).byte) (response_byte d.variant)
      ∙ ap (λ (t : Bool). (cond t (answered_of (masked_of d) answer) (silent_of d)).byte) (responds_exactly d)
      ∙ split (answers_alert d)
    where
      answer : ℕ
      answer = cond (eqb d.variant 1) 0x99 0x9B

      split : (t : Bool) → (cond t (answered_of (masked_of d) answer) (silent_of d)).byte ≡ cond t answer 0
      split true = refl
      split false = refl

  receive_read : (a : ℕ) → (effect_of d (Receive a)).byte ≡ byte_read d (Receive a)
  unfolding effect_of
  receive_read a = by_test (eqb a 0x0C) respond get
    where
      respond : eqb a 0x0C ≡ true → (effect_of d (Receive a)).byte ≡ byte_read d (Receive a)
      respond t = rw (response_apart d a t, t) respond_read

      get : eqb a 0x0C ≡ false → (effect_of d (Receive a)).byte ≡ byte_read d (Receive a)
      get t = rw t (at_read a (get_of d d.pointer) (among d.pointer r_set) (register_byte d d.pointer) (get_read d.pointer))

pub byte_exactly : (d : Device) (e : Event) → variant_of d.variant ≡ true → (effect_of d e).byte ≡ byte_read d e
unfolding effect_of put_of point_of sense_of
byte_exactly d (Write a w v) variant =
    at_none d variant a (put_of d w v) (cond_ind (λ (o : Outcome). o.byte ≡ 0) (writable_of w) (λ _. refl) (λ _. refl))
byte_exactly d (Read a r) variant = at_read d variant a (get_of d r) (among r r_set) (register_byte d r) (get_read d variant r)
byte_exactly d (Send a r) variant =
    at_none d variant a (point_of d r) (cond_ind (λ (o : Outcome). o.byte ≡ 0) (known_of r) (λ _. refl) (λ _. refl))
byte_exactly d (Receive a) variant = receive_read d variant a
byte_exactly d (Convert local high low) variant = cond_ind (λ (o : Outcome). o.byte ≡ 0) (takes_of d) (λ _. refl) (λ _. refl)
byte_exactly d (Open local) variant = cond_ind (λ (o : Outcome). o.byte ≡ 0) (takes_of d) (λ _. refl) (λ _. refl)
byte_exactly d PowerOn variant = refl
byte_exactly d (ConvertSecond local high low) variant = cond_ind (λ (o : Outcome). o.byte ≡ 0) (takes_of d) (λ _. refl) (λ _. refl)
byte_exactly d (OpenSecond local) variant = cond_ind (λ (o : Outcome). o.byte ≡ 0) (takes_of d) (λ _. refl) (λ _. refl)
