-- No event leaves the ranges: `kept` says it of any device that is in its ranges, and `powered_in_range` of a device as after
-- power-on, of any variant.
-- Assumes nothing.
use mathlib.Core.Path.{◌≡◌, refl, sym, ap, subst, ◌∙◌}
use mathlib.Core.Bool.{Bool, true, false, not, cond, ◌||◌, ◌&&◌}
use mathlib.Core.List.{List, [], ◌∷◌, map}
use Prim.Native.Nat.{ℕ, ◌*◌, ◌%◌, ◌<◌}
use native.Mathlib.Omega.{arith}
use native.Mathlib.Nat.{lt_of_le_of_lt}
use lib.IntN.{ℤ, pos, negsuc, neg_ℤ}
use lib.Signed.{mag, le_z}
use lib.Dec.{eqb, ltb, leb, lit<}
use lib.Bits.{bit_and, bit_or, or_lt, and_le_r}
use lib.ListN.{get_or, set}
use borrow.Author.Tests.{lt-ltb, ltb-true, le-leb, eq-eqb, eqb-true}
use Rattle.laws.proofs.Choices.{cond_ind, or_left}
use Rattle.laws.proofs.Tables.{agree}
use Rattle.temperature.specs.declared.Reading.{Reading}
use Rattle.temperature.specs.Temperature.{degrees_of, eighths_of, open_reading, word_of}
use Rattle.temperature.proofs.Laws.{held_scale}
use Rattle.registers.specs.Bits.{has}
use Rattle.registers.specs.Page.{known_of, readable_of, writable_of, write_position_of, read_position_of, one_shot, setting_of, changed_of, kept_of}
use Rattle.registers.specs.Page.{power_on_of, read_only_of, address_of, Settable, settable}
use Rattle.std.specs.Prelude.{Some}
use Rattle.registers.proofs.Settings.{kept_at, configuration, change_configuration, write_kept, write_known, write_changed, write_placed}
use Rattle.registers.proofs.Entries.{zero_at}
use Rattle.conversion.specs.Conversion.{reading_of, sensed_of}
use Rattle.conversion.proofs.Bounds.{count_bound, live_bound}
use Rattle.device.specs.declared.Device.{Device}
use Rattle.device.specs.declared.Outcome.{Outcome}
use Rattle.device.specs.declared.Event.{Event}
use Rattle.device.specs.declared.Event.TheVariants.{Write, Read, Send, Receive, Convert, Open, PowerOn, ConvertSecond, OpenSecond}
use Rattle.device.specs.Bus.{standby_of, pointed_of, masked_of, stored_of, stored_in, fired_of, put_of, read_out_of, status_cleared_of}
use Rattle.device.specs.Bus.{latest_low_of, low_kept_of, low_let_go_of}
use Rattle.device.specs.Bus.{after_read_of, get_of, point_of, responds_of, respond_of, takes_of, converted_of, sense_of, powered_of, alert_response, at_of}
use Rattle.device.specs.Ranges.{masks_of, range_tests, ranged_of}
use Rattle.device.specs.Step.{effect_of}
use Rattle.device.proofs.Tests.{each, of_each}
use Rattle.device.proofs.Masks.{masks_at, set_masks, and_again}
use Rattle.device.proofs.AfterRead.{read_ind}

-- ---- the tests by name

pub record Ranged (d : Device) : Type 0 where
  pub faults : leb d.sensed.faults 3 ≡ true
  pub under : le_z (neg_ℤ (pos 1024)) d.sensed.remote ≡ true
  pub over : le_z d.sensed.remote (pos 1023) ≡ true
  pub pointer : known_of d.pointer ≡ true
  pub status : ltb d.status 0x80 ≡ true
  pub live : ltb d.sensed.live 0x80 ≡ true
  pub masks : masks_of d.settings ≡ true
  pub pending : (not d.pending || standby_of d.settings) ≡ true
  pub low : eqb (d.low % 32) 0 ≡ true
  pub lowkept : (d.lowkept || eqb d.low 0) ≡ true

pub named : (d : Device) → ranged_of d ≡ true → Ranged d
unfolding ranged_of
named d e =
    let t = each (range_tests d) e in
    record {
      faults = t.0;
      under = t.1.0;
      over = t.1.1.0;
      pointer = t.1.1.1.0;
      status = t.1.1.1.1.0;
      live = t.1.1.1.1.1.0;
      masks = t.1.1.1.1.1.1.0;
      pending = t.1.1.1.1.1.1.1.0;
      low = t.1.1.1.1.1.1.1.1.0;
      lowkept = t.1.1.1.1.1.1.1.1.1.0;
    }

pub of_named : (d : Device) → Ranged d → ranged_of d ≡ true
unfolding ranged_of
of_named d r =
    of_each (range_tests d)
    (r.faults, (r.under, (r.over, (r.pointer, (r.status, (r.live, (r.masks, (r.pending, (r.low, (r.lowkept, tt))))))))))

-- ---- a device set up anew

module _ {d : Device} (r : Ranged d) where
  pointed_ranged : (reg : ℕ) → known_of reg ≡ true → Ranged (pointed_of d reg)
  pointed_ranged reg k =
      record {
        faults = r.faults;
        under = r.under;
        over = r.over;
        pointer = k;
        status = r.status;
        live = r.live;
        masks = r.masks;
        pending = r.pending;
        low = r.low;
        lowkept = r.lowkept;
      }

  stored_ranged : (w i v : ℕ) → write_position_of w ≡ Some i → Ranged (stored_of d w v)
  unfolding stored_of
  stored_ranged w i v p =
      record {
        faults = r.faults;
        under = r.under;
        over = r.over;
        pointer = write_known w i p;
        status = r.status;
        live = r.live;
        masks = rw (write_changed d.settings w i (bit_and v (kept_of w)) p) (set_masks d.settings i (bit_and v (kept_of w)) (stays w i v p) r.masks);
        pending = both d.pending (standby_of (stored_in d w v));
        low = r.low;
        lowkept = r.lowkept;
      }
    where
      stays : (w i v : ℕ) → write_position_of w ≡ Some i → bit_and (bit_and v (kept_of w)) (kept_at i) ≡ bit_and v (kept_of w)
      stays w i v p = rw (← (write_kept w i p)) (and_again v (kept_of w))

      both : (p s : Bool) → (not (p && s) || s) ≡ true
      both true true = refl
      both true false = refl
      both false s = refl

  fired_ranged : Ranged (fired_of d)
  unfolding fired_of known_of readable_of writable_of
  fired_ranged =
      record {
        faults = r.faults;
        under = r.under;
        over = r.over;
        pointer = refl;
        status = r.status;
        live = r.live;
        masks = r.masks;
        pending = still d.pending (standby_of d.settings) r.pending;
        low = r.low;
        lowkept = r.lowkept;
      }
    where
      still : (p s : Bool) → (not p || s) ≡ true → (not (p || s) || s) ≡ true
      still true s e = e
      still false true e = refl
      still false false e = refl

  read_out_ranged : (status low : ℕ) (lowkept : Bool) → ltb status 0x80 ≡ true → eqb (low % 32) 0 ≡ true → (lowkept || eqb low 0) ≡ true
      → Ranged (read_out_of d status low lowkept)
  read_out_ranged status low lowkept s l k =
      record {
        faults = r.faults;
        under = r.under;
        over = r.over;
        pointer = r.pointer;
        status = s;
        live = r.live;
        masks = r.masks;
        pending = r.pending;
        low = l;
        lowkept = k;
      }

  quiet_ranged : Ranged (status_cleared_of d)
  quiet_ranged = read_out_ranged 0 d.low d.lowkept refl r.low r.lowkept

  kept_ranged : Ranged (low_kept_of d)
  kept_ranged = read_out_ranged d.status (latest_low_of d) true r.status (eq-eqb _ 0 (top_bits (word_of d.sensed.remote % 8))) refl
    where
      top_bits : (k : ℕ) → k * 32 % 32 ≡ 0
      top_bits k = omega arith

  gone_ranged : Ranged (low_let_go_of d)
  gone_ranged = read_out_ranged d.status 0 false r.status refl refl

-- ---- the ALERT mask bit

-- standby is as it was, and the byte stays within D5
mask_standby : (v : ℕ) → v < 256 → bit_and (bit_or v 0x80) 0x40 ≡ bit_and v 0x40
mask_standby = agree (λ k. bit_and (bit_or k 0x80) 0x40) (λ k. bit_and k 0x40) 256 refl

mask_kept : (v : ℕ) → v < 256 → bit_and (bit_or (bit_and v 0xD5) 0x80) 0xD5 ≡ bit_or (bit_and v 0xD5) 0x80
mask_kept = agree (λ k. bit_and (bit_or (bit_and k 0xD5) 0x80) 0xD5) (λ k. bit_or (bit_and k 0xD5) 0x80) 256 refl

first_kept : (s : List ℕ) → masks_of s ≡ true → bit_and (get_or s 0 0) 0xD5 ≡ get_or s 0 0
first_kept s e = eqb-true _ _ (masks_at s e 0 (lit< tt))

first_byte : (s : List ℕ) → masks_of s ≡ true → get_or s 0 0 < 256
first_byte s e = subst (λ (x : ℕ). x < 256) (first_kept s e) (lt_of_le_of_lt (and_le_r (get_or s 0 0) 0xD5) (lit< tt))

standby_stays : (s : List ℕ) → masks_of s ≡ true → has (get_or (set s 0 (bit_or (get_or s 0 0) 0x80)) 0 0) 0x40 ≡ has (get_or s 0 0) 0x40
standby_stays [] e = refl
standby_stays (x ∷ xs) e = rw (mask_standby x (first_byte (x ∷ xs) e))

masked_ranged : {d : Device} → Ranged d → Ranged (masked_of d)
unfolding masked_of
masked_ranged {d} r =
    let s = d.settings in
    let new = bit_or (get_or s 0 0) 0x80 in
    let change : changed_of s 0x03 (bit_or (setting_of s 0x03) 0x80) ≡ set s 0 new =
    change_configuration s (bit_or (setting_of s 0x03) 0x80) ∙ ap (λ (x : ℕ). set s 0 (bit_or x 0x80)) (configuration s) in
    let within = mask_kept (get_or s 0 0) (first_byte s r.masks) in
    let fits = subst (λ (x : ℕ). bit_and (bit_or x 0x80) 0xD5 ≡ bit_or x 0x80) (first_kept s r.masks) within in
    let kept = set_masks s 0 new fits r.masks in
    let after = ap (λ (x : ℕ). has x 0x40) (configuration (set s 0 new)) in
    let stays : standby_of (set s 0 new) ≡ standby_of s =
    after ∙ standby_stays s r.masks ∙ ap (λ (x : ℕ). has x 0x40) (sym (configuration s)) in
    let still = subst (λ (b : Bool). (not d.pending || b) ≡ true) (sym stays) r.pending in
    record {
      faults = r.faults;
      under = r.under;
      over = r.over;
      pointer = r.pointer;
      status = r.status;
      live = r.live;
      masks = subst (λ (l : List ℕ). masks_of l ≡ true) (sym change) kept;
      pending = subst (λ (l : List ℕ). (not d.pending || standby_of l) ≡ true) (sym change) still;
      low = r.low;
      lowkept = r.lowkept;
    }

-- ---- a conversion

not_under : (z : ℤ) → mag z < 1024 → le_z (neg_ℤ (pos 1024)) z ≡ true
not_under (pos n) h = refl
not_under (negsuc n) h = le-leb n 1023 (omega arith)

not_over : (z : ℤ) → mag z < 1024 → le_z z (pos 1023) ≡ true
not_over (pos n) h = le-leb n 1023 (omega arith)
not_over (negsuc n) h = refl

converted_ranged : (d : Device) (local : ℕ) (remote : ℤ) (broken : Bool) → mag remote < 1024 → Ranged d → Ranged (converted_of d local remote broken)
unfolding converted_of sensed_of
converted_ranged d local remote broken h r =
    record {
      faults = le-leb _ 3 (count_bound _ _);
      under = not_under remote h;
      over = not_over remote h;
      pointer = r.pointer;
      status = lt-ltb _ 0x80 (or_lt 7 _ _ (ltb-true d.status 0x80 r.status) (live_bound _ _ broken));
      live = lt-ltb _ 0x80 (live_bound _ _ broken);
      masks = r.masks;
      pending = refl;
      low = r.low;
      lowkept = r.lowkept;
    }

-- ---- power-on

powered_masks : (v : ℕ) → masks_of (power_on_of v) ≡ true
unfolding masks_of setting_of read_position_of power_on_of
powered_masks v = split (eqb v 1) (eqb v 2) (eqb v 3)
  where
    table : Bool → Bool → Bool → List ℕ
    table one two three = map (λ (s : Settable). cond one s.default.one (cond two s.default.two (cond three s.default.three 0))) settable

    split : (one two three : Bool) → masks_of (table one two three) ≡ true
    split true two three = refl
    split false true three = refl
    split false false true = refl
    split false false false = refl

powered_ranged : (v : ℕ) → Ranged (powered_of v)
unfolding powered_of known_of readable_of writable_of eighths_of degrees_of
powered_ranged v =
    let remote : eighths_of (read_only_of v 0x01) (read_only_of v 0x10) ≡ pos 0 = rw (zero_at v 0x01 refl, zero_at v 0x10 refl) in
    record {
      faults = refl;
      under = rw remote;
      over = rw remote;
      pointer = refl;
      status = rw (zero_at v 0x02 refl);
      live = refl;
      masks = powered_masks v;
      pending = refl;
      low = refl;
      lowkept = refl;
    }

pub powered_in_range : (v : ℕ) → ranged_of (powered_of v) ≡ true
powered_in_range v = of_named (powered_of v) (powered_ranged v)

-- ---- what the device does

abbrev After : Outcome → Type 0
After o = Ranged o.device

module _ {d : Device} (r : Ranged d) where
  put_ranged : (w v : ℕ) → After (put_of d w v)
  unfolding put_of
  put_ranged w v =
      cond_ind After (writable_of w)
      (λ may. cond_ind Ranged (eqb w one_shot) (λ _. fired_ranged r)
      (λ other. let p = write_placed w may other in stored_ranged r w p.place v p.there))
      (λ _. r)

  read_ranged : (reg : ℕ) → readable_of reg ≡ true → Ranged (after_read_of (pointed_of d reg) reg)
  unfolding known_of
  read_ranged reg e =
      let p = pointed_ranged r reg (or_left (readable_of reg) (writable_of reg) e) in
      let q = quiet_ranged p in
      read_ind Ranged (pointed_of d reg) reg (λ _. kept_ranged p) (λ _ _. q) (λ _ _. masked_ranged q) (λ _. gone_ranged p) (λ _ _ _. p)

  get_ranged : (reg : ℕ) → After (get_of d reg)
  unfolding get_of
  get_ranged reg = cond_ind After (readable_of reg) (λ e. read_ranged reg e) (λ _. r)

  point_ranged : (reg : ℕ) → After (point_of d reg)
  unfolding point_of
  point_ranged reg = cond_ind After (known_of reg) (λ e. pointed_ranged r reg e) (λ _. r)

  respond_ranged : After (respond_of d)
  unfolding respond_of
  respond_ranged = cond_ind After (responds_of d) (λ _. masked_ranged r) (λ _. r)

  sense_ranged : (local : ℕ) (remote : Reading) (broken : Bool) → mag remote.eighths < 1024 → After (sense_of d local remote broken)
  unfolding sense_of
  sense_ranged local remote broken h = cond_ind After (takes_of d) (λ _. converted_ranged d local remote.eighths broken h r) (λ _. r)

  at_ranged : (address : ℕ) (own : Outcome) → After own → After (at_of d address own)
  at_ranged address own h = cond_ind After (eqb address (address_of d.variant)) (λ _. h) (λ _. r)

  event_ranged : (e : Event) → After (effect_of d e)
  unfolding effect_of reading_of
  event_ranged (Write a w v) = at_ranged a (put_of d w v) (put_ranged w v)
  event_ranged (Read a reg) = at_ranged a (get_of d reg) (get_ranged reg)
  event_ranged (Send a reg) = at_ranged a (point_of d reg) (point_ranged reg)
  event_ranged (Receive a) =
      cond_ind After (eqb a alert_response) (λ _. respond_ranged) (λ _. at_ranged a (get_of d d.pointer) (get_ranged d.pointer))
  event_ranged (Convert local high low) = sense_ranged local (reading_of d.settings high low) false (held_scale _)
  event_ranged (Open local) = sense_ranged local open_reading true (lit< tt)
  event_ranged PowerOn = powered_ranged d.variant
  event_ranged (ConvertSecond local high low) = sense_ranged local (reading_of d.settings high low) false (held_scale _)
  event_ranged (OpenSecond local) = sense_ranged local open_reading true (lit< tt)

-- no event leaves the ranges
pub kept : (d : Device) (e : Event) → ranged_of d ≡ true → ranged_of (effect_of d e).device ≡ true
kept d e h = of_named (effect_of d e).device (event_ranged (named d h) e)

pub powered_variant : (v : ℕ) → (powered_of v).variant ≡ v
unfolding powered_of
powered_variant v = refl
