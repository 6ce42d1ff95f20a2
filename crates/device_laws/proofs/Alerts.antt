-- `alert_of_status`, `alert_of_live` and `masked`: what pulls ALERT, bit by bit. `t_crit_a`: what pulls T_CRIT_A. `responds` and
-- `unanswered_same`: an alert response. `received`: a receive at its own address is a read of the pointer's register.
-- `status_read`: a read of 02. `first_byte`: the first answer byte.
-- Assumes nothing.
use mathlib.Core.Path.{◌≡◌, refl, ap, sym, ◌∙◌}
use mathlib.Core.Bool.{Bool, true, false, not, ◌||◌, ◌&&◌, and-true, and-false, or-false}
use mathlib.Core.List.{List}
use Prim.Native.Nat.{ℕ, ◌%◌, ◌^◌, ◌<◌}
use native.Mathlib.Nat.{mod-eq_of_lt}
use native.Mathlib.Omega.{arith}
use lib.Dec.{eqb, lit<}
use lib.Bits.{bit_and, and_mod, and_le_r, or_lt}
use lib.ListN.{length}
use borrow.Author.Tests.{eq-eqb, ne_eqb}
use Rattle.laws.proofs.Choices.{by_test, clash}
use Rattle.laws.proofs.Tables.{agree}
use Rattle.registers.specs.Bits.{has, alerting}
use Rattle.registers.specs.Page.{readable_of, settable_of, setting_of, changed_of, address_of}
use Rattle.conversion.proofs.Bounds.{bit_bound}
use Rattle.device_laws.proofs.Bits.{has_or, bit_of_lem}
use Rattle.device.specs.declared.Device.{Device}
use Rattle.device.specs.declared.Outcome.{Outcome}
use Rattle.device.specs.declared.Event.{Event}
use Rattle.device.specs.declared.Event.TheVariants.{Read, Receive}
use Rattle.device.specs.Pins.{comparator_of, watched_of, alert_of, tcrit_of, pins_of, first_of}
use Rattle.device.specs.Bus.{masked_of, status_read_of, read_only_value_of, value_of, after_read_of, get_of, responds_of, respond_of}
use Rattle.device.specs.Step.{effect_of, answer_of, step_of}
use Rattle.device.specs.Ranges.{operands_of, second_of}
use Rattle.device_laws.specs.Codes.{Ready}
use Rattle.device.proofs.Steps.{step_effect}
use Rattle.device_laws.specs.Alerts.{any_of_six, Responds, StatusRead, FirstByte}
use Rattle.device_laws.proofs.Changes.{setting_other, setting_same}

-- ---- ALERT

-- only the low eight bits meet a mask of eight
low_eight : (b m : ℕ) → m < 2 ^ 8 → bit_and b m ≡ bit_and (b % 2 ^ 8) m
low_eight b m h =
    sym (mod-eq_of_lt (omega (arith, and_le_r b m, h))) ∙ and_mod b m 8 ∙ ap (bit_and (b % 2 ^ 8)) (mod-eq_of_lt h)

six_byte : (b : ℕ) → b < 256 → has b 0x7B ≡ any_of_six b
six_byte = agree (λ b. has b 0x7B) any_of_six 256 refl

-- the six bits are those of 7Bh
six : (b : ℕ) → has b 0x7B ≡ any_of_six b
six b =
    rw (
      low_eight b 0x7B (lit< tt),
      low_eight b 0x40 (lit< tt),
      low_eight b 0x20 (lit< tt),
      low_eight b 0x10 (lit< tt),
      low_eight b 0x08 (lit< tt),
      low_eight b 0x02 (lit< tt),
      low_eight b 0x01 (lit< tt),
    )
    (six_byte (b % 2 ^ 8) (omega arith))

module _ (d : Device) where
  -- P7: BF D0 is 0
  pub alert_of_status : has (setting_of d.settings 0xBF) 0x01 ≡ false
      → alert_of d ≡ (not (has (setting_of d.settings 0x03) 0x80) && any_of_six d.status)
  unfolding alert_of watched_of comparator_of
  alert_of_status h = rw h (ap (λ (t : Bool). not (has (setting_of d.settings 0x03) 0x80) && t) (six d.status))

  -- P7: BF D0 is 1
  pub alert_of_live : has (setting_of d.settings 0xBF) 0x01 ≡ true
      → alert_of d ≡ (not (has (setting_of d.settings 0x03) 0x80) && any_of_six d.sensed.live)
  unfolding alert_of watched_of comparator_of
  alert_of_live h = rw h (ap (λ (t : Bool). not (has (setting_of d.settings 0x03) 0x80) && t) (six d.sensed.live))

  -- in either mode
  pub masked : has (setting_of d.settings 0x03) 0x80 ≡ true → alert_of d ≡ false
  unfolding alert_of
  masked h = rw h

  -- P8
  pub t_crit_a : tcrit_of d
      ≡ ((d.sensed.llatch && not (has (setting_of d.settings 0x03) 0x04)) || (d.sensed.rlatch && not (has (setting_of d.settings 0x03) 0x10)))
  unfolding tcrit_of
  t_crit_a = refl

  -- ---- receive

  not_response : eqb (address_of d.variant) 0x0C ≡ false
  unfolding address_of
  not_response = by_test (eqb d.variant 1) (λ e. rw e) (λ e. rw e)

  -- P10: at its own address
  pub received : effect_of d (Receive (address_of d.variant)) ≡ effect_of d (Read (address_of d.variant) d.pointer)
  unfolding effect_of
  received = rw not_response

-- ---- alert response

others_same : (s : List ℕ) (b r : ℕ) → (r ≡ 0x03 → ⊥) → setting_of (changed_of s 0x03 b) r ≡ setting_of s r
others_same s b r h = setting_other s r 0x03 b (ne_eqb r 0x03 h)

mask_bit : (s : List ℕ) (b : ℕ) → length s ≡ 14 → setting_of (changed_of s 0x03 b) 0x03 ≡ b
unfolding settable_of
mask_bit s b h = setting_same s 0x03 b h refl

module _ (d : Device) where
  responded : responds_of d ≡ (alert_of d && not (has (setting_of d.settings 0xBF) 0x01))
  unfolding responds_of comparator_of
  responded = refl

  responds_to : length d.settings ≡ 14 → (t : Bool) → (alert_of d && not (has (setting_of d.settings 0xBF) 0x01)) ≡ t → Responds d (respond_of d)
  unfolding respond_of masked_of
  responds_to long true e =
      let answers : responds_of d ≡ true = responded ∙ e in
      record {
        acknowledged = rw (answers, e);
        byte = rw answers;
        taken = rw answers;
        held = rw answers;
        variant = rw answers;
        pointer = rw answers;
        pending = rw answers;
        low = rw answers;
        lowkept = rw answers;
        status = rw answers;
        sensed = rw answers;
        mask = rw answers (mask_bit d.settings _ long);
        others = λ r h. rw answers (others_same d.settings _ r h);
      }
  responds_to long false e =
      let silent : responds_of d ≡ false = responded ∙ e in
      record {
        acknowledged = rw (silent, e);
        byte = rw silent;
        taken = rw silent;
        held = rw silent;
        variant = rw silent;
        pointer = rw silent;
        pending = rw silent;
        low = rw silent;
        lowkept = rw silent;
        status = rw silent;
        sensed = rw silent;
        mask = rw silent;
        others = λ r h. rw silent;
      }

  -- P9; a device holds fourteen settings
  pub responds : length d.settings ≡ 14 → Responds d (effect_of d (Receive 0x0C))
  unfolding effect_of
  responds long = responds_to long (alert_of d && not (has (setting_of d.settings 0xBF) 0x01)) refl

  pub unanswered_same : (effect_of d (Receive 0x0C)).acknowledged ≡ false → (effect_of d (Receive 0x0C)).device ≡ d
  unfolding effect_of respond_of
  unanswered_same h = by_test (responds_of d) (λ t. clash (sym (rw t at h))) (λ t. rw t)

-- ---- a read of status

module _ (d : Device) where
  masks : (not (comparator_of d) && has d.status alerting) ≡ (not (has (setting_of d.settings 0xBF) 0x01) && any_of_six d.status)
  unfolding comparator_of
  masks = ap (λ (t : Bool). not (has (setting_of d.settings 0xBF) 0x01) && t) (six d.status)

  gets_status : length d.settings ≡ 14 → (t : Bool) → (not (has (setting_of d.settings 0xBF) 0x01) && any_of_six d.status) ≡ t
      → StatusRead d (get_of d 0x02)
  unfolding get_of after_read_of status_read_of masked_of readable_of value_of settable_of read_only_value_of comparator_of
  gets_status long true e =
      let sets = masks ∙ e in
      record {
        acknowledged = refl;
        byte = refl;
        taken = refl;
        held = refl;
        cleared = rw sets;
        variant = rw sets;
        pointer = rw sets;
        pending = rw sets;
        low = rw sets;
        lowkept = rw sets;
        sensed = rw sets;
        mask = rw (sets, e) (mask_bit d.settings _ long);
        others = λ r h. rw sets (others_same d.settings _ r h);
      }
  gets_status long false e =
      let leaves = masks ∙ e in
      record {
        acknowledged = refl;
        byte = refl;
        taken = refl;
        held = refl;
        cleared = rw leaves;
        variant = rw leaves;
        pointer = rw leaves;
        pending = rw leaves;
        low = rw leaves;
        lowkept = rw leaves;
        sensed = rw leaves;
        mask = rw (leaves, e);
        others = λ r h. rw leaves;
      }

  -- P6; a receive with the pointer at 02 is the same by `received`
  pub status_read : length d.settings ≡ 14 → StatusRead d (effect_of d (Read (address_of d.variant) 0x02))
  unfolding effect_of
  status_read long =
      rw (eq-eqb (address_of d.variant) _ refl) (gets_status long (not (has (setting_of d.settings 0xBF) 0x01) && any_of_six d.status) refl)

-- ---- the first answer byte

module _ (alert tcrit acknowledged taken held : Bool) where
  five : (mask : ℕ) → has (first_of (record { alert = alert; tcrit = tcrit }) acknowledged taken held) mask
      ≡ (((((alert && has 0x01 mask) || (tcrit && has 0x02 mask)) || (acknowledged && has 0x04 mask)) || (taken && has 0x08 mask)) || (held && has 0x10 mask))
  unfolding first_of
  five mask = simp (has_or, bit_of_lem)

  within_five : first_of (record { alert = alert; tcrit = tcrit }) acknowledged taken held < 2 ^ 5
  unfolding first_of
  within_five =
      or_lt 5 _ _
      (or_lt 5 _ _ (or_lt 5 _ _ (or_lt 5 _ _ (bit_bound alert 0x01 (lit< tt)) (bit_bound tcrit 0x02 (lit< tt))) (bit_bound acknowledged 0x04 (lit< tt)))
      (bit_bound taken 0x08 (lit< tt)))
      (bit_bound held 0x10 (lit< tt))

pub answer_bits : (o : Outcome) → FirstByte o.device o.acknowledged o.taken o.held (answer_of o)
unfolding answer_of pins_of
answer_bits o =
    let a = alert_of o.device in
    let c = tcrit_of o.device in
    let bits = five a c o.acknowledged o.taken o.held in
    record {
      d0 = bits 0x01 ∙ simp (and-false, and-true, or-false);
      d1 = bits 0x02 ∙ simp (and-false, and-true, or-false);
      d2 = bits 0x04 ∙ simp (and-false, and-true, or-false);
      d3 = bits 0x08 ∙ simp (and-false, and-true, or-false);
      d4 = bits 0x10 ∙ simp (and-false, and-true);
      rest = within_five a c o.acknowledged o.taken o.held;
    }

pub first_byte : (d : Device) (e : Event) → Ready d → second_of e ≡ false → operands_of e ≡ true
    → FirstByte (step_of d e).device (effect_of d e).acknowledged (effect_of d e).taken (effect_of d e).held (step_of d e).first
first_byte d e ready own operands = rw (step_effect d e ready.variant ready.ranges own operands) (answer_bits (effect_of d e))
