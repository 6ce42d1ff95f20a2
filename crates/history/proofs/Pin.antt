-- Request e, T_CRIT_A. `pin`: D1 of a record's answer is what the accounts and the masks in force after that record say. `pulled`: that is, some
-- device on the bus has a channel that is not masked and that is set by its account. `pin_exactly`: both joined. `pin_stays`: a read, a
-- send or a receive, a status read among them, leaves it.
-- Assumes nothing.
use mathlib.Core.Path.{◌≡◌, refl, sym, ap, ◌∙◌}
use mathlib.Core.Logic.{◌↔◌}
use mathlib.Core.Bool.{Bool, true, false, not, ◌||◌, ◌&&◌, or-false}
use mathlib.Core.List.{List}
use Prim.Native.Nat.{ℕ, suc, ◌≤◌, ◌<◌}
use native.Mathlib.Omega.{arith}
use Rattle.laws.proofs.Choices.{by_test, and_left, and_right, or_left, or_right}
use Rattle.registers.specs.Bits.{has}
use Rattle.registers.specs.Page.{setting_of}
use Rattle.conversion.specs.Channels.{Channel, local_channel, remote_channel}
use Rattle.device.specs.declared.Device.{Device}
use Rattle.device.specs.declared.Event.{Event}
use Rattle.device.specs.Pins.{configuration_of, tcrit_of, pins_of}
use Rattle.pair.specs.declared.Bus.{Bus}
use Rattle.pair.specs.Bus.{bus_effect_of, lines_of}
use Rattle.history.specs.Account.{InForce, Account, Owner, account_of, on_bus}
use Rattle.history.specs.Verdict.{mask_of, verdict_of, masked_in, pulls_in, pulls_by, pulled_after, PulledBy}
use Rattle.history.specs.Verdict.{Next, reads_or_sends}
use Rattle.history.specs.Latches.{Accepted, record_count, state_after, d1_at}
use Rattle.history.proofs.Negation.{not_true}
use Rattle.history.proofs.WithoutD7.{low_bit}
use Rattle.history.proofs.Verdicts.{verdict}
use Rattle.history.proofs.Follows.{Follows}
use Rattle.history.proofs.History.{follows}
use Rattle.history.proofs.Quiet.{reads_leave}
use Rattle.history.proofs.Answers.{bus_after_lem, on_bus_lem, answer, answer_byte, answer_tcrit}

-- ---- a device that follows its account

module _ {o : Owner} {d : Device} {a : Account} (f : Follows o d a) where
  small : (ch : Channel) → mask_of ch < 128
  small local_channel = omega arith
  small remote_channel = omega arith

  mask : (ch : Channel) → has (configuration_of d) (mask_of ch) ≡ masked_in ch a
  mask ch = sym (low_bit d.settings (mask_of ch) (small ch)) ∙ ap (λ (now : InForce). has (setting_of now.settings 0x03) (mask_of ch)) f.in_force

  by_device : tcrit_of d ≡ pulls_by a
  unfolding tcrit_of
  by_device = rw (f.sensed.latch local_channel, f.sensed.latch remote_channel, mask local_channel, mask remote_channel)

-- ---- the line of an accepted capture

module _ (xs : List ℕ) (accepted : Accepted xs) where
  line : (k : ℕ) → k ≤ record_count xs → (lines_of (state_after xs k).bus).tcrit ≡ pulled_after xs k
  unfolding lines_of pins_of
  line k few =
      let two = on_bus_lem xs accepted k true in
      let one = by_device (follows xs accepted false refl k) in
      by_test (on_bus xs true)
      (λ t. rw (two ∙ t, t, one, by_device (follows xs accepted true t k)))
      (λ t. rw (two ∙ t, t, one) (sym (or-false (pulls_by (account_of xs false k)))))

  -- of record number k + 1
  pub pin : (k : ℕ) → k < record_count xs → d1_at xs k ≡ pulled_after xs (suc k)
  pin k few =
      let e = (answer xs accepted k few).event in
      let after : (bus_effect_of (state_after xs k).bus e).bus ≡ (state_after xs (suc k)).bus =
      ap (λ (p : Bus). (bus_effect_of p e).bus) (bus_after_lem xs accepted k)
      ∙ sym (answer xs accepted k few).bus
      ∙ sym (bus_after_lem xs accepted (suc k)) in
      ap (λ (b : ℕ). has b 0x02) (answer_byte xs accepted k few)
      ∙ answer_tcrit (bus_effect_of (state_after xs k).bus e)
      ∙ ap (λ (p : Bus). (lines_of p).tcrit) after
      ∙ line (suc k) (omega arith)

-- ---- as a sentence

module _ (xs : List ℕ) (k : ℕ) where
  of_channel : (second : Bool) → on_bus xs second ≡ true → (ch : Channel) → pulls_in (account_of xs second k) ch ≡ true → PulledBy xs k
  of_channel second there ch h =
      let a = account_of xs second k in
      record {
        second = second;
        there = there;
        channel = ch;
        set = (verdict ch a.taken).0 (and_left (verdict_of ch a.taken) (not (masked_in ch a)) h);
        unmasked = not_true (masked_in ch a) (and_right (verdict_of ch a.taken) (not (masked_in ch a)) h);
      }

  of_device : (second : Bool) → on_bus xs second ≡ true → pulls_by (account_of xs second k) ≡ true → PulledBy xs k
  of_device second there h =
      by_test (pulls_in (account_of xs second k) local_channel)
      (λ t. of_channel second there local_channel t)
      (λ t. of_channel second there remote_channel (rw t at h))

  some_device : pulled_after xs k ≡ true → PulledBy xs k
  some_device h =
      by_test (pulls_by (account_of xs false k))
      (λ t. of_device false refl t)
      (λ t.
      let b : (on_bus xs true && pulls_by (account_of xs true k)) ≡ true = rw t at h in
      of_device true (and_left (on_bus xs true) _ b) (and_right (on_bus xs true) _ b))

  by_channel : (second : Bool) (ch : Channel) → pulls_in (account_of xs second k) ch ≡ true → pulls_by (account_of xs second k) ≡ true
  by_channel second local_channel h = or_left _ (pulls_in (account_of xs second k) remote_channel) h
  by_channel second remote_channel h = or_right (pulls_in (account_of xs second k) local_channel) _ h

  joined : (second : Bool) → on_bus xs second ≡ true → pulls_by (account_of xs second k) ≡ true → pulled_after xs k ≡ true
  joined false there h = or_left _ (on_bus xs true && pulls_by (account_of xs true k)) h
  joined true there h = or_right (pulls_by (account_of xs false k)) _ (rw (there, h))

  pub pulled : (pulled_after xs k ≡ true) ↔ PulledBy xs k
  pulled = (
    some_device,
    λ b.
        joined b.second b.there
        (by_channel b.second b.channel (rw ((verdict b.channel _).1 b.set, b.unmasked))),
  )

-- of record number k + 1, in words
pub pin_exactly : (xs : List ℕ) → Accepted xs → (k : ℕ) → k < record_count xs
    → (d1_at xs k ≡ true) ↔ PulledBy xs (suc k)
pin_exactly xs accepted k few =
    let same = pin xs accepted k few in
    (λ h. (pulled xs (suc k)).0 (sym same ∙ h), λ b. same ∙ (pulled xs (suc k)).1 b)

-- kinds 02 to 04 leave T_CRIT_A: D1 of such a record's answer is that of the answer before it
pub pin_stays : (xs : List ℕ) → Accepted xs → (k : ℕ) → suc k < record_count xs → {e : Event} → Next xs (suc k) e → reads_or_sends e ≡ true
    → d1_at xs (suc k) ≡ d1_at xs k
pin_stays xs accepted k few n h =
    pin xs accepted (suc k) few
    ∙ ap (λ (a : Account). pulls_by a || (on_bus xs true && pulls_by (account_of xs true (suc (suc k))))) (reads_leave xs false (suc k) n h)
    ∙ ap (λ (a : Account). pulls_by (account_of xs false (suc k)) || (on_bus xs true && pulls_by a)) (reads_leave xs true (suc k) n h)
    ∙ sym (pin xs accepted k (omega arith))
