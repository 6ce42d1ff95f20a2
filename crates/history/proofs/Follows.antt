-- One device and its account go together. `begins`: at power-on. `own_record`: over every event that is not the other device's conversion, the
-- device does what P1 to P12 say and the account notes the record, and they still agree. `unnoted`: the other's conversions and alert responses are
-- not noted.
-- Assumes nothing.
use mathlib.Core.Path.{◌≡◌, refl, sym, ap, subst, ◌∙◌}
use mathlib.Core.Bool.{Bool, true, false, not, cond, ◌||◌, ◌&&◌, and-true, or-false, not-not}
use mathlib.Core.List.{List, ◌∷◌}
use Prim.Native.Nat.{ℕ}
use native.Mathlib.Omega.{arith}
use lib.IntN.{ℤ}
use lib.Dec.{eqb, ltb}
use lib.Bits.{bit_and}
use Rattle.laws.proofs.Choices.{cond_ind, clash}
use lib.Signed.{lt_z}
use Rattle.temperature.specs.declared.Reading.{Reading}
use Rattle.temperature.specs.Temperature.{open_reading, cleared_of}
use Rattle.temperature.proofs.Whole.{whole, in_degrees}
use Rattle.registers.specs.Bits.{has, standby, fault_queue}
use Rattle.registers.specs.Page.{writable_of, readable_of, known_of, one_shot, setting_of, changed_of, read_at_of, kept_of, address_of}
use Rattle.conversion.specs.declared.Sensed.{Sensed}
use Rattle.conversion.specs.Conversion.{reading_of, local_limits_of, remote_limits_of, out_of, queued_of, shown_of, sensed_of, faults_of}
use Rattle.conversion.specs.Conversion.{latch_of, local_out_of, remote_shown_of}
use Rattle.conversion.specs.Channels.{Channel, local_channel, remote_channel, latch_at}
use Rattle.device.specs.declared.Device.{Device}
use Rattle.device.specs.declared.Outcome.{Outcome}
use Rattle.device.specs.declared.Event.{Event}
use Rattle.device.specs.declared.Event.TheVariants.{Write, Read, Send, Receive, Convert, Open, PowerOn, ConvertSecond, OpenSecond}
use Rattle.device.specs.Bus.{silent_of, answered_of, pointed_of, masked_of, status_cleared_of, stored_of, fired_of, put_of, get_of, point_of}
use Rattle.device.specs.Bus.{responds_of, respond_of, takes_of, converted_of, taking_of, sense_of, powered_of, alert_response, at_of}
use Rattle.device.specs.Step.{effect_of}
use Rattle.device.proofs.AfterRead.{read_ind}
use Rattle.device_laws.proofs.AfterConversion.{after_conversion}
use Rattle.pair_laws.specs.Devices.{conversion_of, is_alert_response}
use Rattle.history.specs.Account.{InForce, Taken, Account, Owner, without_d7, start_of, store_in, ask_in, write_in, is_taken, taken_as, with_taken, convert_in}
use Rattle.history.specs.Account.{sample_in, noted_of}
use Rattle.history.specs.Verdict.{crit_of, read_as, live_at, below_at, verdict_of}
use Rattle.history.specs.Latches.{crit_bit, Tells, in_force_of}
use Rattle.history.proofs.Negation.{not_false, not_true}
use Rattle.history.proofs.WithoutD7.{low_bit, masking, changing, same_reading, same_limits, same_crit, same_hysteresis}
use Rattle.history.proofs.Verdicts.{latching}

pub record Follows (o : Owner) (d : Device) (a : Account) : Type 0 where
  pub variant : d.variant ≡ o.variant
  pub in_force : in_force_of d ≡ a.in_force
  pub sensed : Tells a.taken d.sensed

-- ---- records that the account leaves out

-- what neither the account nor a latch looks at has changed, and nothing else
record Still (d n : Device) : Type 0 where
  variant : n.variant ≡ d.variant
  in_force : in_force_of n ≡ in_force_of d
  sensed : n.sensed ≡ d.sensed

module _ (d : Device) where
  abbrev StillBy : Outcome → Type 0
  StillBy o = Still d o.device

  stays : Still d d
  stays = record { variant = refl; in_force = refl; sensed = refl }

  masked : (n : Device) → Still d n → Still d (masked_of n)
  unfolding masked_of
  masked n s =
      let same : in_force_of (masked_of n) ≡ in_force_of n =
      ap (λ (l : List ℕ). record { settings = l; pending = n.pending; faults = n.sensed.faults }) (masking n.settings) in
      record { variant = s.variant; in_force = same ∙ s.in_force; sensed = s.sensed }

  reads : (r : ℕ) → StillBy (get_of d r)
  unfolding get_of
  reads r =
      cond_ind StillBy (readable_of r)
      (λ _. read_ind (Still d) (pointed_of d r) r
      (λ _. record { variant = refl; in_force = refl; sensed = refl })
      (λ _ _. record { variant = refl; in_force = refl; sensed = refl })
      (λ _ _. masked (status_cleared_of (pointed_of d r)) (record { variant = refl; in_force = refl; sensed = refl }))
      (λ _. record { variant = refl; in_force = refl; sensed = refl })
      (λ _ _ _. record { variant = refl; in_force = refl; sensed = refl }))
      (λ _. stays)

  sends : (r : ℕ) → StillBy (point_of d r)
  unfolding point_of
  sends r = cond_ind StillBy (known_of r) (λ _. record { variant = refl; in_force = refl; sensed = refl }) (λ _. stays)

  responds : StillBy (respond_of d)
  unfolding respond_of
  responds = cond_ind StillBy (responds_of d) (λ _. masked d stays) (λ _. stays)

  home : (a : ℕ) (own : Outcome) → StillBy own → StillBy (at_of d a own)
  home a own s = cond_ind StillBy (eqb a (address_of d.variant)) (λ _. s) (λ _. stays)

-- ---- P3 to P5, P8: one conversion, of either channel

module _ (s : List ℕ) (old : Sensed) (local : ℕ) (remote : ℤ) (diode_open : Bool) (number : ℕ) (pending : Bool) where
  abbrev now : Taken
  now = taken_as number (record { settings = without_d7 s; pending = pending; faults = old.faults }) local remote

  same_count : faults_of (without_d7 s) old.faults remote ≡ faults_of s old.faults remote
  same_count = rw (same_limits s)

  same_queue : queued_of (setting_of (without_d7 s) 0x03) (faults_of (without_d7 s) old.faults remote)
      ≡ queued_of (setting_of s 0x03) (faults_of s old.faults remote)
  unfolding queued_of
  same_queue =
      ap (λ (n : ℕ). queued_of (setting_of (without_d7 s) 0x03) n) same_count
      ∙ ap (λ (on : Bool). on && ltb (faults_of s old.faults remote) 3) (low_bit s fault_queue (omega arith))

  crit : (ch : Channel) → Bool
  crit local_channel = (local_out_of s local).crit
  crit remote_channel = (remote_shown_of s old.faults remote).crit

  live : (ch : Channel) → crit ch ≡ live_at ch now
  unfolding crit live_at out_of local_limits_of remote_limits_of shown_of
  live local_channel = rw (same_crit local_channel s) (sym (and-true _))
  live remote_channel = rw (same_queue, same_crit remote_channel s)

  below : (ch : Channel) → cleared_of (read_as ch now) (crit_of ch s) (setting_of s 0x21) ≡ below_at ch now
  unfolding below_at
  below ch = rw (same_crit ch s, same_hysteresis s)

  -- P8, of the device
  moves : (ch : Channel)
      → latch_at ch (sensed_of s old local remote diode_open)
      ≡ latch_of (crit ch) (cleared_of (read_as ch now) (crit_of ch s) (setting_of s 0x21)) (latch_at ch old)
  unfolding sensed_of crit
  moves local_channel = refl
  moves remote_channel = refl

  -- P5, of the device: LCRIT and RCRIT of the live byte
  bits : (ch : Channel) → has (sensed_of s old local remote diode_open).live (crit_bit ch) ≡ live_at ch now
  unfolding sensed_of crit out_of local_limits_of remote_limits_of shown_of queued_of
  bits local_channel = (after_conversion s old local remote diode_open).lcrit_bit ∙ sym (in_degrees (setting_of s 0x20) local) ∙ live local_channel
  bits remote_channel =
      (after_conversion s old local remote diode_open).rcrit_bit
      ∙ ap (λ (limit : ℤ). lt_z limit remote && not (queued_of (setting_of s 0x03) (faults_of s old.faults remote))) (sym (whole (setting_of s 0x19)))
      ∙ live remote_channel

  tells : {ts : List Taken} → Tells ts old → Tells (now ∷ ts) (sensed_of s old local remote diode_open)
  unfolding sensed_of
  tells {ts} h = record { latch = λ ch. moves ch ∙ rw (live ch, below ch, h.latch ch) (latching ch now ts); live = bits; readings = (refl, refl) }

-- ---- one record of the device

both : (P : Device → Account → Type 0) (t u : Bool) (x y : Outcome) (a b : Account) → t ≡ u → P x.device a → P y.device b
    → P (cond t x y).device (cond u a b)
both P true u x y a b e f g = subst (λ (w : Bool). P x.device (cond w a b)) e f
both P false u x y a b e f g = subst (λ (w : Bool). P y.device (cond w a b)) e g

module _ (o : Owner) (number : ℕ) where
  pub begins : Follows o (powered_of o.variant) (start_of o.variant)
  unfolding powered_of start_of verdict_of
  begins = record { variant = refl; in_force = refl; sensed = record { latch = none; live = dark; readings = tt } }
    where
      none : (ch : Channel) → latch_at ch (powered_of o.variant).sensed ≡ false
      none local_channel = refl
      none remote_channel = refl

      dark : (ch : Channel) → has (powered_of o.variant).sensed.live (crit_bit ch) ≡ false
      dark local_channel = refl
      dark remote_channel = refl

  -- of a device and the account that has what is in force at it
  module _ (d : Device) (ts : List Taken) (v : d.variant ≡ o.variant) (h : Tells ts d.sensed) where
    abbrev account : Account
    account = record { in_force = in_force_of d; taken = ts }

    same : Follows o d account
    same = record { variant = v; in_force = refl; sensed = h }

    still : (n : Device) → Still d n → Follows o n account
    still n s = record { variant = s.variant ∙ v; in_force = s.in_force; sensed = subst (Tells ts) (sym s.sensed) h }

    stores : (w x : ℕ) → Follows o (stored_of d w x) (store_in account w x)
    unfolding stored_of store_in
    stores w x =
        let settings = changed_of d.settings (read_at_of w) (bit_and x (kept_of w)) in
        record {
          variant = v;
          in_force = rw (changing d.settings (read_at_of w) (bit_and x (kept_of w)), low_bit settings standby (omega arith));
          sensed = h;
        }

    asks : Follows o (fired_of d) (ask_in account)
    unfolding fired_of ask_in
    asks = record { variant = v; in_force = rw (low_bit d.settings standby (omega arith)); sensed = h }

    writes : (w x : ℕ) → Follows o (put_of d w x).device (write_in account w x)
    unfolding put_of write_in
    writes w x = split (writable_of w) (eqb w one_shot)
      where
        split : (t u : Bool) → Follows o (cond t (answered_of (cond u (fired_of d) (stored_of d w x)) 0) (silent_of d)).device
            (cond t (cond u (ask_in account) (store_in account w x)) account)
        split true true = asks
        split true false = stores w x
        split false u = same

    senses : (local : ℕ) (remote : Reading) (diode_open : Bool)
        → Follows o (sense_of d local remote diode_open).device (convert_in number account local remote.eighths)
    unfolding sense_of takes_of converted_of sensed_of convert_in is_taken
    senses local remote diode_open =
        let t = taken_as number (in_force_of d) local remote.eighths in
        let after = converted_of d local remote.eighths diode_open in
        let faults = same_count d.settings d.sensed local remote.eighths diode_open number d.pending in
        both (Follows o) (takes_of d) (is_taken (in_force_of d)) (taking_of d local remote diode_open) (silent_of d) (with_taken account t) account
        (rw (low_bit d.settings standby (omega arith)))
        (record {
          variant = v;
          in_force = rw faults;
          sensed = tells d.settings d.sensed local remote.eighths diode_open number d.pending h;
        })
        same

    sampled : (local high low : ℕ)
        → Follows o (sense_of d local (reading_of d.settings high low) false).device (sample_in number account local high low)
    sampled local high low = rw (same_reading d.settings high low) (senses local (reading_of d.settings high low) false)

    -- the account's choice by whose conversion it is
    of_first : {n : Device} {a : Account} → not (not o.second) ≡ false → Follows o n a → Follows o n (cond o.second account a)
    of_first {n} {a} c f = subst (λ (t : Bool). Follows o n (cond t account a)) (sym (sym (not-not o.second) ∙ c)) f

    of_second : {n : Device} {a : Account} → not o.second ≡ false → Follows o n a → Follows o n (cond o.second a account)
    of_second {n} {a} c f = subst (λ (t : Bool). Follows o n (cond t a account)) (sym (not_false o.second c)) f

    own : (e : Event) → conversion_of (not o.second) e ≡ false → Follows o (effect_of d e).device (noted_of o number account e)
    unfolding effect_of noted_of
    own (Write a w x) c =
        both (Follows o) (eqb a (address_of d.variant)) (eqb a (address_of o.variant)) (put_of d w x) (silent_of d) (write_in account w x) account
        (ap (λ (p : ℕ). eqb a (address_of p)) v) (writes w x) same
    own (Read a r) c = still _ (home d a (get_of d r) (reads d r))
    own (Send a r) c = still _ (home d a (point_of d r) (sends d r))
    own (Receive a) c = still _ (cond_ind (StillBy d) (eqb a alert_response) (λ _. responds d) (λ _. home d a (get_of d d.pointer) (reads d d.pointer)))
    own (Convert local high low) c = of_first c (sampled local high low)
    own (Open local) c = of_first c (senses local open_reading true)
    own PowerOn c = rw v begins
    own (ConvertSecond local high low) c = of_second c (sampled local high low)
    own (OpenSecond local) c = of_second c (senses local open_reading true)

  pub own_record : {d : Device} {a : Account} → Follows o d a → (e : Event) → conversion_of (not o.second) e ≡ false
      → Follows o (effect_of d e).device (noted_of o number a e)
  own_record {d} {a} f e c =
      subst (λ (now : InForce). Follows o (effect_of d e).device (noted_of o number (record { in_force = now; taken = a.taken }) e)) f.in_force
      (own d a.taken f.variant f.sensed e c)

  -- ---- records of the other device, and alert responses

  pub unnoted : (a : Account) (e : Event) → (conversion_of (not o.second) e || is_alert_response e) ≡ true → noted_of o number a e ≡ a
  unfolding noted_of
  unnoted a (Write x w y) h = clash h
  unnoted a (Read x r) h = refl
  unnoted a (Send x r) h = refl
  unnoted a (Receive x) h = refl
  unnoted a (Convert local high low) h = rw (sym (not-not o.second) ∙ sym (or-false _) ∙ h)
  unnoted a (Open local) h = rw (sym (not-not o.second) ∙ sym (or-false _) ∙ h)
  unnoted a PowerOn h = clash h
  unnoted a (ConvertSecond local high low) h = rw (not_true o.second (sym (or-false _) ∙ h))
  unnoted a (OpenSecond local) h = rw (not_true o.second (sym (or-false _) ∙ h))
