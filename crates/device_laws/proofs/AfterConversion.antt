-- `after_conversion`: the live byte bit by bit, the fault count and the latches, in temperatures. `same_live` and `same_latches`: what they
-- depend on. `channels_alike`: both channels alike up to the fault queue and OPEN.
-- Assumes nothing.
use mathlib.Core.Path.{◌≡◌, refl, ap, sym, ◌∙◌}
use mathlib.Core.Bool.{Bool, false, not, ◌||◌, ◌&&◌, cond, and-true, and-false, or-false}
use mathlib.Core.List.{List}
use Prim.Native.Nat.{ℕ, ◌+◌, min}
use lib.IntN.{ℤ}
use lib.Signed.{lt_z}
use Rattle.temperature.specs.Temperature.{degrees_of, eighths_of, cleared_of}
use Rattle.temperature.proofs.Whole.{whole, in_degrees}
use Rattle.registers.specs.Bits.{has}
use Rattle.registers.specs.Page.{setting_of}
use Rattle.conversion.specs.declared.Sensed.{Sensed}
use Rattle.conversion.specs.declared.Out.{Out}
use Rattle.conversion.specs.Conversion.{local_limits_of, remote_limits_of, out_of, any_of, count_of, queued_of, shown_of, live_of, latch_of, sensed_of}
use Rattle.conversion.specs.Conversion.{local_out_of, remote_out_of, remote_shown_of, faults_of, local_of}
use Rattle.device_laws.specs.AfterConversion.{SameLimits, SameChannels, Alike, above_remote_high}
use Rattle.device_laws.specs.AfterConversion.{below_remote_low, above_remote_crit, outside_any, held_back, latched, AfterConversion}
use Rattle.device_laws.proofs.Bits.{has_or, bit_of_lem}

-- ---- the live byte, bit by bit

not_held : (on held : Bool) → held ≡ false → (on && not held) ≡ on
not_held on held e = rw e (and-true on)

module _ (l r : Out) (diode_open : Bool) where
  -- the seven joined, at any mask
  seven : (mask : ℕ) → has (live_of l r diode_open) mask
      ≡ (((((((l.high && has 0x40 mask) || (l.low && has 0x20 mask)) || (r.high && has 0x10 mask)) || (r.low && has 0x08 mask))
      || (diode_open && has 0x04 mask)) || (r.crit && has 0x02 mask)) || (l.crit && has 0x01 mask))
  unfolding live_of
  seven mask =
      simp (has_or, bit_of_lem)

  lhigh : has (live_of l r diode_open) 0x40 ≡ l.high
  lhigh = seven 0x40 ∙ simp (and-false, and-true, or-false)

  llow : has (live_of l r diode_open) 0x20 ≡ l.low
  llow = seven 0x20 ∙ simp (and-false, and-true, or-false)

  rhigh : has (live_of l r diode_open) 0x10 ≡ r.high
  rhigh = seven 0x10 ∙ simp (and-false, and-true, or-false)

  rlow : has (live_of l r diode_open) 0x08 ≡ r.low
  rlow = seven 0x08 ∙ simp (and-false, and-true, or-false)

  open_bit : has (live_of l r diode_open) 0x04 ≡ diode_open
  open_bit = seven 0x04 ∙ simp (and-false, and-true, or-false)

  rcrit : has (live_of l r diode_open) 0x02 ≡ r.crit
  rcrit = seven 0x02 ∙ simp (and-false, and-true, or-false)

  lcrit : has (live_of l r diode_open) 0x01 ≡ l.crit
  lcrit = seven 0x01 ∙ simp (and-false, and-true)

  busy : has (live_of l r diode_open) 0x80 ≡ false
  busy = seven 0x80 ∙ simp (and-false, or-false)

-- ---- latches

latch_in_eighths : (live : Bool) (t : ℤ) (limit hysteresis : ℕ) (old : Bool)
    → latch_of live (cleared_of t limit hysteresis) old ≡ latched live t limit hysteresis old
unfolding latch_of cleared_of
latch_in_eighths live t limit hysteresis old = rw (whole limit)

-- ---- a conversion

module _ (s : List ℕ) (before : Sensed) (local : ℕ) (remote : ℤ) (diode_open : Bool) where
  local_high : (local_out_of s local).high ≡ lt_z (degrees_of (setting_of s 0x05)) (degrees_of local)
  unfolding out_of local_limits_of
  local_high = in_degrees (setting_of s 0x05) local

  local_low : (local_out_of s local).low ≡ lt_z (degrees_of local) (degrees_of (setting_of s 0x06))
  unfolding out_of local_limits_of
  local_low = in_degrees local (setting_of s 0x06)

  local_crit : (local_out_of s local).crit ≡ lt_z (degrees_of (setting_of s 0x20)) (degrees_of local)
  unfolding out_of local_limits_of
  local_crit = in_degrees (setting_of s 0x20) local

  remote_high : (remote_out_of s remote).high ≡ above_remote_high s remote
  unfolding out_of remote_limits_of
  remote_high = refl

  remote_low : (remote_out_of s remote).low ≡ below_remote_low s remote
  unfolding out_of remote_limits_of
  remote_low = refl

  remote_crit : (remote_out_of s remote).crit ≡ above_remote_crit s remote
  unfolding out_of remote_limits_of
  remote_crit = ap (λ (limit : ℤ). lt_z limit remote) (whole (setting_of s 0x19))

  shown_high : (remote_shown_of s before.faults remote).high ≡ (above_remote_high s remote && not (held_back s (faults_of s before.faults remote)))
  unfolding shown_of queued_of
  shown_high = rw remote_high

  shown_low : (remote_shown_of s before.faults remote).low ≡ (below_remote_low s remote && not (held_back s (faults_of s before.faults remote)))
  unfolding shown_of queued_of
  shown_low = rw remote_low

  shown_crit : (remote_shown_of s before.faults remote).crit ≡ (above_remote_crit s remote && not (held_back s (faults_of s before.faults remote)))
  unfolding shown_of queued_of
  shown_crit = rw remote_crit

  counted : faults_of s before.faults remote ≡ cond (outside_any s remote) (min 3 (before.faults + 1)) 0
  unfolding count_of any_of
  counted = rw (remote_high, remote_low, remote_crit)

  pub after_conversion : AfterConversion s before diode_open (sensed_of s before local remote diode_open)
  unfolding sensed_of
  after_conversion =
      let l = local_out_of s local in
      let r = remote_shown_of s before.faults remote in
      record {
        lhigh_bit = lhigh l r diode_open ∙ local_high;
        llow_bit = llow l r diode_open ∙ local_low;
        lcrit_bit = lcrit l r diode_open ∙ local_crit;
        rhigh_bit = rhigh l r diode_open ∙ shown_high;
        rlow_bit = rlow l r diode_open ∙ shown_low;
        rcrit_bit = rcrit l r diode_open ∙ shown_crit;
        diode_open_bit = open_bit l r diode_open;
        d7 = busy l r diode_open;
        count = counted;
        local_latch = rw (lcrit l r diode_open)
            (latch_in_eighths l.crit (local_of local) (setting_of s 0x20) (setting_of s 0x21) before.llatch
            ∙ ap (λ (t : ℤ). latched l.crit t (setting_of s 0x20) (setting_of s 0x21) before.llatch) (whole local));
        remote_latch = rw (rcrit l r diode_open) (latch_in_eighths r.crit remote (setting_of s 0x19) (setting_of s 0x21) before.rlatch);
      }

-- ---- what the live byte and the latches depend on

module _ (s t : List ℕ) (before other : Sensed) (local : ℕ) (remote : ℤ) (diode_open : Bool) where
  pub same_live : SameLimits s t → before.faults ≡ other.faults
      → (sensed_of s before local remote diode_open).live ≡ (sensed_of t other local remote diode_open).live
  unfolding sensed_of out_of local_limits_of remote_limits_of queued_of shown_of
  same_live h count =
      rw (
        h.local_high,
        h.local_low,
        h.local_crit,
        h.remote_high,
        h.remote_high_part,
        h.remote_low,
        h.remote_low_part,
        h.remote_crit,
        h.queue,
        count,
      )

  pub same_latches : SameLimits s t → setting_of s 0x21 ≡ setting_of t 0x21 → before.faults ≡ other.faults
      → before.llatch ≡ other.llatch → before.rlatch ≡ other.rlatch
      → ((sensed_of s before local remote diode_open).llatch ≡ (sensed_of t other local remote diode_open).llatch)
      × ((sensed_of s before local remote diode_open).rlatch ≡ (sensed_of t other local remote diode_open).rlatch)
  unfolding sensed_of out_of local_limits_of remote_limits_of queued_of shown_of
  same_latches h hysteresis count l r = (
    rw (h.local_crit, hysteresis, l),
    rw (h.remote_high, h.remote_high_part, h.remote_low, h.remote_low_part, h.remote_crit, h.queue, hysteresis, count, r),
  )

-- ---- both channels

module _ (s : List ℕ) (before : Sensed) (local : ℕ) (diode_open : Bool) where
  abbrev t : ℤ
  t = eighths_of local 0

  abbrev l : Out
  l = local_out_of s local

  abbrev r : Out
  r = remote_shown_of s before.faults t

  module _ (h : SameChannels s before) (free : held_back s (faults_of s before.faults (eighths_of local 0)) ≡ false) where
    high_same : l.high ≡ r.high
    unfolding out_of local_limits_of
    high_same = rw h.high (sym (shown_high s before local t diode_open ∙ not_held (above_remote_high s t) _ free))

    low_same : l.low ≡ r.low
    unfolding out_of local_limits_of
    low_same = rw h.low (sym (shown_low s before local t diode_open ∙ not_held (below_remote_low s t) _ free))

    crit_same : l.crit ≡ r.crit
    unfolding out_of local_limits_of
    crit_same = rw (whole (setting_of s 0x20), h.crit) (sym (shown_crit s before local t diode_open ∙ not_held (above_remote_crit s t) _ free))

    crit_bits : has (live_of l r diode_open) 0x01 ≡ has (live_of l r diode_open) 0x02
    crit_bits = lcrit l r diode_open ∙ crit_same ∙ sym (rcrit l r diode_open)

  pub channels_alike : SameChannels s before → held_back s (sensed_of s before local (eighths_of local 0) diode_open).faults ≡ false
      → Alike (sensed_of s before local (eighths_of local 0) diode_open)
  unfolding sensed_of
  channels_alike h free =
      let a = after_conversion s before local t diode_open in
      record {
        high = lhigh l r diode_open ∙ high_same h free ∙ sym (rhigh l r diode_open);
        low = llow l r diode_open ∙ low_same h free ∙ sym (rlow l r diode_open);
        crit = crit_bits h free;
        latch = a.local_latch ∙ rw (crit_bits h free, ← whole local, h.crit, h.latch) (sym a.remote_latch);
      }
