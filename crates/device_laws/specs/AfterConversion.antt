-- P3 to P5 and P8 in temperatures and in the bits that document 01 prints: the live byte, the fault count and the latches that a taken
-- conversion leaves. `before` is what was sensed before it, `after` what is sensed then; settings are s.
-- Assumes nothing.
use Rattle.std.specs.Prelude.{ℕ, ◌+◌, ◌*◌, min, ◌≡◌, Bool, true, false, not, ◌||◌, ◌&&◌, cond, List, ℤ, pos, ◌-ℤ◌, ◌*ℤ◌, ltb}
use Rattle.std.specs.Int.Signed.{lt_z}
use Rattle.temperature.specs.Temperature.{degrees_of, eighths_of}
use Rattle.registers.specs.Bits.{has}
use Rattle.registers.specs.Page.{setting_of}
use Rattle.conversion.specs.declared.Sensed.{Sensed}

-- P3: the remote reading, in eighths, is strictly above its high limit, strictly below its low one, strictly above its T_CRIT byte times 8
abbrev pub above_remote_high : List ℕ → ℤ → Bool
above_remote_high s remote = lt_z (eighths_of (setting_of s 0x07) (setting_of s 0x13)) remote

abbrev pub below_remote_low : List ℕ → ℤ → Bool
below_remote_low s remote = lt_z remote (eighths_of (setting_of s 0x08) (setting_of s 0x14))

abbrev pub above_remote_crit : List ℕ → ℤ → Bool
above_remote_crit s remote = lt_z (degrees_of (setting_of s 0x19) *ℤ pos 8) remote

abbrev pub outside_any : List ℕ → ℤ → Bool
outside_any s remote = above_remote_high s remote || below_remote_low s remote || above_remote_crit s remote

-- P4: D0 of 03 is set and the count has not reached 3
abbrev pub held_back : List ℕ → ℕ → Bool
held_back s count = has (setting_of s 0x03) 0x01 && ltb count 3

-- P8: set if the T_CRIT bit is live, clear if the reading is strictly below limit minus hysteresis, in whole eighths, else as before
abbrev pub latched : Bool → ℤ → ℕ → ℕ → Bool → Bool
latched live t limit hysteresis before = cond live true (cond (lt_z t (degrees_of limit *ℤ pos 8 -ℤ pos (hysteresis * 8))) false before)

pub record AfterConversion (s : List ℕ) (before : Sensed) (diode_open : Bool) (after : Sensed) : Type 0 where
  -- the local bits compare whole degrees and never wait
  pub lhigh_bit : has after.live 0x40 ≡ lt_z (degrees_of (setting_of s 0x05)) (degrees_of after.local)
  pub llow_bit : has after.live 0x20 ≡ lt_z (degrees_of after.local) (degrees_of (setting_of s 0x06))
  pub lcrit_bit : has after.live 0x01 ≡ lt_z (degrees_of (setting_of s 0x20)) (degrees_of after.local)
  -- the remote ones wait for the third fault in a row where D0 is set
  pub rhigh_bit : has after.live 0x10 ≡ (above_remote_high s after.remote && not (held_back s after.faults))
  pub rlow_bit : has after.live 0x08 ≡ (below_remote_low s after.remote && not (held_back s after.faults))
  pub rcrit_bit : has after.live 0x02 ≡ (above_remote_crit s after.remote && not (held_back s after.faults))
  -- OPEN does not wait, and D7 is never set
  pub diode_open_bit : has after.live 0x04 ≡ diode_open
  pub d7 : has after.live 0x80 ≡ false
  -- P4: up by one, to at most 3, else 0; D0 is not asked
  pub count : after.faults ≡ cond (outside_any s after.remote) (min 3 (before.faults + 1)) 0
  -- P8, both channels by one law
  pub local_latch : after.llatch
      ≡ latched (has after.live 0x01) (degrees_of after.local *ℤ pos 8) (setting_of s 0x20) (setting_of s 0x21) before.llatch
  pub remote_latch : after.rlatch ≡ latched (has after.live 0x02) after.remote (setting_of s 0x19) (setting_of s 0x21) before.rlatch

-- ---- what the live byte depends on: the eight limit bytes and D0 of 03; no mask, standby, rate, filter or offset bit
pub record SameLimits (s t : List ℕ) : Type 0 where
  pub local_high : setting_of s 0x05 ≡ setting_of t 0x05
  pub local_low : setting_of s 0x06 ≡ setting_of t 0x06
  pub local_crit : setting_of s 0x20 ≡ setting_of t 0x20
  pub remote_high : setting_of s 0x07 ≡ setting_of t 0x07
  pub remote_high_part : setting_of s 0x13 ≡ setting_of t 0x13
  pub remote_low : setting_of s 0x08 ≡ setting_of t 0x08
  pub remote_low_part : setting_of s 0x14 ≡ setting_of t 0x14
  pub remote_crit : setting_of s 0x19 ≡ setting_of t 0x19
  pub queue : has (setting_of s 0x03) 0x01 ≡ has (setting_of t 0x03) 0x01

-- ---- both channels: the same limits in eighths and the same latch before
pub record SameChannels (s : List ℕ) (before : Sensed) : Type 0 where
  pub high : eighths_of (setting_of s 0x05) 0 ≡ eighths_of (setting_of s 0x07) (setting_of s 0x13)
  pub low : eighths_of (setting_of s 0x06) 0 ≡ eighths_of (setting_of s 0x08) (setting_of s 0x14)
  pub crit : setting_of s 0x20 ≡ setting_of s 0x19
  pub latch : before.llatch ≡ before.rlatch

-- LHIGH and RHIGH, LLOW and RLOW, LCRIT and RCRIT agree, and so do the latches
pub record Alike (after : Sensed) : Type 0 where
  pub high : has after.live 0x40 ≡ has after.live 0x10
  pub low : has after.live 0x20 ≡ has after.live 0x08
  pub crit : has after.live 0x01 ≡ has after.live 0x02
  pub latch : after.llatch ≡ after.rlatch
