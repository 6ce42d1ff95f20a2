-- A taken conversion, by rulings P2 to P5 and P8 and by request b: what it makes of the readings, the settings in force, the fault count and the
-- latches. Settings are named by the numbers at which their registers are read.
-- Assumes nothing.
use Rattle.std.specs.Prelude.{ℕ, ◌+◌, min, Bool, true, false, not, ◌||◌, ◌&&◌, cond, List, ℤ, ltb}
use Rattle.std.specs.Int.Bits.{bit_or}
use Rattle.temperature.specs.declared.Reading.{Reading}
use Rattle.temperature.specs.Temperature.{eighths_of, held_sum_of, above_of, below_of, cleared_of}
use Rattle.registers.specs.Bits.{has, lhigh_bit, llow_bit, rhigh_bit, rlow_bit, diode_open_bit, rcrit_bit, lcrit_bit, fault_queue}
use Rattle.registers.specs.Page.{setting_of}
use Rattle.conversion.specs.declared.Sensed.{Sensed}
use Rattle.conversion.specs.declared.Limits.{Limits}
use Rattle.conversion.specs.declared.Out.{Out}

-- ---- P2, request b: the remote reading, from the sample's bytes and the offset in 11 and 12, and whether it was held

unfoldable pub reading_of : List ℕ → ℕ → ℕ → Reading
reading_of s high low = held_sum_of high low (setting_of s 0x11) (setting_of s 0x12)

-- ---- P3: limits, in eighths; a T_CRIT is its two's complement byte times 8

unfoldable pub local_limits_of : List ℕ → Limits
local_limits_of s = record { high = eighths_of (setting_of s 0x05) 0; low = eighths_of (setting_of s 0x06) 0; crit = eighths_of (setting_of s 0x20) 0 }

unfoldable pub remote_limits_of : List ℕ → Limits
remote_limits_of s =
    record {
      high = eighths_of (setting_of s 0x07) (setting_of s 0x13);
      low = eighths_of (setting_of s 0x08) (setting_of s 0x14);
      crit = eighths_of (setting_of s 0x19) 0;
    }

-- which of its limits a reading is out of
unfoldable pub out_of : ℤ → Limits → Out
out_of t limits = record { high = above_of t limits.high; low = below_of t limits.low; crit = above_of t limits.crit }

-- ---- P4: the fault count, and the fault queue

unfoldable pub any_of : Out → Bool
any_of o = o.high || o.low || o.crit

-- up by one, to at most 3, where the reading is outside any of its three limits, else 0; D0 is not asked
unfoldable pub count_of : ℕ → Bool → ℕ
count_of n out = cond out (min 3 (n + 1)) 0

-- held back by the fault queue: D0 set and the count not yet 3
unfoldable pub queued_of : ℕ → ℕ → Bool
queued_of configuration count = has configuration fault_queue && ltb count 3

-- the remote bits that become live; OPEN is none of them
unfoldable pub shown_of : Bool → Out → Out
shown_of queued o = record { high = o.high && not queued; low = o.low && not queued; crit = o.crit && not queued }

-- ---- P5: the live byte holds the bits true at this conversion; P2: OPEN with an open diode; P12: D7, busy, is never set

abbrev pub bit_of : Bool → ℕ → ℕ
bit_of on bit = cond on bit 0

unfoldable pub live_of : Out → Out → Bool → ℕ
live_of l r diode_open =
    let local = bit_or (bit_of l.high lhigh_bit) (bit_of l.low llow_bit) in
    let remote = bit_or (bit_or local (bit_of r.high rhigh_bit)) (bit_of r.low rlow_bit) in
    bit_or (bit_or (bit_or remote (bit_of diode_open diode_open_bit)) (bit_of r.crit rcrit_bit)) (bit_of l.crit lcrit_bit)

-- ---- P8: a latch sets when its T_CRIT bit is live, clears when the reading is strictly below limit minus hysteresis, else holds

unfoldable pub latch_of : Bool → Bool → Bool → Bool
latch_of critical cleared old = cond critical true (cond cleared false old)

-- ---- all of it

-- the local reading in eighths
abbrev pub local_of : ℕ → ℤ
local_of byte = eighths_of byte 0

abbrev pub local_out_of : List ℕ → ℕ → Out
local_out_of s local = out_of (local_of local) (local_limits_of s)

abbrev pub remote_out_of : List ℕ → ℤ → Out
remote_out_of s remote = out_of remote (remote_limits_of s)

-- P4: the count at this conversion, its own step included
abbrev pub faults_of : List ℕ → ℕ → ℤ → ℕ
faults_of s old_count remote = count_of old_count (any_of (remote_out_of s remote))

-- the remote bits that become live at this conversion
abbrev pub remote_shown_of : List ℕ → ℕ → ℤ → Out
remote_shown_of s old_count remote = shown_of (queued_of (setting_of s 0x03) (faults_of s old_count remote)) (remote_out_of s remote)

unfoldable pub sensed_of : List ℕ → Sensed → ℕ → ℤ → Bool → Sensed
sensed_of s old local remote diode_open =
    record {
      local = local;
      remote = remote;
      live = live_of (local_out_of s local) (remote_shown_of s old.faults remote) diode_open;
      faults = faults_of s old.faults remote;
      llatch = latch_of (local_out_of s local).crit (cleared_of (local_of local) (setting_of s 0x20) (setting_of s 0x21)) old.llatch;
      rlatch = latch_of (remote_shown_of s old.faults remote).crit (cleared_of remote (setting_of s 0x19) (setting_of s 0x21)) old.rlatch;
    }
