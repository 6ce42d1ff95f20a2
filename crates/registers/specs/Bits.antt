-- The named bits of status, configuration and register BF.
-- Assumes nothing.
use Rattle.std.specs.Prelude.{ℕ, Bool, not, eqb}
use Rattle.std.specs.Int.Bits.{bit_and}

-- a bit of the mask is set in the byte
abbrev pub has : ℕ → ℕ → Bool
has byte mask = not (eqb (bit_and byte mask) 0)

-- ---- status: D6 LHIGH, D5 LLOW, D4 RHIGH, D3 RLOW, D2 OPEN, D1 RCRIT, D0 LCRIT

abbrev pub lhigh_bit : ℕ
lhigh_bit = 0x40

abbrev pub llow_bit : ℕ
llow_bit = 0x20

abbrev pub rhigh_bit : ℕ
rhigh_bit = 0x10

abbrev pub rlow_bit : ℕ
rlow_bit = 0x08

abbrev pub diode_open_bit : ℕ
diode_open_bit = 0x04

abbrev pub rcrit_bit : ℕ
rcrit_bit = 0x02

abbrev pub lcrit_bit : ℕ
lcrit_bit = 0x01

-- P6, P7: every bit but Busy and OPEN
abbrev pub alerting : ℕ
alerting = 0x7B

-- ---- configuration: D7 ALERT mask, D6 standby, D4 remote and D2 local T_CRIT mask, D0 fault queue

abbrev pub alert_mask : ℕ
alert_mask = 0x80

abbrev pub standby : ℕ
standby = 0x40

abbrev pub remote_mask : ℕ
remote_mask = 0x10

abbrev pub local_mask : ℕ
local_mask = 0x04

abbrev pub fault_queue : ℕ
fault_queue = 0x01

-- ---- BF: D0 set makes ALERT a comparator, which the live byte alone pulls (P7)

abbrev pub comparator : ℕ
comparator = 0x01
