-- Each part of a device after an event, part by part: a second account of `effect_of`, which goes event by event. Registers, bits and
-- addresses stand here as document 01 prints them. `proofs/Moves.antt` and `proofs/Registers.antt` say that the two accounts agree for every
-- device and event. Request c: the last two lines of each account are those of kinds 08 and 09, which move what 05 and 06 do, of the device at hand.
-- Assumes nothing.
use Rattle.std.specs.Prelude.{ℕ, ◌+◌, ◌-◌, min, Bool, true, false, not, ◌||◌, ◌&&◌, cond, List, [], ◌∷◌, ℤ, pos, neg_ℤ, ◌+ℤ◌, ◌*ℤ◌, eqb, ltb}
use Rattle.std.specs.Int.Signed.{lt_z}
use Rattle.std.specs.Int.Bits.{bit_and, bit_or}
use Rattle.temperature.specs.Temperature.{degrees_of, eighths_of, high_byte_of, low_byte_of}
use Rattle.registers.specs.Page.{r_set, w_set, among, setting_of}
use Rattle.device.specs.declared.Device.{Device}
use Rattle.device.specs.declared.Event.{Event}
use Rattle.device.specs.declared.Event.TheVariants.{Write, Read, Send, Receive, Convert, Open, PowerOn, ConvertSecond, OpenSecond}

-- ---- tests, in the paper's words

-- the byte of the settable register that is read at r
abbrev pub byte_at : Device → ℕ → ℕ
byte_at d r = setting_of d.settings r

-- a bit of the mask is set
abbrev pub any_set : ℕ → ℕ → Bool
any_set byte mask = not (eqb (bit_and byte mask) 0)

-- the device's own address: 4C for variant 1, else 4D
abbrev pub own_of : Device → ℕ → Bool
own_of d a = eqb a (cond (eqb d.variant 1) 0x4C 0x4D)

-- configuration D6
abbrev pub in_standby : Device → Bool
in_standby d = any_set (byte_at d 0x03) 0x40

-- P11: a conversion is taken out of standby, or with a one-shot pending
abbrev pub taken_of : Device → Bool
taken_of d = not (in_standby d) || d.pending

-- P10: a register in R or W
abbrev pub named_of : ℕ → Bool
named_of r = among r r_set || among r w_set

-- ---- the pointer

-- P10: read and write set it when acknowledged, send for any register in R or W; it starts at 00, and nothing else moves it
abbrev pub pointer_after : Device → Event → ℕ
pointer_after d (Write a w v) = cond (own_of d a && among w w_set) w d.pointer
pointer_after d (Read a r) = cond (own_of d a && among r r_set) r d.pointer
pointer_after d (Send a r) = cond (own_of d a && named_of r) r d.pointer
pointer_after d (Receive a) = d.pointer
pointer_after d (Convert local high low) = d.pointer
pointer_after d (Open local) = d.pointer
pointer_after d PowerOn = 0x00
pointer_after d (ConvertSecond local high low) = d.pointer
pointer_after d (OpenSecond local) = d.pointer

-- ---- the pending one-shot

-- P11: a write to 0F, of any value, leaves it pending exactly if it comes in standby; a write to 09 with D6 clear leaves standby and
-- clears it; taking a conversion clears it; no other write, read, send or receive moves it
abbrev pub pending_after : Device → Event → Bool
pending_after d (Write a w v) =
    cond (own_of d a && eqb w 0x0F) (in_standby d)
    (cond (own_of d a && (eqb w 0x09 && not (any_set v 0x40))) false
    d.pending)
pending_after d (Read a r) = d.pending
pending_after d (Send a r) = d.pending
pending_after d (Receive a) = d.pending
pending_after d (Convert local high low) = cond (taken_of d) false d.pending
pending_after d (Open local) = cond (taken_of d) false d.pending
pending_after d PowerOn = false
pending_after d (ConvertSecond local high low) = cond (taken_of d) false d.pending
pending_after d (OpenSecond local) = cond (taken_of d) false d.pending

-- ---- the readings

-- P2: sample plus offset, in whole eighths
abbrev pub sum_at : Device → ℕ → ℕ → ℤ
sum_at d high low = eighths_of high low +ℤ eighths_of (byte_at d 0x11) (byte_at d 0x12)

-- held to -1024..1023
abbrev pub held_to : ℤ → ℤ
held_to sum = cond (lt_z (pos 1023) sum) (pos 1023) (cond (lt_z sum (neg_ℤ (pos 1024))) (neg_ℤ (pos 1024)) sum)

-- P2: sample plus offset, held
abbrev pub sample_of : Device → ℕ → ℕ → ℤ
sample_of d high low = held_to (sum_at d high low)

abbrev pub local_after : Device → Event → ℕ
local_after d (Write a w v) = d.sensed.local
local_after d (Read a r) = d.sensed.local
local_after d (Send a r) = d.sensed.local
local_after d (Receive a) = d.sensed.local
local_after d (Convert local high low) = cond (taken_of d) local d.sensed.local
local_after d (Open local) = cond (taken_of d) local d.sensed.local
local_after d PowerOn = 0
local_after d (ConvertSecond local high low) = cond (taken_of d) local d.sensed.local
local_after d (OpenSecond local) = cond (taken_of d) local d.sensed.local

-- P2: an open diode gives 1016 with no offset
abbrev pub remote_after : Device → Event → ℤ
remote_after d (Write a w v) = d.sensed.remote
remote_after d (Read a r) = d.sensed.remote
remote_after d (Send a r) = d.sensed.remote
remote_after d (Receive a) = d.sensed.remote
remote_after d (Convert local high low) = cond (taken_of d) (sample_of d high low) d.sensed.remote
remote_after d (Open local) = cond (taken_of d) (pos 1016) d.sensed.remote
remote_after d PowerOn = pos 0
remote_after d (ConvertSecond local high low) = cond (taken_of d) (sample_of d high low) d.sensed.remote
remote_after d (OpenSecond local) = cond (taken_of d) (pos 1016) d.sensed.remote

-- neither a taken conversion nor power-on
abbrev pub rests_at : Device → Event → Bool
rests_at d (Write a w v) = true
rests_at d (Read a r) = true
rests_at d (Send a r) = true
rests_at d (Receive a) = true
rests_at d (Convert local high low) = not (taken_of d)
rests_at d (Open local) = not (taken_of d)
rests_at d PowerOn = false
rests_at d (ConvertSecond local high low) = not (taken_of d)
rests_at d (OpenSecond local) = not (taken_of d)

-- ---- the fault count

-- P3: a remote reading within its three limits, high in 07 and 13, low in 08 and 14, T_CRIT the byte of 19 times 8
abbrev pub within_remote : Device → ℤ → Bool
within_remote d t =
    not (lt_z (eighths_of (byte_at d 0x07) (byte_at d 0x13)) t)
    && (not (lt_z t (eighths_of (byte_at d 0x08) (byte_at d 0x14)))
    && not (lt_z (degrees_of (byte_at d 0x19) *ℤ pos 8) t))

-- P4: up by one, to at most 3, on a reading outside any of its limits, else 0; configuration D0 is not asked
abbrev pub count_after : Device → ℤ → ℕ
count_after d t = cond (within_remote d t) 0 (min 3 (d.sensed.faults + 1))

abbrev pub faults_after : Device → Event → ℕ
faults_after d (Write a w v) = d.sensed.faults
faults_after d (Read a r) = d.sensed.faults
faults_after d (Send a r) = d.sensed.faults
faults_after d (Receive a) = d.sensed.faults
faults_after d (Convert local high low) = cond (taken_of d) (count_after d (sample_of d high low)) d.sensed.faults
faults_after d (Open local) = cond (taken_of d) (count_after d (pos 1016)) d.sensed.faults
faults_after d PowerOn = 0
faults_after d (ConvertSecond local high low) = cond (taken_of d) (count_after d (sample_of d high low)) d.sensed.faults
faults_after d (OpenSecond local) = cond (taken_of d) (count_after d (pos 1016)) d.sensed.faults

-- ---- status

-- P5: it gathers the live byte that a taken conversion gives; P6: a read or a receive of 02 clears it; nothing else moves it
abbrev pub status_after : Device → Event → ℕ → ℕ
status_after d (Write a w v) live = d.status
status_after d (Read a r) live = cond (own_of d a && eqb r 0x02) 0 d.status
status_after d (Send a r) live = d.status
status_after d (Receive a) live = cond (own_of d a && eqb d.pointer 0x02) 0 d.status
status_after d (Convert local high low) live = cond (taken_of d) (bit_or d.status live) d.status
status_after d (Open local) live = cond (taken_of d) (bit_or d.status live) d.status
status_after d PowerOn live = 0
status_after d (ConvertSecond local high low) live = cond (taken_of d) (bit_or d.status live) d.status
status_after d (OpenSecond local) live = cond (taken_of d) (bit_or d.status live) d.status

-- ---- the kept low byte, by request a

-- the byte kept, and whether one is
abbrev pub kept_low : Device → ℕ × Bool
kept_low d = (d.low, d.lowkept)

-- a read of register r, acknowledged at the own address alone: of 01 it keeps that moment's low byte, of 10 it lets go
abbrev pub low_after_read : Device → Bool → ℕ → ℕ × Bool
low_after_read d own r =
    cond (own && eqb r 0x01) (low_byte_of d.sensed.remote, true)
    (cond (own && eqb r 0x10) (0, false)
    (kept_low d))

-- reads by pointer count alike; power-on lets go; nothing else moves it
abbrev pub low_after : Device → Event → ℕ × Bool
low_after d (Write a w v) = kept_low d
low_after d (Read a r) = low_after_read d (own_of d a) r
low_after d (Send a r) = kept_low d
low_after d (Receive a) = low_after_read d (own_of d a) d.pointer
low_after d (Convert local high low) = kept_low d
low_after d (Open local) = kept_low d
low_after d PowerOn = (0, false)
low_after d (ConvertSecond local high low) = kept_low d
low_after d (OpenSecond local) = kept_low d

-- ---- acknowledged, a conversion taken, and a reading held

-- P7, P9: ALERT pulled and BF D0 = 0: the mask, configuration D7, is 0 and a bit of 7B is set in status
abbrev pub answers_alert : Device → Bool
answers_alert d = not (any_set (byte_at d 0x03) 0x80) && (not (any_set (byte_at d 0xBF) 0x01) && any_set d.status 0x7B)

-- P9, P10: at the own address a write in W, a read in R, a send in either, a receive while the pointer is in R; the alert response
abbrev pub acknowledged_of : Device → Event → Bool
acknowledged_of d (Write a w v) = own_of d a && among w w_set
acknowledged_of d (Read a r) = own_of d a && among r r_set
acknowledged_of d (Send a r) = own_of d a && named_of r
acknowledged_of d (Receive a) = (own_of d a && among d.pointer r_set) || (eqb a 0x0C && answers_alert d)
acknowledged_of d (Convert local high low) = false
acknowledged_of d (Open local) = false
acknowledged_of d PowerOn = false
acknowledged_of d (ConvertSecond local high low) = false
acknowledged_of d (OpenSecond local) = false

-- P11: conversions alone are taken, and never acknowledged
abbrev pub taken_by : Device → Event → Bool
taken_by d (Write a w v) = false
taken_by d (Read a r) = false
taken_by d (Send a r) = false
taken_by d (Receive a) = false
taken_by d (Convert local high low) = taken_of d
taken_by d (Open local) = taken_of d
taken_by d PowerOn = false
taken_by d (ConvertSecond local high low) = taken_of d
taken_by d (OpenSecond local) = taken_of d

-- request b: above 1023 or below -1024
abbrev pub off_scale : ℤ → Bool
off_scale sum = lt_z (pos 1023) sum || lt_z sum (neg_ℤ (pos 1024))

-- request b: a conversion with the diode connected, kind 05 or 08, that is taken and whose sample plus offset is off the scale; no other event
abbrev pub held_by : Device → Event → Bool
held_by d (Write a w v) = false
held_by d (Read a r) = false
held_by d (Send a r) = false
held_by d (Receive a) = false
held_by d (Convert local high low) = taken_of d && off_scale (sum_at d high low)
held_by d (Open local) = false
held_by d PowerOn = false
held_by d (ConvertSecond local high low) = taken_of d && off_scale (sum_at d high low)
held_by d (OpenSecond local) = false

-- ---- the settings

-- the fourteen settable bytes, by the numbers at which they are written
abbrev pub fourteen : List ℕ
fourteen = 0x09 ∷ 0x0A ∷ 0x0B ∷ 0x0C ∷ 0x0D ∷ 0x0E ∷ 0x11 ∷ 0x12 ∷ 0x13 ∷ 0x14 ∷ 0x19 ∷ 0x20 ∷ 0x21 ∷ 0xBF ∷ []

-- 09 to 0E are 03 to 08 in that order; the others keep their number
abbrev pub read_number : ℕ → ℕ
read_number w = cond (ltb w 0x0F) (w - 6) w

-- kept bits: 03 D5h; 12, 13, 14 E0h; 21 1Fh; BF 07h; others all
abbrev pub kept_bits : ℕ → ℕ
kept_bits r =
    cond (eqb r 0x03) 0xD5
    (cond (among r (0x12 ∷ 0x13 ∷ 0x14 ∷ [])) 0xE0
    (cond (eqb r 0x21) 0x1F
    (cond (eqb r 0xBF) 0x07
    0xFF)))

-- 004's table: rate 8, high limits 70, remote T_CRIT 110, local T_CRIT 85 or for variant 3 105, hysteresis 10, the others 0
abbrev pub start_byte : ℕ → ℕ → ℕ
start_byte variant r =
    cond (eqb r 0x04) 8
    (cond (eqb r 0x05) 70
    (cond (eqb r 0x07) 70
    (cond (eqb r 0x19) 110
    (cond (eqb r 0x20) (cond (eqb variant 3) 105 85)
    (cond (eqb r 0x21) 10
    0)))))

-- P6: a status read finds BF D0 0 and a bit of 7B set
abbrev pub finds_alert : Device → Bool
finds_alert d = not (any_set (byte_at d 0xBF) 0x01) && any_set d.status 0x7B

-- the byte of the register that is read at q, with D7 of 03 set under a test
abbrev pub masked_at : Device → Bool → ℕ → ℕ
masked_at d test q = cond (test && eqb q 0x03) (bit_or (byte_at d q) 0x80) (byte_at d q)

-- the byte of the register that is read at q: a write to it gives it the value's kept bits; P6, P9: a status read that finds an alert, and
-- an answered alert response, set the mask bit, D7 of 03, and no other; nothing else moves any of the fourteen
abbrev pub setting_after : Device → Event → ℕ → ℕ
setting_after d (Write a w v) q = cond (own_of d a && (among w fourteen && eqb q (read_number w))) (bit_and v (kept_bits q)) (byte_at d q)
setting_after d (Read a r) q = masked_at d (own_of d a && (eqb r 0x02 && finds_alert d)) q
setting_after d (Send a r) q = byte_at d q
setting_after d (Receive a) q = masked_at d ((own_of d a && (eqb d.pointer 0x02 && finds_alert d)) || (eqb a 0x0C && answers_alert d)) q
setting_after d (Convert local high low) q = byte_at d q
setting_after d (Open local) q = byte_at d q
setting_after d PowerOn q = start_byte d.variant q
setting_after d (ConvertSecond local high low) q = byte_at d q
setting_after d (OpenSecond local) q = byte_at d q

-- ---- the byte read

-- the byte of a register in R: 00 local, 01 the latest remote reading's high byte, 02 status, 10 by request a the kept low byte, with nothing
-- kept the latest, FE manufacturer, FF die revision, else a setting
abbrev pub shown_at : Device → ℕ → ℕ → ℕ → ℕ
shown_at d manufacturer revision r =
    cond (eqb r 0x00) d.sensed.local
    (cond (eqb r 0x01) (high_byte_of d.sensed.remote)
    (cond (eqb r 0x02) d.status
    (cond (eqb r 0x10) (cond d.lowkept d.low (low_byte_of d.sensed.remote))
    (cond (eqb r 0xFE) manufacturer
    (cond (eqb r 0xFF) revision
    (byte_at d r))))))

-- FE is 01; FF is 31h, 34h and 35h for variant 1, 2 and 3
abbrev pub register_byte : Device → ℕ → ℕ
register_byte d = shown_at d 0x01 (cond (eqb d.variant 1) 0x31 (cond (eqb d.variant 2) 0x34 0x35))

-- P9: the alert response is answered with the address times 2 plus 1; where no byte is read it is 0
abbrev pub byte_read : Device → Event → ℕ
byte_read d (Write a w v) = 0
byte_read d (Read a r) = cond (own_of d a && among r r_set) (register_byte d r) 0
byte_read d (Send a r) = 0
byte_read d (Receive a) =
    cond (own_of d a && among d.pointer r_set) (register_byte d d.pointer)
    (cond (eqb a 0x0C && answers_alert d) (cond (eqb d.variant 1) 0x99 0x9B)
    0)
byte_read d (Convert local high low) = 0
byte_read d (Open local) = 0
byte_read d PowerOn = 0
byte_read d (ConvertSecond local high low) = 0
byte_read d (OpenSecond local) = 0
