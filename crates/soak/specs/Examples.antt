-- Worked soaks, on both sides of each line that request f draws, and of those of P1 to P4 and P8 that it stands on. Where nothing else is said: variant 1,
-- remote T_CRIT 85, and, as at power-on, local T_CRIT 85 and hysteresis 10, so that a latch sets above 85 and clears below 75.
-- Assumes nothing.
use Rattle.std.specs.Prelude.{ℕ, ◌≡◌, refl, Bool, true, false, List, [], ◌∷◌, ◌++◌, map}
use Rattle.registers.specs.Page.{changed_of}
use Rattle.conversion.specs.Channels.{Channel, local_channel, remote_channel}
use Rattle.device.specs.declared.Device.{Device}
use Rattle.device.specs.declared.Event.{Event}
use Rattle.device.specs.declared.Event.TheVariants.{Write, Read, Send, Receive, Convert}
use Rattle.device.specs.Bus.{set_up_of, powered_of, zero_device}
use Rattle.device.specs.Run.{after_of}
use Rattle.soak.specs.declared.Soaked.{Soaked}
use Rattle.soak.specs.Soak.{supposing, decided_of, soak_of}
use Rattle.soak.specs.Opened.{soak_opened}

-- ---- devices

-- after these writes, register and value. The first three leave the remote channel no limit that matters but T_CRIT: nothing is below -128, and what is above
-- 127 is above 85
abbrev set : List (ℕ × ℕ) → Device
set writes = after_of (powered_of 1) (map (λ (w : ℕ × ℕ). Write 0x4C w.0 w.1) ((0x19, 85) ∷ (0x0D, 127) ∷ (0x0E, 0x80) ∷ writes))

abbrev plain : Device
plain = set []

-- D0 of configuration: the fault queue
abbrev queue : Device
queue = set ((0x09, 0x01) ∷ [])

-- the queue, and a remote low limit of 75, so that 70 clears and yet counts as a fault
abbrev low_limit : Device
low_limit = set ((0x09, 0x01) ∷ (0x0E, 75) ∷ [])

-- the queue, and a remote high limit of 76, so that 78 is a fault that neither sets nor clears
abbrev high_limit : Device
high_limit = set ((0x09, 0x01) ∷ (0x0D, 76) ∷ [])

-- ---- records

-- a conversion of these bytes, and one of whole degrees
abbrev sampled : ℕ → ℕ → ℕ → List ℕ
sampled local high low = 0x05 ∷ local ∷ high ∷ low ∷ []

abbrev converted : ℕ → ℕ → List ℕ
converted local remote = sampled local remote 0x00

-- with the diode open
abbrev opened : List ℕ
opened = 0x06 ∷ 25 ∷ 0x00 ∷ 0x00 ∷ []

-- the remote channel alone speaks: 25 degrees clear the local latch
abbrev remotes : List ℕ → List ℕ
remotes [] = []
remotes (t ∷ ts) = converted 25 t ++ remotes ts

-- a record that is refused if it is read
abbrev bad : List ℕ
bad = 0xFF ∷ 0xFF ∷ 0xFF ∷ 0xFF ∷ []

-- ---- tables

pub record Row : Type 0 where
  pub device : Device
  pub records : List ℕ
  pub soaked : Soaked

abbrev row : Device → List ℕ → ℕ → Bool → ℕ → Row
row device records code pulled read = record { device = device; records = records; soaked = record { code = code; pulled = pulled; read = read } }

abbrev soaks : List Row → List Soaked
soaks rows = map (λ (r : Row). soak_of r.device r.records) rows

abbrev told : List Row → List Soaked
told rows = map (λ (r : Row). r.soaked) rows

-- ---- decided: a bad record in front is read exactly if a channel is not decided by the later ones

abbrev pub without_queue : List Row
without_queue =
    -- remote: 85.125 sets, and 85 does not; 74.875 clears, and 75 does not
    row plain (bad ++ sampled 25 85 0x20) 0 true 1 ∷
    row plain (bad ++ sampled 25 85 0x00) 3 false 2 ∷
    row plain (bad ++ sampled 25 74 0xE0) 0 false 1 ∷
    row plain (bad ++ sampled 25 75 0x00) 3 false 2 ∷
    -- local: 86 sets, and 85 does not; 74 clears, and 75 does not
    row plain (bad ++ converted 86 25) 0 true 1 ∷
    row plain (bad ++ converted 85 25) 3 false 2 ∷
    row plain (bad ++ converted 74 25) 0 false 1 ∷
    row plain (bad ++ converted 75 25) 3 false 2 ∷
    -- variant 3 has a local T_CRIT of 105
    row (powered_of 3) (bad ++ converted 106 25) 0 true 1 ∷
    row (powered_of 3) (bad ++ converted 105 25) 3 false 2 ∷
    -- one channel is not enough, be it the remote one or the local one
    row plain (bad ++ converted 80 86) 3 false 2 ∷
    row plain (bad ++ converted 86 80) 3 false 2 ∷
    row plain (bad ++ converted 86 25 ++ converted 80 86) 0 true 2 ∷
    row plain (bad ++ converted 25 86 ++ converted 86 80) 0 true 2 ∷
    row plain (bad ++ converted 25 25 ++ converted 80 80) 0 false 2 ∷
    []

pub without_queue_lem : soaks without_queue ≡ told without_queue
unfolding soak_opened
without_queue_lem = refl

-- P1, P2 and P8: two's complement, offset, open diode, hysteresis
abbrev pub readings : List Row
readings =
    -- F0h is -16, on either channel
    row plain (bad ++ converted 0xF0 0xF0) 0 false 1 ∷
    -- T_CRIT -10: -9 sets, -10 does not; -20.125 clears, -20 does not
    row (set ((0x19, 0xF6) ∷ [])) (bad ++ sampled 25 0xF7 0x00) 0 true 1 ∷
    row (set ((0x19, 0xF6) ∷ [])) (bad ++ sampled 25 0xF6 0x00) 3 false 2 ∷
    row (set ((0x19, 0xF6) ∷ [])) (bad ++ sampled 25 0xEB 0xE0) 0 false 1 ∷
    row (set ((0x19, 0xF6) ∷ [])) (bad ++ sampled 25 0xEC 0x00) 3 false 2 ∷
    -- T_CRIT -128, hysteresis 1: no reading clears
    row (set ((0x19, 0x80) ∷ (0x21, 1) ∷ [])) (bad ++ sampled 25 0x80 0x00) 3 false 2 ∷
    row (set ((0x19, 0x80) ∷ (0x21, 1) ∷ [])) (bad ++ sampled 25 0x80 0x20) 0 true 1 ∷
    -- hysteresis 0 and 31
    row (set ((0x21, 0) ∷ [])) (bad ++ sampled 25 84 0xE0) 0 false 1 ∷
    row (set ((0x21, 0) ∷ [])) (bad ++ sampled 25 85 0x00) 3 false 2 ∷
    row (set ((0x21, 31) ∷ [])) (bad ++ sampled 25 53 0xE0) 0 false 1 ∷
    row (set ((0x21, 31) ∷ [])) (bad ++ sampled 25 54 0x00) 3 false 2 ∷
    -- offset 1 and offset an eighth; sums held at both ends
    row (set ((0x11, 1) ∷ [])) (bad ++ remotes (85 ∷ [])) 0 true 1 ∷
    row (set ((0x11, 1) ∷ [])) (bad ++ remotes (84 ∷ [])) 3 false 2 ∷
    row (set ((0x12, 0x20) ∷ [])) (bad ++ remotes (85 ∷ [])) 0 true 1 ∷
    row (set ((0x11, 127) ∷ [])) (bad ++ remotes (127 ∷ [])) 0 true 1 ∷
    row (set ((0x19, 0xF6) ∷ (0x11, 0x80) ∷ [])) (bad ++ remotes (0x80 ∷ [])) 0 false 1 ∷
    -- an open diode reads 127 with no offset
    row plain (bad ++ opened) 0 true 1 ∷
    row (set ((0x19, 127) ∷ (0x11, 5) ∷ [])) (bad ++ opened) 3 false 2 ∷
    []

pub of_readings : soaks readings ≡ told readings
unfolding soak_opened
of_readings = refl

abbrev pub with_queue : List Row
with_queue =
    -- one and two above T_CRIT wait; the third does not
    row queue (bad ++ remotes (86 ∷ [])) 3 false 2 ∷
    row queue (bad ++ remotes (86 ∷ 86 ∷ [])) 3 false 3 ∷
    row queue (bad ++ remotes (86 ∷ 86 ∷ 86 ∷ [])) 0 true 3 ∷
    row queue (bad ++ opened ++ opened) 3 false 3 ∷
    row queue (bad ++ opened ++ opened ++ opened) 0 true 3 ∷
    -- the local channel does not wait
    row queue (bad ++ converted 86 25) 0 true 1 ∷
    -- 84 breaks the row
    row queue (bad ++ remotes (86 ∷ 84 ∷ 86 ∷ 86 ∷ [])) 3 false 5 ∷
    -- 70 clears and is no fault, so that what comes after it is known: two wait, the third sets
    row queue (bad ++ remotes (70 ∷ 86 ∷ [])) 0 false 2 ∷
    row queue (bad ++ remotes (70 ∷ 86 ∷ 86 ∷ [])) 0 false 3 ∷
    row queue (bad ++ remotes (70 ∷ 86 ∷ 86 ∷ 86 ∷ [])) 0 true 3 ∷
    -- three set, and what holds after them does not undo it
    row queue (bad ++ remotes (86 ∷ 86 ∷ 86 ∷ 80 ∷ [])) 0 true 4 ∷
    -- the given fault count decides nothing while records before are unread
    row (after_of queue (Convert 25 86 0 ∷ Convert 25 86 0 ∷ [])) (bad ++ remotes (86 ∷ [])) 3 false 2 ∷
    []

pub with_queue_lem : soaks with_queue ≡ told with_queue
unfolding soak_opened
with_queue_lem = refl

abbrev pub with_limits : List Row
with_limits =
    -- it read below, and yet it is not decided: 70 clears, but counts as a fault, so that the 86 after it may be the third
    row low_limit (bad ++ remotes (70 ∷ 86 ∷ [])) 3 false 3 ∷
    row low_limit (bad ++ remotes (80 ∷ 70 ∷ 86 ∷ [])) 0 false 3 ∷
    row low_limit (bad ++ remotes (86 ∷ 70 ∷ 86 ∷ [])) 0 true 3 ∷
    row low_limit (bad ++ remotes (70 ∷ [])) 0 false 1 ∷
    -- three faults in a row are not enough: none is above T_CRIT
    row high_limit (bad ++ remotes (78 ∷ 78 ∷ 78 ∷ [])) 3 false 4 ∷
    row high_limit (bad ++ remotes (78 ∷ 78 ∷ 86 ∷ [])) 0 true 3 ∷
    []

pub with_limits_lem : soaks with_limits ≡ told with_limits
unfolding soak_opened
with_limits_lem = refl

-- ---- the start reached: the given latches and fault count speak

-- the remote latch set, and the local one
abbrev hot : Event
hot = Convert 25 86 0

abbrev hot_here : Event
hot_here = Convert 86 25 0

abbrev pub to_the_start : List Row
to_the_start =
    -- an empty stretch answers from the state given, masks and all
    row plain [] 0 false 0 ∷
    row (after_of plain (hot ∷ [])) [] 0 true 0 ∷
    row (after_of plain (hot_here ∷ [])) [] 0 true 0 ∷
    row (after_of (set ((0x09, 0x10) ∷ [])) (hot ∷ [])) [] 0 false 0 ∷
    row (after_of (set ((0x09, 0x04) ∷ [])) (hot_here ∷ [])) [] 0 false 0 ∷
    row (after_of plain (hot ∷ Read 0x4C 0x01 ∷ Send 0x4C 0x02 ∷ Receive 0x4C ∷ [])) [] 0 true 0 ∷
    -- what holds leaves them as they are, and what clears does not
    row plain (remotes (80 ∷ 80 ∷ [])) 0 false 2 ∷
    row (after_of plain (hot ∷ [])) (remotes (80 ∷ 80 ∷ [])) 0 true 2 ∷
    row (after_of plain (hot ∷ [])) (remotes (70 ∷ [])) 0 false 1 ∷
    row plain (converted 80 25) 0 false 1 ∷
    row (after_of plain (hot_here ∷ [])) (converted 80 25) 0 true 1 ∷
    row (after_of plain (hot_here ∷ [])) (converted 70 25) 0 false 1 ∷
    -- the fault count carried in: the third, and the second
    row (after_of queue (hot ∷ hot ∷ [])) (remotes (86 ∷ [])) 0 true 1 ∷
    row (after_of queue (hot ∷ [])) (remotes (86 ∷ [])) 0 false 1 ∷
    row (after_of queue (hot ∷ [])) (remotes (86 ∷ 86 ∷ [])) 0 true 2 ∷
    []

pub to_the_start_lem : soaks to_the_start ≡ told to_the_start
unfolding soak_opened
to_the_start_lem = refl

-- ---- masks: D4 of configuration is the remote one, D2 the local one. A masked channel is to be decided too

abbrev pub with_masks : List Row
with_masks =
    row (set ((0x09, 0x14) ∷ [])) (bad ++ converted 86 86) 0 false 1 ∷
    row (set ((0x09, 0x10) ∷ [])) (bad ++ converted 86 86) 0 true 1 ∷
    row (set ((0x09, 0x10) ∷ [])) (bad ++ converted 25 86) 0 false 1 ∷
    row (set ((0x09, 0x04) ∷ [])) (bad ++ converted 86 25) 0 false 1 ∷
    row (set ((0x09, 0x04) ∷ [])) (bad ++ converted 25 86) 0 true 1 ∷
    -- the pin is sure, the masked channel is not decided
    row (set ((0x09, 0x10) ∷ [])) (bad ++ converted 86 80) 3 false 2 ∷
    row (set ((0x09, 0x04) ∷ [])) (bad ++ converted 80 86) 3 false 2 ∷
    row (set ((0x09, 0x14) ∷ [])) (bad ++ converted 86 80) 3 false 2 ∷
    -- the ALERT mask and comparator mode do not matter
    row (set ((0x09, 0x80) ∷ [])) (bad ++ converted 86 86) 0 true 1 ∷
    row (set ((0xBF, 0x01) ∷ [])) (bad ++ converted 86 86) 0 true 1 ∷
    []

pub with_masks_lem : soaks with_masks ≡ told with_masks
unfolding soak_opened
with_masks_lem = refl

-- ---- refusals

abbrev no_variant_in_standby : Device
no_variant_in_standby = set_up_of zero_device 0 false (changed_of zero_device.settings 0x03 0x40)

abbrev standby : Device
standby = set ((0x09, 0x40) ∷ [])

-- out of its ranges: a fault count of 4; a one-shot pending in run mode
abbrev four_faults : Device → Device
four_faults d = supposing d 4 false false

abbrev pending_in_run_mode : Device
pending_in_run_mode = set_up_of plain 0 true plain.settings

abbrev pub refusals : List Row
refusals =
    -- 8 before 10 before 4
    row zero_device [] 8 false 0 ∷
    row (powered_of 4) [] 8 false 0 ∷
    row no_variant_in_standby (0x05 ∷ []) 8 false 0 ∷
    row (four_faults plain) (remotes (86 ∷ [])) 8 false 0 ∷
    row (four_faults standby) (0x05 ∷ []) 8 false 0 ∷
    row pending_in_run_mode (remotes (86 ∷ [])) 8 false 0 ∷
    row standby [] 10 false 0 ∷
    row standby (0x05 ∷ []) 10 false 0 ∷
    row standby bad 10 false 0 ∷
    row (after_of standby (Write 0x4C 0x0F 0 ∷ [])) (remotes (86 ∷ [])) 10 false 0 ∷
    -- the whole state is asked: a pointer that is no register's, a hysteresis of six bits
    row (set_up_of plain 0x15 false plain.settings) [] 8 false 0 ∷
    row (set_up_of plain 0 false (changed_of plain.settings 0x21 0x20)) [] 8 false 0 ∷
    -- a given pin tells nothing on a refusal
    row (supposing plain 4 true true) [] 8 false 0 ∷
    row (after_of plain (hot ∷ Write 0x4C 0x09 0x40 ∷ [])) [] 10 false 0 ∷
    row (after_of plain (hot ∷ [])) (0x05 ∷ []) 4 false 0 ∷
    -- 4 for the length before any record is judged
    row plain (0xFF ∷ []) 4 false 0 ∷
    row plain (0xFF ∷ 0xFF ∷ []) 4 false 0 ∷
    row plain (0x00 ∷ remotes (86 ∷ [])) 4 false 0 ∷
    row plain (remotes (86 ∷ []) ++ (0xFF ∷ 0xFF ∷ [])) 4 false 0 ∷
    row plain (remotes (86 ∷ []) ++ (0xFF ∷ 0xFF ∷ 0xFF ∷ [])) 4 false 0 ∷
    -- 3 for another kind, whatever its operands
    row plain (0x00 ∷ 0x00 ∷ 0x00 ∷ 0x00 ∷ []) 3 false 1 ∷
    row plain (0x01 ∷ 0x80 ∷ 0x00 ∷ 0x00 ∷ []) 3 false 1 ∷
    row plain (0x02 ∷ 0x4C ∷ 0x00 ∷ 0x00 ∷ []) 3 false 1 ∷
    row plain (0x03 ∷ 0x4C ∷ 0x00 ∷ 0x01 ∷ []) 3 false 1 ∷
    row plain (0x04 ∷ 0x0C ∷ 0x00 ∷ 0x00 ∷ []) 3 false 1 ∷
    row plain (0x07 ∷ 0x00 ∷ 0x00 ∷ 0x00 ∷ []) 3 false 1 ∷
    row plain (0x07 ∷ 0x00 ∷ 0x00 ∷ 0x01 ∷ []) 3 false 1 ∷
    row plain (0x08 ∷ 25 ∷ 86 ∷ 0x00 ∷ []) 3 false 1 ∷
    row plain (0x08 ∷ 25 ∷ 86 ∷ 0x1F ∷ []) 3 false 1 ∷
    row plain (0x09 ∷ 25 ∷ 0x00 ∷ 0x00 ∷ []) 3 false 1 ∷
    row plain (0x09 ∷ 25 ∷ 0x01 ∷ 0x00 ∷ []) 3 false 1 ∷
    row plain (0x0A ∷ 25 ∷ 0x00 ∷ 0x00 ∷ []) 3 false 1 ∷
    -- else 4
    row plain (0x05 ∷ 25 ∷ 86 ∷ 0x1F ∷ []) 4 false 1 ∷
    row plain (0x06 ∷ 25 ∷ 0x01 ∷ 0x00 ∷ []) 4 false 1 ∷
    row plain (0x06 ∷ 25 ∷ 0x00 ∷ 0x20 ∷ []) 4 false 1 ∷
    -- the first one met from the end, and only records read
    row plain (bad ++ sampled 25 86 0x01) 4 false 1 ∷
    row plain (sampled 25 86 0x01 ++ bad) 3 false 1 ∷
    row plain (sampled 25 86 0x01 ++ remotes (80 ∷ 80 ∷ [])) 4 false 3 ∷
    row plain (sampled 25 86 0x01 ++ remotes (86 ∷ 80 ∷ [])) 0 true 2 ∷
    -- a pin that is sure tells nothing on a refusal
    row (after_of plain (hot ∷ [])) (bad ++ converted 86 80) 3 false 2 ∷
    []

pub refused : soaks refusals ≡ told refusals
unfolding soak_opened
refused = refl

-- ---- which channel is decided, local and remote, by such conversions

abbrev after : List (ℕ × ℕ) → List Event
after degrees = map (λ (t : ℕ × ℕ). Convert t.0 t.1 0) degrees

abbrev decided : Device → List (ℕ × ℕ) → List Bool
decided d degrees = map (λ (ch : Channel). decided_of ch d (after degrees)) (local_channel ∷ remote_channel ∷ [])

pub channels :
    decided plain [] ∷ decided plain ((80, 80) ∷ []) ∷ decided plain ((86, 80) ∷ []) ∷ decided plain ((80, 86) ∷ []) ∷ decided plain ((25, 25) ∷ []) ∷
    decided queue ((86, 86) ∷ []) ∷ decided queue ((86, 86) ∷ (80, 86) ∷ (80, 86) ∷ []) ∷ decided low_limit ((25, 70) ∷ (80, 86) ∷ []) ∷ []
    ≡ (false ∷ false ∷ []) ∷ (false ∷ false ∷ []) ∷ (true ∷ false ∷ []) ∷ (false ∷ true ∷ []) ∷ (true ∷ true ∷ []) ∷
    (true ∷ false ∷ []) ∷ (true ∷ true ∷ []) ∷ (true ∷ false ∷ []) ∷ []
unfolding soak_opened
channels = refl
