-- A state's ranges, of the device's part, and an event's operands. No other test is made. The variant is a test apart, because a
-- capture's reader makes it only once the device's variant byte is taken.
-- Assumes nothing.
use Rattle.std.specs.Prelude.{ℕ, ◌%◌, Bool, true, false, not, ◌||◌, ◌&&◌, List, [], ◌∷◌, map, pos, neg_ℤ, ltb, leb, eqb}
use Rattle.std.specs.Int.Signed.{le_z}
use Rattle.std.specs.Int.Bits.{bit_and}
use Rattle.registers.specs.Page.{Settable, settable, setting_of, known_of}
use Rattle.device.specs.declared.Device.{Device}
use Rattle.device.specs.declared.Event.{Event}
use Rattle.device.specs.declared.Event.TheVariants.{Write, Read, Send, Receive, Convert, Open, PowerOn, ConvertSecond, OpenSecond}
use Rattle.device.specs.Bus.{standby_of}

abbrev pub all_true : List Bool → Bool
all_true [] = true
all_true (t ∷ []) = t
all_true (t ∷ u ∷ ts) = t && all_true (u ∷ ts)

-- variant 1 to 3
unfoldable pub variant_of : ℕ → Bool
variant_of variant = leb 1 variant && leb variant 3

-- a register byte within its mask
abbrev pub keeps_of : List ℕ → Settable → Bool
keeps_of settings s = eqb (bit_and (setting_of settings s.read) s.kept) (setting_of settings s.read)

unfoldable pub masks_of : List ℕ → Bool
masks_of settings = all_true (map (keeps_of settings) settable)

abbrev pub range_tests : Device → List Bool
range_tests d =
    -- fault count 0 to 3
    leb d.sensed.faults 3 ∷
    -- remote reading -1024 to 1023 eighths
    le_z (neg_ℤ (pos 1024)) d.sensed.remote ∷
    le_z d.sensed.remote (pos 1023) ∷
    -- pointer in R or W
    known_of d.pointer ∷
    -- status and live byte with D7 clear
    ltb d.status 0x80 ∷
    ltb d.sensed.live 0x80 ∷
    -- register bytes within their masks
    masks_of d.settings ∷
    -- one-shot pending only in standby
    (not d.pending || standby_of d.settings) ∷
    -- request a: the kept byte a multiple of 32, and 0 where none is kept
    eqb (d.low % 32) 0 ∷
    (d.lowkept || eqb d.low 0) ∷
    []

unfoldable pub ranged_of : Device → Bool
ranged_of d = all_true (range_tests d)

-- ---- operands: addresses are at most 7Fh, a remote low byte is a multiple of 32. An event has no place for a record's other operands,
-- which are 0

unfoldable pub operands_of : Event → Bool
operands_of (Write address w v) = leb address 0x7F
operands_of (Read address r) = leb address 0x7F
operands_of (Send address r) = leb address 0x7F
operands_of (Receive address) = leb address 0x7F
operands_of (Convert local high low) = eqb (low % 32) 0
operands_of (Open local) = true
operands_of PowerOn = true
-- request c: 08 and 09 have the operands of 05 and 06
operands_of (ConvertSecond local high low) = eqb (low % 32) 0
operands_of (OpenSecond local) = true

-- request c: kinds 08 and 09, the conversions of a bus's second device
unfoldable pub second_of : Event → Bool
second_of (Write address w v) = false
second_of (Read address r) = false
second_of (Send address r) = false
second_of (Receive address) = false
second_of (Convert local high low) = false
second_of (Open local) = false
second_of PowerOn = false
second_of (ConvertSecond local high low) = true
second_of (OpenSecond local) = true
