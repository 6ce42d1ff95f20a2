-- Worked histories, as theorems about the account: captures, and what it says after 0, 1, 2, .. of their records, worked out by hand from documents 01
-- and 02 on both sides of each line. At power-on T_CRIT is 85 local (105 of an LM89-1D) and 110 remote, hysteresis 10, high limits 70, low limits 0, all
-- in degrees.
-- Assumes nothing.
use Rattle.std.specs.Prelude.{ℕ, zero, suc, ◌≡◌, refl, Bool, true, false, List, [], ◌∷◌, map, ℤ, pos, length}
use Rattle.registers.specs.Page.{setting_of}
use Rattle.conversion.specs.Channels.{Channel, local_channel, remote_channel}
use Rattle.device.specs.declared.Event.{Event}
use Rattle.device.specs.declared.Event.TheVariants.{Write, Read, Send, Receive, Convert, Open, PowerOn, ConvertSecond, OpenSecond}
use Rattle.capture.specs.Whole.{whole_of}
use Rattle.capture.specs.Opened.{capture_opened}
use Rattle.history.specs.Account.{Taken, account_of}
use Rattle.history.specs.Verdict.{verdict_after, pulled_after, may_move, reads_or_sends}
use Rattle.history.specs.Opened.{history_opened}

-- ---- captures

-- kind, a, b, c
pub record Line : Type 0 where
  pub kind : ℕ
  pub a : ℕ
  pub b : ℕ
  pub c : ℕ

abbrev line : ℕ → ℕ → ℕ → ℕ → Line
line kind a b c = record { kind = kind; a = a; b = b; c = c }

abbrev pub bytes_of : List Line → List ℕ
bytes_of [] = []
bytes_of (l ∷ ls) = l.kind ∷ l.a ∷ l.b ∷ l.c ∷ bytes_of ls

-- of one device of this variant
abbrev pub alone_of : ℕ → List Line → List ℕ
alone_of variant ls = 0x01 ∷ variant ∷ 0 ∷ 0 ∷ 0 ∷ length ls ∷ bytes_of ls

-- of two devices, the first and the second
abbrev pub both_of : ℕ → ℕ → List Line → List ℕ
both_of first second ls = 0x02 ∷ first ∷ second ∷ 0 ∷ 0 ∷ 0 ∷ length ls ∷ bytes_of ls

-- of one LM89C, at 4C
abbrev pub one_of : List Line → List ℕ
one_of = alone_of 1

-- of an LM89C at 4C, the first, and an LM89-1C at 4D, the second
abbrev pub two_of : List Line → List ℕ
two_of = both_of 1 2

-- a write to the device at 4C, or at 4D
abbrev put : ℕ → ℕ → Line
put w v = line 0x01 0x4C w v

abbrev put_other : ℕ → ℕ → Line
put_other w v = line 0x01 0x4D w v

abbrev power_on : Line
power_on = line 0x07 0 0 0

-- remote T_CRIT 85, and the remote high limit out of the way at 127
abbrev crit85 : List Line → List Line
crit85 ls = put 0x19 85 ∷ put 0x0D 127 ∷ ls

-- a conversion with the local channel at 25 degrees, the remote one at whole degrees
abbrev remote : ℕ → Line
remote degrees = line 0x05 25 degrees 0

-- and with the remote channel at 25
abbrev local : ℕ → Line
local degrees = line 0x05 degrees 25 0

-- ---- what is told of them

-- from this many records on, for so many numbers of records
abbrev pub verdicts_from : List ℕ → Bool → Channel → ℕ → ℕ → List Bool
verdicts_from capture second ch k zero = []
verdicts_from capture second ch k (suc n) = verdict_after capture second k ch ∷ verdicts_from capture second ch (suc k) n

abbrev pub pulled_from : List ℕ → ℕ → ℕ → List Bool
pulled_from capture k zero = []
pulled_from capture k (suc n) = pulled_after capture k ∷ pulled_from capture (suc k) n

-- a capture, whose latch, and what its account says after 0, 1, 2, .. records
pub record History : Type 0 where
  pub capture : List ℕ
  pub second : Bool
  pub channel : Channel
  pub says : List Bool

abbrev of : List Line → Channel → List Bool → History
of ls ch says = record { capture = one_of ls; second = false; channel = ch; says = says }

-- of another part, alone; of two, the first or the second; and of two in the other order, at 4D and at 4C
abbrev of_part : ℕ → List Line → Channel → List Bool → History
of_part variant ls ch says = record { capture = alone_of variant ls; second = false; channel = ch; says = says }

abbrev of_first : List Line → Channel → List Bool → History
of_first ls ch says = record { capture = two_of ls; second = false; channel = ch; says = says }

abbrev of_second : List Line → Channel → List Bool → History
of_second ls ch says = record { capture = two_of ls; second = true; channel = ch; says = says }

abbrev of_turned : Bool → List Line → Channel → List Bool → History
of_turned second ls ch says = record { capture = both_of 2 1 ls; second = second; channel = ch; says = says }

-- document 01's listing
abbrev pub listing : List Line
listing =
    line 0x01 0x4C 0x19 0x55 ∷
    line 0x01 0x4C 0x0D 0x7F ∷
    line 0x05 0x19 0x55 0x20 ∷
    line 0x02 0x4C 0x02 0x00 ∷
    line 0x01 0x4C 0x21 0x05 ∷
    line 0x05 0x19 0x50 0x00 ∷
    line 0x05 0x19 0x4F 0xE0 ∷
    line 0x02 0x4C 0x03 0x00 ∷
    line 0x01 0x4C 0x30 0x00 ∷
    []

-- 86 86 84 86 86 86 with T_CRIT 85, the fault queue as this configuration byte has it
abbrev queue : ℕ → List Line
queue configuration =
    put 0x09 configuration ∷ crit85 (remote 86 ∷ remote 86 ∷ remote 84 ∷ remote 86 ∷ remote 86 ∷ remote 86 ∷ [])

-- an alert response with ALERT pulled, and a status read
abbrev pub alerted : List Line
alerted = local 86 ∷ line 0x04 0x0C 0 0 ∷ line 0x02 0x4C 0x02 0 ∷ local 75 ∷ local 74 ∷ []

abbrev pub histories : List History
histories =
    -- 85.125 sets with T_CRIT 85; a status read does not clear; hysteresis 5: 80.000 holds, 79.875 clears; the local channel reads 25
    of listing remote_channel (false ∷ false ∷ false ∷ true ∷ true ∷ true ∷ true ∷ false ∷ false ∷ false ∷ []) ∷
    of listing local_channel (false ∷ false ∷ false ∷ false ∷ false ∷ false ∷ false ∷ false ∷ false ∷ false ∷ []) ∷
    -- strictly above: remote 110.000 does not set, 110.125 does; local 85 does not, 86 does
    of (line 0x05 25 110 0x00 ∷ line 0x05 25 110 0x20 ∷ []) remote_channel (false ∷ false ∷ true ∷ []) ∷
    of (local 85 ∷ local 86 ∷ []) local_channel (false ∷ false ∷ true ∷ []) ∷
    -- an LM89-1D begins with 105
    of_part 3 (local 86 ∷ local 105 ∷ local 106 ∷ []) local_channel (false ∷ false ∷ false ∷ true ∷ []) ∷
    -- strictly below, local: with hysteresis 10, 75 holds and 74 clears
    of (local 86 ∷ local 75 ∷ local 74 ∷ []) local_channel (false ∷ true ∷ true ∷ false ∷ []) ∷
    -- local T_CRIT -128, hysteresis 1: -127 sets, and -128 is not below -129
    of (put 0x20 0x80 ∷ put 0x21 1 ∷ local 0x81 ∷ local 0x80 ∷ []) local_channel (false ∷ false ∷ false ∷ true ∷ true ∷ []) ∷
    -- the fault queue holds the bit back until the third fault in a row; without it the first sets, and 84 is not below 75
    of (queue 0x01) remote_channel (false ∷ false ∷ false ∷ false ∷ false ∷ false ∷ false ∷ false ∷ false ∷ true ∷ []) ∷
    of (queue 0x00) remote_channel (false ∷ false ∷ false ∷ false ∷ true ∷ true ∷ true ∷ true ∷ true ∷ true ∷ []) ∷
    -- a reading that is held back, 86, leaves set what is set and clear what is clear; 74 clears though the queue is on
    of (crit85 (remote 86 ∷ put 0x09 0x01 ∷ remote 80 ∷ remote 86 ∷ remote 74 ∷ remote 86 ∷ [])) remote_channel
    (false ∷ false ∷ false ∷ true ∷ true ∷ true ∷ true ∷ false ∷ false ∷ []) ∷
    -- faults are counted with the queue off too, here above the high limit 70: two before it is on, and the third, above T_CRIT by then, sets
    of (remote 71 ∷ remote 71 ∷ put 0x09 0x01 ∷ put 0x19 70 ∷ remote 71 ∷ []) remote_channel (false ∷ false ∷ false ∷ false ∷ false ∷ true ∷ []) ∷
    -- a row of faults may be of any limit: -1, -1, 111; 70.125 is a fault above 70.000 and none above 70.125
    of (put 0x09 0x01 ∷ remote 0xFF ∷ remote 0xFF ∷ remote 111 ∷ []) remote_channel (false ∷ false ∷ false ∷ false ∷ true ∷ []) ∷
    of (put 0x09 0x01 ∷ line 0x05 25 70 0x20 ∷ line 0x05 25 70 0x20 ∷ remote 111 ∷ []) remote_channel (false ∷ false ∷ false ∷ false ∷ true ∷ []) ∷
    of (put 0x09 0x01 ∷ put 0x13 0x20 ∷ line 0x05 25 70 0x20 ∷ line 0x05 25 70 0x20 ∷ remote 111 ∷ []) remote_channel
    (false ∷ false ∷ false ∷ false ∷ false ∷ false ∷ []) ∷
    -- a conversion that is not taken is no fault: two in standby, and then the third in a row sets
    of (put 0x09 0x41 ∷ remote 111 ∷ remote 111 ∷ put 0x09 0x01 ∷ remote 111 ∷ remote 111 ∷ remote 111 ∷ []) remote_channel
    (false ∷ false ∷ false ∷ false ∷ false ∷ false ∷ false ∷ true ∷ []) ∷
    -- T_CRIT of an open diode waits too; the local channel never does
    of (put 0x09 0x01 ∷ line 0x06 25 0 0 ∷ line 0x06 25 0 0 ∷ line 0x06 25 0 0 ∷ []) remote_channel (false ∷ false ∷ false ∷ false ∷ true ∷ []) ∷
    of (put 0x09 0x01 ∷ local 86 ∷ []) local_channel (false ∷ false ∷ true ∷ []) ∷
    -- a mask does not matter: D4 and D2 set before the conversion, and none
    of (put 0x09 0x14 ∷ line 0x05 86 111 0 ∷ []) remote_channel (false ∷ false ∷ true ∷ []) ∷
    of (put 0x09 0x14 ∷ line 0x05 86 111 0 ∷ []) local_channel (false ∷ false ∷ true ∷ []) ∷
    of (put 0x09 0x00 ∷ line 0x05 86 111 0 ∷ []) remote_channel (false ∷ false ∷ true ∷ []) ∷
    of (put 0x09 0x00 ∷ line 0x05 86 111 0 ∷ []) local_channel (false ∷ false ∷ true ∷ []) ∷
    -- the hysteresis in force at the later conversion counts: with 5 a reading of 79 clears; raised to 10 in between, it holds
    of (crit85 (put 0x21 5 ∷ remote 86 ∷ remote 79 ∷ [])) remote_channel (false ∷ false ∷ false ∷ false ∷ true ∷ false ∷ []) ∷
    of (crit85 (put 0x21 5 ∷ remote 86 ∷ put 0x21 10 ∷ remote 79 ∷ [])) remote_channel (false ∷ false ∷ false ∷ false ∷ true ∷ true ∷ true ∷ []) ∷
    -- and lowered from 10 to 5 in between, it clears; the write alone does not
    of (crit85 (remote 86 ∷ put 0x21 5 ∷ remote 79 ∷ [])) remote_channel (false ∷ false ∷ false ∷ true ∷ true ∷ false ∷ []) ∷
    -- so does the limit: raised from 85 to 100, a reading of 86 is below 90; lowered to 80, one of 71, below 75, is not below 70
    of (crit85 (remote 86 ∷ put 0x19 100 ∷ remote 86 ∷ [])) remote_channel (false ∷ false ∷ false ∷ true ∷ true ∷ false ∷ []) ∷
    of (crit85 (remote 86 ∷ put 0x19 80 ∷ remote 71 ∷ [])) remote_channel (false ∷ false ∷ false ∷ true ∷ true ∷ true ∷ []) ∷
    -- the limit in force at a conversion counts for setting: lowered behind it, nothing is set
    of (remote 86 ∷ put 0x19 85 ∷ []) remote_channel (false ∷ false ∷ false ∷ []) ∷
    -- standby: not taken without a one-shot; with one, the first is taken and the second is not; two writes to 0F are one
    of (put 0x09 0x40 ∷ local 86 ∷ []) local_channel (false ∷ false ∷ false ∷ []) ∷
    of (put 0x09 0x40 ∷ put 0x0F 0 ∷ local 86 ∷ local 25 ∷ []) local_channel (false ∷ false ∷ false ∷ true ∷ true ∷ []) ∷
    of (put 0x09 0x40 ∷ put 0x0F 0 ∷ put 0x0F 0 ∷ local 86 ∷ local 25 ∷ []) local_channel (false ∷ false ∷ false ∷ false ∷ true ∷ true ∷ []) ∷
    -- a one-shot out of standby asks for nothing; leaving standby drops one, and a write that stays in standby does not
    of (put 0x0F 0 ∷ put 0x09 0x40 ∷ local 86 ∷ []) local_channel (false ∷ false ∷ false ∷ false ∷ []) ∷
    of (put 0x09 0x40 ∷ put 0x0F 0 ∷ put 0x09 0x00 ∷ put 0x09 0x40 ∷ local 86 ∷ []) local_channel (false ∷ false ∷ false ∷ false ∷ false ∷ false ∷ []) ∷
    of (put 0x09 0x40 ∷ put 0x0F 0 ∷ put 0x09 0x44 ∷ local 86 ∷ []) local_channel (false ∷ false ∷ false ∷ false ∷ true ∷ []) ∷
    -- a conversion that is not taken does not clear either
    of (local 86 ∷ put 0x09 0x40 ∷ local 25 ∷ []) local_channel (false ∷ true ∷ true ∷ true ∷ []) ∷
    -- power-on forgets the conversion, the settings, the faults, standby and a one-shot
    of (local 86 ∷ power_on ∷ []) local_channel (false ∷ true ∷ false ∷ []) ∷
    of (put 0x20 25 ∷ power_on ∷ local 26 ∷ []) local_channel (false ∷ false ∷ false ∷ false ∷ []) ∷
    of (remote 71 ∷ remote 71 ∷ power_on ∷ put 0x09 0x01 ∷ put 0x19 70 ∷ remote 71 ∷ []) remote_channel
    (false ∷ false ∷ false ∷ false ∷ false ∷ false ∷ false ∷ []) ∷
    of (put 0x09 0x40 ∷ power_on ∷ local 86 ∷ []) local_channel (false ∷ false ∷ false ∷ true ∷ []) ∷
    of (put 0x09 0x40 ∷ put 0x0F 0 ∷ power_on ∷ put 0x09 0x40 ∷ local 86 ∷ []) local_channel (false ∷ false ∷ false ∷ false ∷ false ∷ false ∷ []) ∷
    -- an open diode reads 127, above 110, and no offset of -128 changes that
    of (put 0x11 0x80 ∷ line 0x06 25 0 0 ∷ []) remote_channel (false ∷ false ∷ true ∷ []) ∷
    -- a sample counts with its offset: 110 plus 1, and 110 plus an eighth
    of (put 0x11 1 ∷ remote 110 ∷ []) remote_channel (false ∷ false ∷ true ∷ []) ∷
    of (put 0x12 0x20 ∷ remote 110 ∷ []) remote_channel (false ∷ false ∷ true ∷ []) ∷
    -- a sum of 254 does not go round, and is above 127; one of -256 is held: it is read as -128, which is not below -129
    of (put 0x19 127 ∷ put 0x11 127 ∷ remote 127 ∷ []) remote_channel (false ∷ false ∷ false ∷ true ∷ []) ∷
    of (put 0x19 0x80 ∷ put 0x21 1 ∷ remote 25 ∷ put 0x11 0x80 ∷ remote 0x80 ∷ []) remote_channel (false ∷ false ∷ false ∷ true ∷ true ∷ true ∷ []) ∷
    -- reads, sends, receives and writes at another address, to a register that is none and to one that is read only move no verdict: 74 clears by 75
    of (local 86 ∷ line 0x02 0x4C 0x02 0 ∷ line 0x03 0x4C 0x02 0 ∷ line 0x04 0x4C 0 0 ∷ put_other 0x20 0 ∷ put 0x30 0 ∷ put 0x03 0x40 ∷ local 74 ∷ [])
    local_channel (false ∷ true ∷ true ∷ true ∷ true ∷ true ∷ true ∷ true ∷ false ∷ []) ∷
    -- nor does an alert response, which is acknowledged here (`alert_answered`), nor the status read behind it
    of alerted local_channel (false ∷ true ∷ true ∷ true ∷ true ∷ false ∷ []) ∷
    -- two devices: 05 and 06 are of the first, 08 and 09 of the second, and the other's do not count, to set or to clear
    of_first (local 86 ∷ line 0x08 25 25 0 ∷ line 0x09 25 0 0 ∷ []) local_channel (false ∷ true ∷ true ∷ true ∷ []) ∷
    of_second (local 86 ∷ line 0x08 86 25 0 ∷ local 25 ∷ line 0x08 25 25 0 ∷ []) local_channel (false ∷ false ∷ true ∷ true ∷ false ∷ []) ∷
    of_second (line 0x06 25 0 0 ∷ line 0x09 25 0 0 ∷ []) remote_channel (false ∷ false ∷ true ∷ []) ∷
    of_first (line 0x09 25 0 0 ∷ line 0x06 25 0 0 ∷ []) remote_channel (false ∷ false ∷ true ∷ []) ∷
    -- nor are the other's faults counted, or its conversions the ones that a one-shot waits for
    of_first (put 0x09 0x01 ∷ line 0x08 25 111 0 ∷ line 0x08 25 111 0 ∷ remote 111 ∷ []) remote_channel (false ∷ false ∷ false ∷ false ∷ false ∷ []) ∷
    of_second (put_other 0x09 0x40 ∷ put_other 0x0F 0 ∷ local 86 ∷ line 0x08 86 25 0 ∷ []) local_channel (false ∷ false ∷ false ∷ false ∷ true ∷ []) ∷
    -- a write at 4D is to the second alone, one at 4C to the first alone; in a header of the other order it is the other way round, alone too
    of_second (put_other 0x20 24 ∷ line 0x08 25 25 0 ∷ []) local_channel (false ∷ false ∷ true ∷ []) ∷
    of_second (put 0x20 24 ∷ line 0x08 25 25 0 ∷ []) local_channel (false ∷ false ∷ false ∷ []) ∷
    of_first (put_other 0x20 24 ∷ local 25 ∷ []) local_channel (false ∷ false ∷ false ∷ []) ∷
    of_turned false (put_other 0x20 24 ∷ local 25 ∷ []) local_channel (false ∷ false ∷ true ∷ []) ∷
    of_turned true (put 0x20 24 ∷ line 0x08 25 25 0 ∷ []) local_channel (false ∷ false ∷ true ∷ []) ∷
    of_turned false (put 0x20 24 ∷ local 25 ∷ []) local_channel (false ∷ false ∷ false ∷ []) ∷
    of_turned true (put_other 0x20 24 ∷ line 0x08 25 25 0 ∷ []) local_channel (false ∷ false ∷ false ∷ []) ∷
    -- 07 restarts both
    of_first (local 86 ∷ line 0x08 86 25 0 ∷ power_on ∷ []) local_channel (false ∷ true ∷ true ∷ false ∷ []) ∷
    of_second (local 86 ∷ line 0x08 86 25 0 ∷ power_on ∷ []) local_channel (false ∷ false ∷ true ∷ false ∷ []) ∷
    []

abbrev says : History → List Bool
says h = verdicts_from h.capture h.second h.channel 0 (length h.says)

pub worked : map says histories ≡ map (λ (h : History). h.says) histories
unfolding history_opened
worked = refl

-- ---- the conversions that are listed

-- the numbers of their records, the latest first: of the listing, of conversions in standby, and behind a power-on
abbrev numbers_of : List Line → List ℕ
numbers_of ls = map (λ (t : Taken). t.number) (account_of (one_of ls) false (length ls)).taken

pub numbered : map numbers_of
    (listing
    ∷ (local 86 ∷ put 0x09 0x40 ∷ local 86 ∷ put 0x0F 0 ∷ local 86 ∷ local 86 ∷ [])
    ∷ (local 86 ∷ power_on ∷ local 86 ∷ local 86 ∷ [])
    ∷ [])
    ≡ (7 ∷ 6 ∷ 3 ∷ []) ∷ (5 ∷ 1 ∷ []) ∷ (4 ∷ 3 ∷ []) ∷ []
unfolding history_opened
numbered = refl

-- of each: both readings in eighths, the fault count, and of the settings in force remote T_CRIT and hysteresis
pub record Entry : Type 0 where
  pub local : ℤ
  pub remote : ℤ
  pub faults : ℕ
  pub crit : ℕ
  pub hysteresis : ℕ

abbrev entry : ℤ → ℤ → ℕ → ℕ → ℕ → Entry
entry local remote faults crit hysteresis = record { local = local; remote = remote; faults = faults; crit = crit; hysteresis = hysteresis }

abbrev pub entry_of : Taken → Entry
entry_of t = entry t.local t.remote t.faults (setting_of t.settings 0x19) (setting_of t.settings 0x21)

-- of the listing: 79.875, 80 and 85.125 degrees; the last was a fault, and hysteresis was 10 still
pub entries : map entry_of (account_of (one_of listing) false 9).taken
    ≡ entry (pos 200) (pos 639) 0 85 5 ∷ entry (pos 200) (pos 640) 0 85 5 ∷ entry (pos 200) (pos 681) 1 85 10 ∷ []
unfolding history_opened
entries = refl

-- ---- T_CRIT_A

-- a capture, and whether T_CRIT_A is pulled after 0, 1, 2, .. records
pub record Pulled : Type 0 where
  pub capture : List ℕ
  pub says : List Bool

abbrev pulled : List ℕ → List Bool → Pulled
pulled capture says = record { capture = capture; says = says }

abbrev pub pins : List Pulled
pins =
    -- before its first record, and D1 of the nine answers of document 01's listing: 04 04 0B 06 06 0A 08 04 00
    pulled (one_of listing) (false ∷ false ∷ false ∷ true ∷ true ∷ true ∷ true ∷ false ∷ false ∷ false ∷ []) ∷
    -- the masks in force count, not those at the conversion: D2 hides the local latch, D4 the remote one, and taking one away shows it
    pulled (one_of (put 0x09 0x04 ∷ local 86 ∷ put 0x09 0x10 ∷ put 0x09 0x14 ∷ put 0x09 0x00 ∷ [])) (false ∷ false ∷ false ∷ true ∷ false ∷ true ∷ []) ∷
    pulled (one_of (put 0x09 0x10 ∷ remote 111 ∷ put 0x09 0x04 ∷ put 0x09 0x14 ∷ put 0x09 0x00 ∷ [])) (false ∷ false ∷ false ∷ true ∷ false ∷ true ∷ []) ∷
    -- either latch, and either device: both are masked or cleared before the line is let go
    pulled (one_of (line 0x05 86 111 0 ∷ line 0x05 25 111 0 ∷ line 0x05 25 25 0 ∷ [])) (false ∷ true ∷ true ∷ false ∷ []) ∷
    pulled (two_of (local 86 ∷ line 0x08 86 25 0 ∷ local 25 ∷ put_other 0x09 0x04 ∷ [])) (false ∷ true ∷ true ∷ true ∷ false ∷ []) ∷
    -- the ALERT mask, D7, hides neither
    pulled (one_of (put 0x09 0x80 ∷ local 86 ∷ [])) (false ∷ false ∷ true ∷ []) ∷
    []

pub pinned : map (λ (p : Pulled). pulled_from p.capture 0 (length p.says)) pins ≡ map (λ (p : Pulled). p.says) pins
unfolding history_opened
pinned = refl

-- ---- which kinds move what

-- an event of each kind, 01 to 09
abbrev pub kinds : List Event
kinds =
    Write 0x4C 0x09 0 ∷ Read 0x4C 0x02 ∷ Send 0x4C 0x02 ∷ Receive 0x4C ∷ Convert 25 25 0 ∷ Open 25 ∷ PowerOn ∷ ConvertSecond 25 25 0 ∷ OpenSecond 25 ∷ []

pub reading : map reads_or_sends kinds ≡ false ∷ true ∷ true ∷ true ∷ false ∷ false ∷ false ∷ false ∷ false ∷ []
reading = refl

pub moving_first : map (may_move false) kinds ≡ false ∷ false ∷ false ∷ false ∷ true ∷ true ∷ true ∷ false ∷ false ∷ []
moving_first = refl

pub moving_second : map (may_move true) kinds ≡ false ∷ false ∷ false ∷ false ∷ false ∷ false ∷ true ∷ true ∷ true ∷ []
moving_second = refl

-- ---- the captures of both tables are accepted

abbrev codes_of : List ℕ → List ℕ
codes_of capture = (whole_of capture).code ∷ (whole_of capture).finishing ∷ []

pub accepted : map (λ (h : History). codes_of h.capture) histories ≡ map (λ (h : History). 0 ∷ 0 ∷ []) histories
unfolding capture_opened
accepted = refl

pub pins_accepted : map (λ (p : Pulled). codes_of p.capture) pins ≡ map (λ (p : Pulled). 0 ∷ 0 ∷ []) pins
unfolding capture_opened
pins_accepted = refl

-- the alert response is answered, 99 of 4C, and lets ALERT go; the status read gives LHIGH and LCRIT; T_CRIT_A stays until 74
pub alert_answered : (whole_of (one_of alerted)).answers ≡ 0x0B ∷ 0 ∷ 0x06 ∷ 0x99 ∷ 0x06 ∷ 0x41 ∷ 0x0A ∷ 0 ∷ 0x08 ∷ 0 ∷ []
unfolding capture_opened
alert_answered = refl
