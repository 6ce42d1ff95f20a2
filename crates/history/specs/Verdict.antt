-- Request e, what an account says of a latch, and with the masks in force of T_CRIT_A: from the conversions taken since the last power-on, each under
-- the settings in force at it. It names records and settings only: no latch, pin, status or live byte of the model.
-- Assumes nothing.
use Rattle.std.specs.Prelude.{ℕ, ◌≡◌, Bool, true, false, not, ◌||◌, ◌&&◌, List, [], ◌∷◌, ◌++◌, ℤ, drop}
use Rattle.temperature.specs.Temperature.{eighths_of, above_of, cleared_of}
use Rattle.registers.specs.Bits.{has, local_mask, remote_mask}
use Rattle.registers.specs.Page.{setting_of}
use Rattle.conversion.specs.Conversion.{queued_of}
use Rattle.conversion.specs.Channels.{Channel, local_channel, remote_channel}
use Rattle.device.specs.declared.Event.{Event}
use Rattle.device.specs.declared.Event.TheVariants.{Write, Read, Send, Receive, Convert, Open, PowerOn, ConvertSecond, OpenSecond}
use Rattle.pair_laws.specs.Devices.{conversion_of, is_power_on}
use Rattle.capture_laws.specs.Events.{events_of}
use Rattle.history.specs.Account.{Taken, Account, account_of, on_bus}

-- ---- the two channels

-- T_CRIT: 20 local, 19 remote, in degrees
abbrev pub crit_of : Channel → List ℕ → ℕ
crit_of local_channel settings = setting_of settings 0x20
crit_of remote_channel settings = setting_of settings 0x19

-- what the channel read, in eighths
abbrev pub read_as : Channel → Taken → ℤ
read_as local_channel t = t.local
read_as remote_channel t = t.remote

-- P4: the fault queue holds remote bits back while the count has not reached 3; local ones never wait
abbrev pub held_back : Channel → Taken → Bool
held_back local_channel t = false
held_back remote_channel t = queued_of (setting_of t.settings 0x03) t.faults

-- D2 and D4 of configuration
abbrev pub mask_of : Channel → ℕ
mask_of local_channel = local_mask
mask_of remote_channel = remote_mask

-- ---- one conversion

-- P3, P4, P5: it made the channel's T_CRIT bit live: it read strictly above the T_CRIT in force at it, and no queue held the bit back
unfoldable pub live_at : Channel → Taken → Bool
live_at ch t = above_of (read_as ch t) (eighths_of (crit_of ch t.settings) 0) && not (held_back ch t)

-- P8: it read strictly below T_CRIT less hysteresis, both in force at it
unfoldable pub below_at : Channel → Taken → Bool
below_at ch t = cleared_of (read_as ch t) (crit_of ch t.settings) (setting_of t.settings 0x21)

-- ---- all of them, the latest first

abbrev pub NoneBelow : Channel → List Taken → Type 0
NoneBelow ch [] = Unit {0}
NoneBelow ch (t ∷ ts) = (below_at ch t ≡ false) × NoneBelow ch ts

-- some taken conversion made the bit live, and none after it read below
pub record SetBy (ch : Channel) (taken : List Taken) : Type 0 where
  pub later : List Taken
  pub by : Taken
  pub earlier : List Taken
  pub parts : taken ≡ later ++ (by ∷ earlier)
  pub live : live_at ch by ≡ true
  pub none_below : NoneBelow ch later

-- the same, to be computed: the latest made it live, or it did not read below and those before it say so
unfoldable pub verdict_of : Channel → List Taken → Bool
verdict_of ch [] = false
verdict_of ch (t ∷ ts) = live_at ch t || (not (below_at ch t) && verdict_of ch ts)

-- the latest made the bit live
abbrev pub latest_live : Channel → List Taken → Bool
latest_live ch [] = false
latest_live ch (t ∷ ts) = live_at ch t

-- of a device of a capture, after the first k records
abbrev pub verdict_after : List ℕ → Bool → ℕ → Channel → Bool
verdict_after capture second k ch = verdict_of ch (account_of capture second k).taken

-- ---- what may move a verdict

-- a conversion of the device, or a power-on
abbrev pub may_move : Bool → Event → Bool
may_move second e = conversion_of second e || is_power_on e

-- kinds 02 to 04: a status read, by read byte or by pointer, and the alert response are among them
abbrev pub reads_or_sends : Event → Bool
reads_or_sends (Write a w v) = false
reads_or_sends (Read a r) = true
reads_or_sends (Send a r) = true
reads_or_sends (Receive a) = true
reads_or_sends (Convert local high low) = false
reads_or_sends (Open local) = false
reads_or_sends PowerOn = false
reads_or_sends (ConvertSecond local high low) = false
reads_or_sends (OpenSecond local) = false

-- record number k + 1 of a capture is this event
pub record Next (capture : List ℕ) (k : ℕ) (e : Event) : Type 0 where
  pub rest : List Event
  pub is : drop k (events_of capture) ≡ e ∷ rest

-- ---- T_CRIT_A

-- the channel's mask is set in the settings in force
abbrev pub masked_in : Channel → Account → Bool
masked_in ch a = has (setting_of a.in_force.settings 0x03) (mask_of ch)

-- P8: a channel of the device is called set and is not masked
abbrev pub pulls_in : Account → Channel → Bool
pulls_in a ch = verdict_of ch a.taken && not (masked_in ch a)

abbrev pub pulls_by : Account → Bool
pulls_by a = pulls_in a local_channel || pulls_in a remote_channel

-- request c: the devices on the bus, joined, after the first k records
abbrev pub pulled_after : List ℕ → ℕ → Bool
pulled_after capture k = pulls_by (account_of capture false k) || (on_bus capture true && pulls_by (account_of capture true k))

-- the same, as a sentence: some device on the bus has a channel that is set by its account and not masked
pub record PulledBy (capture : List ℕ) (k : ℕ) : Type 0 where
  pub second : Bool
  pub there : on_bus capture second ≡ true
  pub channel : Channel
  pub set : SetBy channel (account_of capture second k).taken
  pub unmasked : masked_in channel (account_of capture second k) ≡ false
