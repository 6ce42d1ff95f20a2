-- Request e, the model's side: an accepted capture, its first k records, and the latches of the state after them.
-- Assumes nothing.
use Rattle.std.specs.Prelude.{ℕ, zero, suc, ◌+◌, ◌*◌, ◌≡◌, Bool, true, ◌&&◌, cond, List, [], ◌∷◌, ◌++◌, ◌⊎◌, get_or, take, drop}
use Rattle.registers.specs.Bits.{has, lcrit_bit, rcrit_bit}
use Rattle.conversion.specs.declared.Sensed.{Sensed}
use Rattle.conversion.specs.Conversion.{local_of}
use Rattle.conversion.specs.Channels.{Channel, local_channel, remote_channel, latch_at}
use Rattle.device.specs.declared.Device.{Device}
use Rattle.device.specs.declared.Event.{Event}
use Rattle.pair.specs.Bus.{picked_of}
use Rattle.pair_laws.specs.Devices.{conversion_of, is_power_on}
use Rattle.capture.specs.declared.Reader.{Reader}
use Rattle.capture.specs.declared.Fed.{Fed}
use Rattle.capture.specs.Reader.{fresh_of, FedWith}
use Rattle.capture.specs.Whole.{number, whole_of}
use Rattle.capture_laws.specs.Events.{events_of}
use Rattle.capture_laws.specs.Schedule.{Bytes}
use Rattle.history.specs.Account.{InForce, Taken, without_d7, is_taken, account_of}
use Rattle.history.specs.Verdict.{verdict_of, latest_live}

-- code 0 and finishing code 0
pub record Accepted (capture : List ℕ) : Type 0 where
  pub code : (whole_of capture).code ≡ 0
  pub finishing : (whole_of capture).finishing ≡ 0

-- the record count of its header: four bytes behind the device count and a variant for each device
abbrev pub record_count : List ℕ → ℕ
record_count capture = number 0 (take 4 (drop (1 + get_or capture 0 0) capture))

-- the bytes of its header
abbrev pub header_bytes : List ℕ → ℕ
header_bytes capture = 5 + get_or capture 0 0

-- its header and its first k records
abbrev pub front : List ℕ → ℕ → List ℕ
front capture k = take (header_bytes capture + k * 4) capture

-- the state after them
abbrev pub state_after : List ℕ → ℕ → Reader
state_after capture k = (whole_of (front capture k)).reader

-- these are the capture's first k records: no byte is refused, and the answers are the first k pairs
pub record Reached (capture : List ℕ) (k : ℕ) : Type 0 where
  pub code : (whole_of (front capture k)).code ≡ 0
  pub done : (state_after capture k).done ≡ k
  pub answers : (whole_of (front capture k)).answers ≡ take (k * 2) (whole_of capture).answers

-- the first byte of the answer to record number k + 1, and its D1, T_CRIT_A pulled, and D3, conversion taken
abbrev pub answer_at : List ℕ → ℕ → ℕ
answer_at capture k = get_or (whole_of capture).answers (k * 2) 0

abbrev pub d1_at : List ℕ → ℕ → Bool
d1_at capture k = has (answer_at capture k) 0x02

abbrev pub d3_at : List ℕ → ℕ → Bool
d3_at capture k = has (answer_at capture k) 0x08

-- ---- the conversions by the log alone

-- by a record, its number and D3 of its answer: a power-on begins anew, a conversion of the device whose D3 is set is listed
abbrev pub listed_by : Bool → ℕ → Bool → List ℕ → Event → List ℕ
listed_by second number taken listed e = cond (is_power_on e) [] (cond (conversion_of second e && taken) (number ∷ listed) listed)

abbrev pub listed_next : Bool → ℕ → Bool → List ℕ → List Event → List ℕ
listed_next second number taken listed [] = listed
listed_next second number taken listed (e ∷ es) = listed_by second number taken listed e

-- the numbers of the device's conversions since the last power-on that were taken, the latest first, after k records
abbrev pub listed_after : List ℕ → Bool → ℕ → List ℕ
listed_after capture second zero = []
listed_after capture second (suc k) = listed_next second (suc k) (d3_at capture k) (listed_after capture second k) (drop k (events_of capture))

-- ---- what each conversion is listed with

-- its number is that of a record behind so many; the settings are those in force before it, where it is taken; the fault count is that in force behind it
pub record ListedWith (capture : List ℕ) (second : Bool) (t : Taken) : Type 0 where
  pub before : ℕ
  pub number : t.number ≡ suc before
  pub taken : is_taken (account_of capture second before).in_force ≡ true
  pub settings : t.settings ≡ (account_of capture second before).in_force.settings
  pub faults : t.faults ≡ (account_of capture second (suc before)).in_force.faults

abbrev pub EachListed : List ℕ → Bool → List Taken → Type 0
EachListed capture second [] = Unit {0}
EachListed capture second (t ∷ ts) = ListedWith capture second t × EachListed capture second ts

-- ---- what a device has sensed, beside its account

-- D0 and D1 of status and of the live byte
abbrev pub crit_bit : Channel → ℕ
crit_bit local_channel = lcrit_bit
crit_bit remote_channel = rcrit_bit

-- the readings are those of the latest conversion listed
abbrev pub LatestRead : List Taken → Sensed → Type 0
LatestRead [] n = Unit {0}
LatestRead (t ∷ ts) n = (local_of n.local ≡ t.local) × (n.remote ≡ t.remote)

-- latches, T_CRIT bits of the live byte, and readings are as the conversions listed say
pub record Tells (taken : List Taken) (n : Sensed) : Type 0 where
  pub latch : (ch : Channel) → latch_at ch n ≡ verdict_of ch taken
  pub live : (ch : Channel) → has n.live (crit_bit ch) ≡ latest_live ch taken
  pub readings : LatestRead taken n

-- what is in force at a device, as an account has it
abbrev pub in_force_of : Device → InForce
in_force_of d = record { settings = without_d7 d.settings; pending = d.pending; faults = d.sensed.faults }

-- ---- of a reader

-- its first device or its second, what that has sensed, and a latch of it
abbrev pub device_in : Reader → Bool → Device
device_in s second = picked_of s.bus second

abbrev pub sensed_in : Reader → Bool → Sensed
sensed_in s second = (device_in s second).sensed

abbrev pub latch_in : Reader → Bool → Channel → Bool
latch_in s second ch = latch_at ch (sensed_in s second)

-- ---- the states that feeding leaves

-- fed from a fresh state, call by call, with whatever buffers: after each call that gives 0 or 7, the bytes consumed so far, and the state that it left
pub data FeedsTo : List ℕ → Reader → Type 0 where
  fresh : FeedsTo [] fresh_of
  called : {bytes : List ℕ} {s : Reader} {r : Fed} (part entry exit : List ℕ) → FeedsTo bytes s → Bytes part → FedWith s part r entry exit
      → (r.code ≡ 0) ⊎ (r.code ≡ 7) → FeedsTo (bytes ++ take r.consumed part) r.reader
