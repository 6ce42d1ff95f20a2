-- Request e, the account of one device: from a capture's records, in order, the settings in force and the conversions taken since the last
-- power-on. It names records and settings only: no latch, pin, status or live byte of the model. Settings are named by the numbers at which their
-- registers are read.
-- Assumes nothing.
use Rattle.std.specs.Prelude.{ℕ, ◌+◌, Bool, false, not, ◌||◌, ◌&&◌, cond, List, [], ◌∷◌, ℤ, eqb, get_or, take}
use Rattle.std.specs.Int.Bits.{bit_and}
use Rattle.temperature.specs.Temperature.{open_reading}
use Rattle.registers.specs.Page.{writable_of, one_shot, setting_of, changed_of, read_at_of, kept_of, power_on_of, address_of}
use Rattle.conversion.specs.Conversion.{reading_of, local_of, faults_of}
use Rattle.device.specs.declared.Event.{Event}
use Rattle.device.specs.declared.Event.TheVariants.{Write, Read, Send, Receive, Convert, Open, PowerOn, ConvertSecond, OpenSecond}
use Rattle.device.specs.Bus.{standby_of}
use Rattle.capture_laws.specs.Events.{events_of, variants_in}

-- ---- what an account holds

-- what is in force: the fourteen settable bytes, a one-shot asked for and not yet taken (P11), and the fault count (P4)
pub record InForce : Type 0 where
  pub settings : List ℕ
  pub pending : Bool
  pub faults : ℕ

-- a taken conversion: the number of its record, from 1; both readings, in eighths; the settings in force at it; the fault count, its own step
-- included
pub record Taken : Type 0 where
  pub number : ℕ
  pub local : ℤ
  pub remote : ℤ
  pub settings : List ℕ
  pub faults : ℕ

-- what is in force after some records, and the conversions taken since the last power-on, the latest first
pub record Account : Type 0 where
  pub in_force : InForce
  pub taken : List Taken

-- ---- the settings

-- D7 of configuration, the ALERT mask, is left out: P6 and P9 move it through status and pin, and no latch depends on it
abbrev pub all_but_d7 : ℕ
all_but_d7 = 0x7F

unfoldable pub without_d7 : List ℕ → List ℕ
without_d7 settings = changed_of settings 0x03 (bit_and (setting_of settings 0x03) all_but_d7)

-- as at power-on: the page's bytes, no one-shot asked for, no fault counted, no conversion taken
unfoldable pub start_of : ℕ → Account
start_of variant = record { in_force = record { settings = without_d7 (power_on_of variant); pending = false; faults = 0 }; taken = [] }

-- the same conversions with this one-shot and these settings
abbrev pub set_up_in : Account → Bool → List ℕ → Account
set_up_in a pending settings = record { in_force = record { settings = settings; pending = pending; faults = a.in_force.faults }; taken = a.taken }

-- the register that is written at w keeps the value's kept bits, but for D7 of configuration; P11: leaving standby drops a one-shot
unfoldable pub store_in : Account → ℕ → ℕ → Account
store_in a w v =
    let settings = without_d7 (changed_of a.in_force.settings (read_at_of w) (bit_and v (kept_of w))) in
    set_up_in a (a.in_force.pending && standby_of settings) settings

-- P11: a write to 0F, of any value, in standby asks for a one-shot; out of standby it does nothing
unfoldable pub ask_in : Account → Account
ask_in a = set_up_in a (a.in_force.pending || standby_of a.in_force.settings) a.in_force.settings

-- a write at the device's own address; P10: a register outside W changes nothing
unfoldable pub write_in : Account → ℕ → ℕ → Account
write_in a w v = cond (writable_of w) (cond (eqb w one_shot) (ask_in a) (store_in a w v)) a

-- ---- a conversion

-- P11: in standby it is taken only if a one-shot was asked for
unfoldable pub is_taken : InForce → Bool
is_taken f = not (standby_of f.settings) || f.pending

-- with the local byte and the remote reading in eighths; P4: the count goes up by one, to at most 3, outside any remote limit, else to 0
abbrev pub taken_as : ℕ → InForce → ℕ → ℤ → Taken
taken_as number f local remote =
    record { number = number; local = local_of local; remote = remote; settings = f.settings; faults = faults_of f.settings f.faults remote }

-- P11: taking it uses the one-shot up
abbrev pub with_taken : Account → Taken → Account
with_taken a t = record { in_force = record { settings = t.settings; pending = false; faults = t.faults }; taken = t ∷ a.taken }

-- P11: a conversion not taken changes nothing
unfoldable pub convert_in : ℕ → Account → ℕ → ℤ → Account
convert_in number a local remote = cond (is_taken a.in_force) (with_taken a (taken_as number a.in_force local remote)) a

-- P2: sample plus offset, held; an open diode gives 127 degrees with no offset
abbrev pub sample_in : ℕ → Account → ℕ → ℕ → ℕ → Account
sample_in number a local high low = convert_in number a local (reading_of a.in_force.settings high low).eighths

abbrev pub open_in : ℕ → Account → ℕ → Account
open_in number a local = convert_in number a local open_reading.eighths

-- ---- the records in order

-- whose account it is: the first or the second device of a bus, and its variant
pub record Owner : Type 0 where
  pub second : Bool
  pub variant : ℕ

-- a record, by its number. Reads, sends and receives, the alert response among them, leave the account as it is; kinds 05 and 06 are of the first
-- device, 08 and 09 of the second (request c); 07 begins the account anew
unfoldable pub noted_of : Owner → ℕ → Account → Event → Account
noted_of o number a (Write address w v) = cond (eqb address (address_of o.variant)) (write_in a w v) a
noted_of o number a (Read address r) = a
noted_of o number a (Send address r) = a
noted_of o number a (Receive address) = a
noted_of o number a (Convert local high low) = cond o.second a (sample_in number a local high low)
noted_of o number a (Open local) = cond o.second a (open_in number a local)
noted_of o number a PowerOn = start_of o.variant
noted_of o number a (ConvertSecond local high low) = cond o.second (sample_in number a local high low) a
noted_of o number a (OpenSecond local) = cond o.second (open_in number a local) a

-- the records from this number on
unfoldable pub account_from : Owner → ℕ → Account → List Event → Account
account_from o number a [] = a
account_from o number a (e ∷ es) = account_from o (number + 1) (noted_of o number a e) es

-- ---- of a capture

-- its first variant byte, or its second
abbrev pub owner_in : List ℕ → Bool → Owner
owner_in capture second = record { second = second; variant = get_or (variants_in capture) (cond second 1 0) 0 }

-- of a device, after the first k records
unfoldable pub account_of : List ℕ → Bool → ℕ → Account
account_of capture second k =
    let o = owner_in capture second in
    account_from o 1 (start_of o.variant) (take k (events_of capture))

-- a device count of 2 puts a second device on the bus
abbrev pub on_bus : List ℕ → Bool → Bool
on_bus capture second = not second || eqb (get_or capture 0 0) 2
