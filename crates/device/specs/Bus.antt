-- The bus, conversions and power-on, by rulings P5, P6 and P9 to P11, by request a, which stands in the place of P12's sentence on register 10, and
-- by request b: what a device does at a write, a read, a send, an alert response, a conversion and power-on. Settings are named by the numbers at
-- which their registers are read.
-- Assumes nothing.
use Rattle.std.specs.Prelude.{ℕ, ◌+◌, ◌*◌, Bool, true, false, not, ◌||◌, ◌&&◌, cond, List, [], ◌∷◌, ℤ, pos, eqb}
use Rattle.std.specs.Int.Bits.{bit_and, bit_or}
use Rattle.temperature.specs.declared.Reading.{Reading}
use Rattle.temperature.specs.Temperature.{eighths_of, high_byte_of, low_byte_of}
use Rattle.registers.specs.Bits.{has, alerting, alert_mask, standby}
use Rattle.registers.specs.Page.{readable_of, writable_of, known_of, one_shot, settable_of, setting_of, changed_of, read_at_of, kept_of}
use Rattle.registers.specs.Page.{power_on_of, read_only_of, address_of}
use Rattle.conversion.specs.declared.Sensed.{Sensed}
use Rattle.conversion.specs.Conversion.{sensed_of}
use Rattle.device.specs.declared.Device.{Device}
use Rattle.device.specs.declared.Outcome.{Outcome}
use Rattle.device.specs.Pins.{configuration_of, comparator_of, alert_of}

-- ---- what an outcome is

-- this device after the event; not acknowledged, no conversion taken, no reading held, no byte read
abbrev pub silent_of : Device → Outcome
silent_of d = record { device = d; acknowledged = false; taken = false; held = false; byte = 0 }

-- acknowledged, with the byte read or 0
abbrev pub answered_of : Device → ℕ → Outcome
answered_of d byte = record { device = d; acknowledged = true; taken = false; held = false; byte = byte }

-- ---- how a device changes

-- the same device with this pointer, pending one-shot and settings; P8: no bus event moves what conversions have sensed; request a: no
-- write, send or alert response keeps a low byte or lets one go
abbrev pub set_up_of : Device → ℕ → Bool → List ℕ → Device
set_up_of d pointer pending settings =
    record {
      variant = d.variant;
      pointer = pointer;
      pending = pending;
      status = d.status;
      low = d.low;
      lowkept = d.lowkept;
      sensed = d.sensed;
      settings = settings;
    }

abbrev pub standby_of : List ℕ → Bool
standby_of settings = has (setting_of settings 0x03) standby

-- P10: the pointer set
abbrev pub pointed_of : Device → ℕ → Device
pointed_of d r = set_up_of d r d.pending d.settings

-- P6, P9: the mask bit becomes 1
unfoldable pub masked_of : Device → Device
masked_of d = set_up_of d d.pointer d.pending (changed_of d.settings 0x03 (bit_or (configuration_of d) alert_mask))

-- ---- write byte

-- the register that is written at w keeps the value's kept bits
abbrev pub stored_in : Device → ℕ → ℕ → List ℕ
stored_in d w v = changed_of d.settings (read_at_of w) (bit_and v (kept_of w))

-- P10: w becomes the pointer; P11: leaving standby clears a pending one-shot
unfoldable pub stored_of : Device → ℕ → ℕ → Device
stored_of d w v = set_up_of d w (d.pending && standby_of (stored_in d w v)) (stored_in d w v)

-- P11: a write to 0F, of any value, in standby makes a conversion pending, and out of standby does nothing but set the pointer
unfoldable pub fired_of : Device → Device
fired_of d = set_up_of d one_shot (d.pending || standby_of d.settings) d.settings

-- 0F is the one-shot; every other writable register is settable
abbrev pub written_of : Device → ℕ → ℕ → Device
written_of d w v = cond (eqb w one_shot) (fired_of d) (stored_of d w v)

-- P10: a register outside W is not acknowledged
unfoldable pub put_of : Device → ℕ → ℕ → Outcome
put_of d w v = cond (writable_of w) (answered_of (written_of d w v) 0) (silent_of d)

-- ---- read byte

-- the same device with this status and with this low byte kept, or none
abbrev pub read_out_of : Device → ℕ → ℕ → Bool → Device
read_out_of d status low lowkept =
    record {
      variant = d.variant;
      pointer = d.pointer;
      pending = d.pending;
      status = status;
      low = low;
      lowkept = lowkept;
      sensed = d.sensed;
      settings = d.settings;
    }

-- status cleared
abbrev pub status_cleared_of : Device → Device
status_cleared_of d = read_out_of d 0 d.low d.lowkept

-- P6: a read of 02 clears status, whatever is still live; if BF D0 is 0 and a bit of 7Bh was set, the mask bit becomes 1
unfoldable pub status_read_of : Device → Device
status_read_of d = cond (not (comparator_of d) && has d.status alerting) (masked_of (status_cleared_of d)) (status_cleared_of d)

-- the low byte of the latest remote reading
abbrev pub latest_low_of : Device → ℕ
latest_low_of d = low_byte_of d.sensed.remote

-- request a: a read of 01 keeps that moment's low byte, whatever was kept before it
abbrev pub low_kept_of : Device → Device
low_kept_of d = read_out_of d d.status (latest_low_of d) true

-- request a: a read of 10 lets go
abbrev pub low_let_go_of : Device → Device
low_let_go_of d = read_out_of d d.status 0 false

-- request a: register 10 reads the kept low byte; with nothing kept, the latest
unfoldable pub low_read_of : Device → ℕ
low_read_of d = cond d.lowkept d.low (latest_low_of d)

-- the registers that no write sets: 00 local, 01 the high byte of the latest remote reading, 02 status, 10 its low byte or the kept one, FE
-- and FF
unfoldable pub read_only_value_of : Device → ℕ → ℕ
read_only_value_of d r =
    cond (eqb r 0x00) d.sensed.local
    (cond (eqb r 0x01) (high_byte_of d.sensed.remote)
    (cond (eqb r 0x02) d.status
    (cond (eqb r 0x10) (low_read_of d)
    (read_only_of d.variant r))))

-- the byte of a register: its setting if it is settable
unfoldable pub value_of : Device → ℕ → ℕ
value_of d r = cond (settable_of r) (setting_of d.settings r) (read_only_value_of d r)

-- what an acknowledged read of a register leaves: request a for 01 and 10, P6 for 02; of every other the device as it was
unfoldable pub after_read_of : Device → ℕ → Device
after_read_of d r =
    cond (eqb r 0x01) (low_kept_of d)
    (cond (eqb r 0x02) (status_read_of d)
    (cond (eqb r 0x10) (low_let_go_of d)
    d))

-- P10: a register outside R is not acknowledged
unfoldable pub get_of : Device → ℕ → Outcome
get_of d r = cond (readable_of r) (answered_of (after_read_of (pointed_of d r) r) (value_of d r)) (silent_of d)

-- ---- send byte

-- P10: any register in R or W
unfoldable pub point_of : Device → ℕ → Outcome
point_of d r = cond (known_of r) (answered_of (pointed_of d r) 0) (silent_of d)

-- ---- alert response

abbrev pub alert_response : ℕ
alert_response = 0x0C

-- P9: ALERT pulled and BF D0 = 0 let the device answer
unfoldable pub responds_of : Device → Bool
responds_of d = alert_of d && not (comparator_of d)

-- P9: the address times 2 plus 1, and the mask bit becomes 1
unfoldable pub respond_of : Device → Outcome
respond_of d = cond (responds_of d) (answered_of (masked_of d) (address_of d.variant * 2 + 1)) (silent_of d)

-- ---- conversion

-- P11: in standby only if a one-shot is pending
unfoldable pub takes_of : Device → Bool
takes_of d = not (standby_of d.settings) || d.pending

-- P5: status gathers the live bits; P11: taking it clears a pending one-shot; request a: a kept low byte stays that of its own reading
abbrev pub gathered_of : Device → Sensed → Device
gathered_of d n =
    record {
      variant = d.variant;
      pointer = d.pointer;
      pending = false;
      status = bit_or d.status n.live;
      low = d.low;
      lowkept = d.lowkept;
      sensed = n;
      settings = d.settings;
    }

unfoldable pub converted_of : Device → ℕ → ℤ → Bool → Device
converted_of d local remote diode_open = gathered_of d (sensed_of d.settings d.sensed local remote diode_open)

-- a taken conversion; request b: its outcome tells whether the reading was held, the device keeps the reading alone
abbrev pub taking_of : Device → ℕ → Reading → Bool → Outcome
taking_of d local remote diode_open =
    record { device = converted_of d local remote.eighths diode_open; acknowledged = false; taken = true; held = remote.held; byte = 0 }

-- P11: a conversion not taken changes nothing
unfoldable pub sense_of : Device → ℕ → Reading → Bool → Outcome
sense_of d local remote diode_open = cond (takes_of d) (taking_of d local remote diode_open) (silent_of d)

-- ---- power-on

-- all zeros: no variant is powered on
abbrev pub zero_device : Device
zero_device =
    record {
      variant = 0;
      pointer = 0;
      pending = false;
      status = 0;
      low = 0;
      lowkept = false;
      sensed = record { local = 0; remote = pos 0; live = 0; faults = 0; llatch = false; rlatch = false };
      settings = 0 ∷ 0 ∷ 0 ∷ 0 ∷ 0 ∷ 0 ∷ 0 ∷ 0 ∷ 0 ∷ 0 ∷ 0 ∷ 0 ∷ 0 ∷ 0 ∷ [];
    }

-- the page's bytes, the pointer at 00 (P10), no low byte kept (request a), nothing pending, live, counted or latched
unfoldable pub powered_of : ℕ → Device
powered_of variant =
    record {
      variant = variant;
      pointer = 0x00;
      pending = false;
      status = read_only_of variant 0x02;
      low = 0;
      lowkept = false;
      sensed = record {
        local = read_only_of variant 0x00;
        remote = eighths_of (read_only_of variant 0x01) (read_only_of variant 0x10);
        live = 0;
        faults = 0;
        llatch = false;
        rlatch = false;
      };
      settings = power_on_of variant;
    }

-- ---- at its own address

-- P10: what a bus event does at the device's own address; at another nothing is acknowledged or changed
abbrev pub at_of : Device → ℕ → Outcome → Outcome
at_of d address own = cond (eqb address (address_of d.variant)) own (silent_of d)
