-- The program's detour: it works out first what an event asks of the device at hand, and then does that, so that each large function is
-- called from one place. Nothing of document 01 stands here; `proofs/Asking.antt: asked_done` says that the detour is `effect_of`.
-- Assumes nothing.
use Rattle.std.specs.Prelude.{ℕ, Bool, true, false, cond, eqb}
use Rattle.temperature.specs.declared.Reading.{Reading}
use Rattle.temperature.specs.Temperature.{open_reading}
use Rattle.registers.specs.Page.{address_of}
use Rattle.conversion.specs.Conversion.{reading_of}
use Rattle.device.specs.declared.Device.{Device}
use Rattle.device.specs.declared.Outcome.{Outcome}
use Rattle.device.specs.declared.Event.{Event}
use Rattle.device.specs.declared.Event.TheVariants.{Write, Read, Send, Receive, Convert, Open, PowerOn, ConvertSecond, OpenSecond}
use Rattle.device.specs.declared.Asked.{Asked}
use Rattle.device.specs.declared.Asked.TheVariants.{Put, Get, Point, Respond, Sense, Restart, Nothing}
use Rattle.device.specs.Bus.{silent_of, put_of, get_of, point_of, alert_response, respond_of, sense_of, powered_of}

-- what is asked at the device's own address; at another, nothing
abbrev pub asked_at : Device → ℕ → Asked → Asked
asked_at d address asked = cond (eqb address (address_of d.variant)) asked Nothing

-- a reading, in its two parts
abbrev pub asked_reading : ℕ → Reading → Bool → Asked
asked_reading local remote diode_open = Sense local remote.eighths remote.held diode_open

unfoldable pub asked_of : Device → Event → Asked
asked_of d (Write address w v) = asked_at d address (Put w v)
asked_of d (Read address r) = asked_at d address (Get r)
asked_of d (Send address r) = asked_at d address (Point r)
asked_of d (Receive address) = cond (eqb address alert_response) Respond (asked_at d address (Get d.pointer))
asked_of d (Convert local high low) = asked_reading local (reading_of d.settings high low) false
asked_of d (Open local) = asked_reading local open_reading true
asked_of d PowerOn = Restart
asked_of d (ConvertSecond local high low) = asked_reading local (reading_of d.settings high low) false
asked_of d (OpenSecond local) = asked_reading local open_reading true

unfoldable pub done_of : Device → Asked → Outcome
done_of d (Put w v) = put_of d w v
done_of d (Get r) = get_of d r
done_of d (Point r) = point_of d r
done_of d Respond = respond_of d
done_of d (Sense local eighths held diode_open) = sense_of d local (record { eighths = eighths; held = held }) diode_open
done_of d Restart = silent_of (powered_of d.variant)
done_of d Nothing = silent_of d
