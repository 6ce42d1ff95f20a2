-- `asked_done`: doing what an event asks is the event's effect.
-- Assumes nothing.
use Prim.Native.Nat.{ℕ}
use mathlib.Core.Path.{◌≡◌, refl, ap, ◌∙◌}
use mathlib.Core.Bool.{Bool, true, false, cond}
use lib.Dec.{eqb}
use Rattle.registers.specs.Page.{address_of}
use Rattle.device.specs.declared.Device.{Device}
use Rattle.device.specs.declared.Event.{Event}
use Rattle.device.specs.declared.Event.TheVariants.{Write, Read, Send, Receive, Convert, Open, PowerOn, ConvertSecond, OpenSecond}
use Rattle.device.specs.declared.Asked.{Asked}
use Rattle.device.specs.declared.Asked.TheVariants.{Put, Get, Point, Respond, Nothing}
use Rattle.device.specs.Bus.{alert_response, at_of}
use Rattle.device.specs.Step.{effect_of}
use Rattle.device.specs.Asking.{asked_at, asked_of, done_of}

-- done of a choice is the choice of what is done
done_cond : (d : Device) (t : Bool) (a b : Asked) → done_of d (cond t a b) ≡ cond t (done_of d a) (done_of d b)
done_cond d true a b = refl
done_cond d false a b = refl

done_at : (d : Device) (address : ℕ) (asked : Asked) → done_of d (asked_at d address asked) ≡ at_of d address (done_of d asked)
unfolding done_of
done_at d address asked = done_cond d (eqb address (address_of d.variant)) asked Nothing

pub asked_done : (d : Device) (e : Event) → done_of d (asked_of d e) ≡ effect_of d e
unfolding effect_of asked_of done_of
asked_done d (Write address w v) = done_at d address (Put w v)
asked_done d (Read address r) = done_at d address (Get r)
asked_done d (Send address r) = done_at d address (Point r)
asked_done d (Receive address) =
    done_cond d (eqb address alert_response) Respond (asked_at d address (Get d.pointer))
    ∙ ap (cond (eqb address alert_response) (done_of d Respond)) (done_at d address (Get d.pointer))
asked_done d (Convert local high low) = refl
asked_done d (Open local) = refl
asked_done d PowerOn = refl
asked_done d (ConvertSecond local high low) = refl
asked_done d (OpenSecond local) = refl
