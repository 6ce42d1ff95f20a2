-- Steps that refuse: 8, then by request c 3, then 4, answer bytes 0, the device as it was.
-- Assumes nothing.
use Rattle.std.specs.Prelude.{◌≡◌, refl, true, false, [], ◌∷◌}
use Rattle.registers.specs.Page.{power_on_of}
use Rattle.device.specs.declared.Event.TheVariants.{Write, Read, Send, Receive, Convert, PowerOn, ConvertSecond, OpenSecond}
use Rattle.device.specs.Bus.{set_up_of, read_out_of, powered_of}
use Rattle.device.specs.Opened.{device_opened}
use Rattle.device.specs.Step.{refused_of, step_of}
use Rattle.device.specs.declared.Device.{Device}

-- pending out of standby
abbrev stray : Device
stray = set_up_of (powered_of 1) 0x00 true (power_on_of 1)

-- request a: a kept byte that is no multiple of 32; one that is, with none kept
abbrev sixteenths : Device
sixteenths = read_out_of (powered_of 1) 0x00 0x10 true

abbrev unkept : Device
unkept = read_out_of (powered_of 1) 0x00 0x20 false

pub refusals :
    step_of (powered_of 0) PowerOn
    ∷ step_of (powered_of 4) (Read 0x80 0x00)
    ∷ step_of stray (Receive 0x80)
    ∷ step_of sixteenths (Read 0x4C 0x10)
    ∷ step_of unkept PowerOn
    ∷ step_of (powered_of 0) (ConvertSecond 0x19 0x55 0x20)
    ∷ step_of stray (ConvertSecond 0x00 0x00 0x01)
    ∷ step_of unkept (OpenSecond 0x19)
    ∷ step_of (powered_of 1) (ConvertSecond 0x19 0x55 0x20)
    ∷ step_of (powered_of 2) (OpenSecond 0x19)
    ∷ step_of (powered_of 3) (ConvertSecond 0x00 0x00 0x01)
    ∷ step_of (powered_of 1) (Write 0x80 0x09 0xFF)
    ∷ step_of (powered_of 1) (Read 0xFF 0x00)
    ∷ step_of (powered_of 2) (Send 0x80 0x00)
    ∷ step_of (powered_of 3) (Receive 0x80)
    ∷ step_of (powered_of 1) (Convert 0x00 0x00 0x01)
    ∷ []
    ≡ refused_of (powered_of 0) 8
    ∷ refused_of (powered_of 4) 8
    ∷ refused_of stray 8
    ∷ refused_of sixteenths 8
    ∷ refused_of unkept 8
    ∷ refused_of (powered_of 0) 8
    ∷ refused_of stray 8
    ∷ refused_of unkept 8
    ∷ refused_of (powered_of 1) 3
    ∷ refused_of (powered_of 2) 3
    ∷ refused_of (powered_of 3) 3
    ∷ refused_of (powered_of 1) 4
    ∷ refused_of (powered_of 1) 4
    ∷ refused_of (powered_of 2) 4
    ∷ refused_of (powered_of 3) 4
    ∷ refused_of (powered_of 1) 4
    ∷ []
unfolding device_opened
refusals = refl
