-- The nine records of document 01's listing, on an LM89C: each gets code 0 and its line's two answer bytes.
-- Assumes nothing.
use Rattle.std.specs.Prelude.{◌≡◌, refl, List, [], ◌∷◌}
use Rattle.device.specs.declared.Event.{Event}
use Rattle.device.specs.declared.Event.TheVariants.{Write, Read, Convert}
use Rattle.device.specs.Bus.{powered_of}
use Rattle.device.specs.Opened.{device_opened}
use Rattle.device.specs.Run.{Reply, ok, replies_of}

abbrev pub records : List Event
records =
    Write 0x4C 0x19 0x55 ∷
    Write 0x4C 0x0D 0x7F ∷
    Convert 0x19 0x55 0x20 ∷
    Read 0x4C 0x02 ∷
    Write 0x4C 0x21 0x05 ∷
    Convert 0x19 0x50 0x00 ∷
    Convert 0x19 0x4F 0xE0 ∷
    Read 0x4C 0x03 ∷
    Write 0x4C 0x30 0x00 ∷
    []

abbrev pub printed : List Reply
printed =
    ok 0x04 0x00 ∷
    ok 0x04 0x00 ∷
    ok 0x0B 0x00 ∷
    ok 0x06 0x02 ∷
    ok 0x06 0x00 ∷
    ok 0x0A 0x00 ∷
    ok 0x08 0x00 ∷
    ok 0x04 0x80 ∷
    ok 0x00 0x00 ∷
    []

pub listing : replies_of (powered_of 1) records ≡ printed
unfolding device_opened
listing = refl
