-- Request c, worked by hand, each bus from power-on: rows of events beside their two answer bytes, what the events leave in either device, and both
-- sides of every range of a bus. At power-on the local limits are 0, 70 and T_CRIT 85 (105 of variant 3), the remote ones 0, 70 and T_CRIT 110: a local
-- reading of 75, 4Bh, pulls ALERT, one of 86, 56h, T_CRIT_A of variants 1 and 2 too.
-- Assumes nothing.
use Rattle.std.specs.Prelude.{ℕ, ◌≡◌, refl, Bool, true, false, ◌||◌, List, [], ◌∷◌, map, ℤ, pos, negsuc}
use Rattle.device.specs.declared.Device.{Device}
use Rattle.device.specs.declared.Event.{Event}
use Rattle.device.specs.declared.Event.TheVariants.{Write, Read, Send, Receive, Convert, Open, PowerOn, ConvertSecond, OpenSecond}
use Rattle.device.specs.Pins.{configuration_of}
use Rattle.device.specs.Bus.{set_up_of, read_out_of, powered_of, zero_device}
use Rattle.pair.specs.declared.Bus.{Bus}
use Rattle.pair.specs.Ranges.{bus_ranges_of}
use Rattle.pair.specs.Opened.{pair_opened}
use Rattle.pair_laws.specs.Seen.{bus_after, Answer, bus_answers}

-- ---- the answers

pub record Exchange : Type 0 where
  pub event : Event
  pub answer : Answer

abbrev pub does : Event → ℕ → ℕ → Exchange
does event first second = record { event = event; answer = record { first = first; second = second } }

pub record Row : Type 0 where
  pub bus : Bus
  pub exchanges : List Exchange

-- two devices of these variants, and one of this
abbrev pub two_on : ℕ → ℕ → Bus
two_on first second = record { devices = 2; first = powered_of first; second = powered_of second }

abbrev pub one_on : ℕ → Bus
one_on first = record { devices = 1; first = powered_of first; second = zero_device }

abbrev pub row : Bus → List Exchange → Row
row bus exchanges = record { bus = bus; exchanges = exchanges }

abbrev pub rows : List Row
rows =
    -- both alerting: 4C answers first, 99, and 4D keeps pulling; then 4D, 9B; the third alert response is not acknowledged, and status stays
    row (two_on 1 2)
    (does (Convert 0x4B 0x00 0x00) 0x09 0x00 ∷ does (ConvertSecond 0x4B 0x00 0x00) 0x09 0x00 ∷ does (Receive 0x0C) 0x05 0x99 ∷
    does (Receive 0x0C) 0x04 0x9B ∷ does (Receive 0x0C) 0x00 0x00 ∷ does (Read 0x4C 0x02) 0x04 0x40 ∷ does (Read 0x4D 0x02) 0x04 0x40 ∷ []) ∷
    -- the same where 4D comes first in the header: after the first answer the mask bit is 4C's
    row (two_on 2 1)
    (does (Convert 0x4B 0x00 0x00) 0x09 0x00 ∷ does (ConvertSecond 0x4B 0x00 0x00) 0x09 0x00 ∷ does (Receive 0x0C) 0x05 0x99 ∷
    does (Read 0x4C 0x03) 0x05 0x80 ∷ does (Read 0x4D 0x03) 0x05 0x00 ∷ does (Receive 0x0C) 0x04 0x9B ∷ does (Read 0x4D 0x03) 0x04 0x80 ∷
    does (Receive 0x0C) 0x00 0x00 ∷ []) ∷
    -- and with variant 3 at 4D, either way
    row (two_on 1 3)
    (does (ConvertSecond 0x4B 0x00 0x00) 0x09 0x00 ∷ does (Convert 0x4B 0x00 0x00) 0x09 0x00 ∷ does (Receive 0x0C) 0x05 0x99 ∷
    does (Receive 0x0C) 0x04 0x9B ∷ does (Receive 0x0C) 0x00 0x00 ∷ []) ∷
    row (two_on 3 1)
    (does (Convert 0x4B 0x00 0x00) 0x09 0x00 ∷ does (ConvertSecond 0x4B 0x00 0x00) 0x09 0x00 ∷ does (Receive 0x0C) 0x05 0x99 ∷
    does (Receive 0x0C) 0x04 0x9B ∷ does (Receive 0x0C) 0x00 0x00 ∷ []) ∷
    -- only the higher one alerting, as the second and as the first
    row (two_on 1 2)
    (does (ConvertSecond 0x4B 0x00 0x00) 0x09 0x00 ∷ does (Receive 0x0C) 0x04 0x9B ∷ does (Receive 0x0C) 0x00 0x00 ∷ does (Read 0x4C 0x03) 0x04 0x00 ∷
    does (Read 0x4D 0x03) 0x04 0x80 ∷ []) ∷
    row (two_on 2 1)
    (does (Convert 0x4B 0x00 0x00) 0x09 0x00 ∷ does (Receive 0x0C) 0x04 0x9B ∷ does (Receive 0x0C) 0x00 0x00 ∷ does (Read 0x4C 0x03) 0x04 0x00 ∷
    does (Read 0x4D 0x03) 0x04 0x80 ∷ []) ∷
    -- only the lower one
    row (two_on 2 1)
    (does (ConvertSecond 0x4B 0x00 0x00) 0x09 0x00 ∷ does (Receive 0x0C) 0x04 0x99 ∷ does (Receive 0x0C) 0x00 0x00 ∷ []) ∷
    -- neither
    row (two_on 1 2)
    (does (Convert 0x00 0x00 0x00) 0x08 0x00 ∷ does (ConvertSecond 0x00 0x00 0x00) 0x08 0x00 ∷ does (Receive 0x0C) 0x00 0x00 ∷ []) ∷
    -- the lower one pulls as a comparator, BF D0 set: P9 does not let it answer, so 4D does, and ALERT stays
    row (two_on 1 2)
    (does (Write 0x4C 0xBF 0x01) 0x04 0x00 ∷ does (Convert 0x4B 0x00 0x00) 0x09 0x00 ∷ does (ConvertSecond 0x4B 0x00 0x00) 0x09 0x00 ∷
    does (Receive 0x0C) 0x05 0x9B ∷ does (Receive 0x0C) 0x01 0x00 ∷ []) ∷
    -- the lower one is masked
    row (two_on 1 2)
    (does (Write 0x4C 0x09 0x80) 0x04 0x00 ∷ does (Convert 0x4B 0x00 0x00) 0x08 0x00 ∷ does (ConvertSecond 0x4B 0x00 0x00) 0x09 0x00 ∷
    does (Receive 0x0C) 0x04 0x9B ∷ does (Receive 0x0C) 0x00 0x00 ∷ []) ∷
    -- 05 moves the first and 08 the second
    row (two_on 1 2)
    (does (Convert 0x10 0x14 0x20) 0x08 0x00 ∷ does (Read 0x4D 0x00) 0x04 0x00 ∷ does (Read 0x4D 0x01) 0x04 0x00 ∷ does (Read 0x4C 0x00) 0x04 0x10 ∷
    does (Read 0x4C 0x01) 0x04 0x14 ∷ does (Read 0x4C 0x10) 0x04 0x20 ∷ does (ConvertSecond 0x11 0x15 0x40) 0x08 0x00 ∷
    does (Read 0x4D 0x00) 0x04 0x11 ∷ does (Read 0x4D 0x01) 0x04 0x15 ∷ does (Read 0x4D 0x10) 0x04 0x40 ∷ does (Read 0x4C 0x00) 0x04 0x10 ∷
    does (Read 0x4C 0x01) 0x04 0x14 ∷ []) ∷
    -- 06 and 09, with the lines joined: a read of status lets ALERT of its own device go, and no other's
    row (two_on 1 2)
    (does (Open 0x00) 0x0B 0x00 ∷ does (Read 0x4D 0x02) 0x07 0x00 ∷ does (Read 0x4C 0x02) 0x06 0x16 ∷ does (OpenSecond 0x00) 0x0B 0x00 ∷
    does (Read 0x4C 0x02) 0x07 0x00 ∷ does (Read 0x4D 0x02) 0x06 0x16 ∷ []) ∷
    -- ALERT of the one, T_CRIT_A of the other; the latch clears at 74 by a conversion of its own device and by no other's
    row (two_on 1 2)
    (does (Convert 0x4B 0x00 0x00) 0x09 0x00 ∷ does (ConvertSecond 0x56 0x00 0x00) 0x0B 0x00 ∷ does (Read 0x4D 0x02) 0x07 0x41 ∷
    does (Read 0x4C 0x02) 0x06 0x40 ∷ does (Convert 0x4A 0x00 0x00) 0x0A 0x00 ∷ does (ConvertSecond 0x4A 0x00 0x00) 0x08 0x00 ∷ []) ∷
    -- 86 is above T_CRIT 85 of variants 1 and 2, and not above 105 of variant 3
    row (two_on 3 1)
    (does (Convert 0x56 0x00 0x00) 0x09 0x00 ∷ does (ConvertSecond 0x56 0x00 0x00) 0x0B 0x00 ∷ []) ∷
    -- 07 restarts both, each of its variant
    row (two_on 1 3)
    (does (Write 0x4C 0x0B 0x50) 0x04 0x00 ∷ does (Write 0x4D 0x0B 0x51) 0x04 0x00 ∷ does (Convert 0x4B 0x00 0x00) 0x08 0x00 ∷
    does (ConvertSecond 0x6A 0x00 0x00) 0x0B 0x00 ∷ does PowerOn 0x00 0x00 ∷ does (Read 0x4C 0x05) 0x04 0x46 ∷ does (Read 0x4D 0x05) 0x04 0x46 ∷
    does (Read 0x4C 0x00) 0x04 0x00 ∷ does (Read 0x4D 0x00) 0x04 0x00 ∷ does (Read 0x4D 0x02) 0x04 0x00 ∷ does (Read 0x4C 0x20) 0x04 0x55 ∷
    does (Read 0x4D 0x20) 0x04 0x69 ∷ does (Read 0x4C 0xFF) 0x04 0x31 ∷ does (Read 0x4D 0xFF) 0x04 0x35 ∷ []) ∷
    -- a write to the one leaves the other's registers, and each has a pointer of its own
    row (two_on 1 2)
    (does (Write 0x4D 0x19 0x55) 0x04 0x00 ∷ does (Read 0x4C 0x19) 0x04 0x6E ∷ does (Read 0x4D 0x19) 0x04 0x55 ∷ does (Write 0x4C 0x21 0x05) 0x04 0x00 ∷
    does (Read 0x4D 0x21) 0x04 0x0A ∷ does (Read 0x4C 0x21) 0x04 0x05 ∷ does (Send 0x4D 0x19) 0x04 0x00 ∷ does (Receive 0x4C) 0x04 0x05 ∷
    does (Receive 0x4D) 0x04 0x55 ∷ []) ∷
    -- at a third address nobody is; nor at 0C, but for a receive
    row (two_on 1 2)
    (does (Write 0x4E 0x09 0x80) 0x00 0x00 ∷ does (Read 0x4B 0x00) 0x00 0x00 ∷ does (Send 0x00 0x00) 0x00 0x00 ∷ does (Receive 0x4E) 0x00 0x00 ∷
    does (Write 0x0C 0x09 0x80) 0x00 0x00 ∷ does (Read 0x0C 0x03) 0x00 0x00 ∷ does (Send 0x0C 0x03) 0x00 0x00 ∷ []) ∷
    -- standby and the one-shot are of one device: the other converts as before
    row (two_on 1 2)
    (does (Write 0x4D 0x09 0x40) 0x04 0x00 ∷ does (Convert 0x00 0x14 0x20) 0x08 0x00 ∷ does (ConvertSecond 0x00 0x14 0x20) 0x00 0x00 ∷
    does (OpenSecond 0x00) 0x00 0x00 ∷ does (Write 0x4C 0x0F 0x00) 0x04 0x00 ∷ does (ConvertSecond 0x00 0x14 0x20) 0x00 0x00 ∷
    does (Write 0x4D 0x0F 0x00) 0x04 0x00 ∷ does (Convert 0x00 0x14 0x20) 0x08 0x00 ∷ does (ConvertSecond 0x00 0x14 0x20) 0x08 0x00 ∷
    does (ConvertSecond 0x00 0x14 0x20) 0x00 0x00 ∷ []) ∷
    -- request b: 08 shows a held sum as 05 does, by the offset of its own device
    row (two_on 1 2)
    (does (Write 0x4D 0x11 0x01) 0x04 0x00 ∷ does (ConvertSecond 0x00 0x7F 0x80) 0x1B 0x00 ∷ does (Convert 0x00 0x7F 0x80) 0x0B 0x00 ∷ []) ∷
    -- request a: each keeps a low byte of its own
    row (two_on 1 2)
    (does (Convert 0x00 0x14 0x20) 0x08 0x00 ∷ does (ConvertSecond 0x00 0x15 0x40) 0x08 0x00 ∷ does (Read 0x4C 0x01) 0x04 0x14 ∷
    does (Convert 0x00 0x16 0x60) 0x08 0x00 ∷ does (ConvertSecond 0x00 0x17 0x80) 0x08 0x00 ∷ does (Read 0x4D 0x10) 0x04 0x80 ∷
    does (Read 0x4C 0x10) 0x04 0x20 ∷ does (Read 0x4C 0x10) 0x04 0x60 ∷ []) ∷
    -- 09 has a local reading of its own, and neither 08 nor 09 lets a kept low byte go: 40 of 21.250, and then the latest, 00 of 127
    row (two_on 1 2)
    (does (ConvertSecond 0x12 0x15 0x40) 0x08 0x00 ∷ does (Read 0x4D 0x01) 0x04 0x15 ∷ does (ConvertSecond 0x12 0x17 0x80) 0x08 0x00 ∷
    does (OpenSecond 0x19) 0x0B 0x00 ∷ does (Read 0x4D 0x00) 0x07 0x19 ∷ does (Read 0x4C 0x00) 0x07 0x00 ∷ does (Read 0x4D 0x10) 0x07 0x40 ∷
    does (Read 0x4D 0x10) 0x07 0x00 ∷ []) ∷
    -- the fault queue of each: 71 is above 70, and each device's third in its own row is told, whatever the other reads between
    row (two_on 1 2)
    (does (Write 0x4C 0x09 0x01) 0x04 0x00 ∷ does (Write 0x4D 0x09 0x01) 0x04 0x00 ∷ does (Convert 0x00 0x47 0x00) 0x08 0x00 ∷
    does (ConvertSecond 0x00 0x00 0x00) 0x08 0x00 ∷ does (Convert 0x00 0x47 0x00) 0x08 0x00 ∷ does (ConvertSecond 0x00 0x47 0x00) 0x08 0x00 ∷
    does (Convert 0x00 0x47 0x00) 0x09 0x00 ∷ does (ConvertSecond 0x00 0x47 0x00) 0x09 0x00 ∷ does (Read 0x4D 0x02) 0x05 0x00 ∷
    does (Convert 0x00 0x00 0x00) 0x09 0x00 ∷ does (ConvertSecond 0x00 0x47 0x00) 0x09 0x00 ∷ does (Read 0x4C 0x02) 0x05 0x10 ∷
    does (Read 0x4D 0x02) 0x04 0x10 ∷ []) ∷
    -- the T_CRIT masks of each hide its own latch alone
    row (two_on 1 2)
    (does (Write 0x4C 0x09 0x14) 0x04 0x00 ∷ does (ConvertSecond 0x56 0x00 0x00) 0x0B 0x00 ∷ does (Convert 0x56 0x00 0x00) 0x0B 0x00 ∷
    does (Write 0x4D 0x09 0x04) 0x05 0x00 ∷ does (Write 0x4C 0x09 0x00) 0x07 0x00 ∷ []) ∷
    -- the higher one pulls as a comparator: it keeps nobody from answering, and ALERT goes as its live bits go
    row (two_on 1 2)
    (does (Write 0x4D 0xBF 0x01) 0x04 0x00 ∷ does (ConvertSecond 0x4B 0x00 0x00) 0x09 0x00 ∷ does (Receive 0x0C) 0x01 0x00 ∷
    does (Convert 0x4B 0x00 0x00) 0x09 0x00 ∷ does (Receive 0x0C) 0x05 0x99 ∷ does (Receive 0x0C) 0x01 0x00 ∷
    does (ConvertSecond 0x00 0x00 0x00) 0x08 0x00 ∷ []) ∷
    -- 07 lets go of both kept low bytes, and of both rows of faults and one-shots
    row (two_on 1 2)
    (does (Convert 0x00 0x14 0x20) 0x08 0x00 ∷ does (ConvertSecond 0x00 0x15 0x40) 0x08 0x00 ∷ does (Read 0x4C 0x01) 0x04 0x14 ∷
    does (Read 0x4D 0x01) 0x04 0x15 ∷ does PowerOn 0x00 0x00 ∷ does (Convert 0x00 0x16 0x60) 0x08 0x00 ∷
    does (ConvertSecond 0x00 0x17 0x80) 0x08 0x00 ∷ does (Read 0x4C 0x10) 0x04 0x60 ∷ does (Read 0x4D 0x10) 0x04 0x80 ∷ []) ∷
    row (two_on 2 1)
    (does (Write 0x4C 0x09 0x01) 0x04 0x00 ∷ does (Write 0x4D 0x09 0x01) 0x04 0x00 ∷ does (Convert 0x00 0x47 0x00) 0x08 0x00 ∷
    does (Convert 0x00 0x47 0x00) 0x08 0x00 ∷ does (ConvertSecond 0x00 0x47 0x00) 0x08 0x00 ∷ does (ConvertSecond 0x00 0x47 0x00) 0x08 0x00 ∷
    does PowerOn 0x00 0x00 ∷ does (Write 0x4C 0x09 0x01) 0x04 0x00 ∷ does (Write 0x4D 0x09 0x01) 0x04 0x00 ∷
    does (Convert 0x00 0x47 0x00) 0x08 0x00 ∷ does (ConvertSecond 0x00 0x47 0x00) 0x08 0x00 ∷ []) ∷
    row (two_on 1 3)
    (does (Write 0x4C 0x09 0x40) 0x04 0x00 ∷ does (Write 0x4D 0x09 0x40) 0x04 0x00 ∷ does (Write 0x4C 0x0F 0x00) 0x04 0x00 ∷
    does (Write 0x4D 0x0F 0x00) 0x04 0x00 ∷ does PowerOn 0x00 0x00 ∷ does (Write 0x4C 0x09 0x40) 0x04 0x00 ∷ does (Write 0x4D 0x09 0x40) 0x04 0x00 ∷
    does (Convert 0x00 0x00 0x00) 0x00 0x00 ∷ does (ConvertSecond 0x00 0x00 0x00) 0x00 0x00 ∷ []) ∷
    -- one device: nothing at 4D is acknowledged, the address that a variant of 0 would have by the definition; 08 and 09 do nothing
    row (one_on 1)
    (does (Read 0x4D 0x00) 0x00 0x00 ∷ does (Write 0x4D 0x09 0x80) 0x00 0x00 ∷ does (Send 0x4D 0x00) 0x00 0x00 ∷ does (Receive 0x4D) 0x00 0x00 ∷
    does (ConvertSecond 0x56 0x00 0x00) 0x00 0x00 ∷ does (OpenSecond 0x00) 0x00 0x00 ∷ does (Convert 0x4B 0x00 0x00) 0x09 0x00 ∷
    does (Receive 0x0C) 0x04 0x99 ∷ does (Receive 0x0C) 0x00 0x00 ∷ does PowerOn 0x00 0x00 ∷ does (Read 0x4D 0x00) 0x00 0x00 ∷
    does (Read 0x4C 0x03) 0x04 0x00 ∷ []) ∷
    -- the same at 4D alone
    row (one_on 2)
    (does (Read 0x4C 0x00) 0x00 0x00 ∷ does (Convert 0x4B 0x00 0x00) 0x09 0x00 ∷ does (Receive 0x0C) 0x04 0x9B ∷ does (Receive 0x0C) 0x00 0x00 ∷ []) ∷
    []

-- each record answers as its row says, both bytes
pub worked : map (λ (r : Row). bus_answers r.bus (map (λ (x : Exchange). x.event) r.exchanges)) rows
    ≡ map (λ (r : Row). map (λ (x : Exchange). x.answer) r.exchanges) rows
unfolding pair_opened
worked = refl

-- ---- what the events leave

-- of a device: readings (the remote one in eighths), live byte, status, configuration, pointer, and whether a latch is set
pub record Parts : Type 0 where
  pub local : ℕ
  pub remote : ℤ
  pub live : ℕ
  pub status : ℕ
  pub configuration : ℕ
  pub pointer : ℕ
  pub latched : Bool

abbrev pub parts_of : Device → Parts
parts_of d =
    record {
      local = d.sensed.local;
      remote = d.sensed.remote;
      live = d.sensed.live;
      status = d.status;
      configuration = configuration_of d;
      pointer = d.pointer;
      latched = d.sensed.llatch || d.sensed.rlatch;
    }

abbrev pub parts : ℕ → ℤ → ℕ → ℕ → ℕ → ℕ → Bool → Parts
parts local remote live status configuration pointer latched =
    record {
      local = local;
      remote = remote;
      live = live;
      status = status;
      configuration = configuration;
      pointer = pointer;
      latched = latched;
    }

-- as after power-on; an absent device too
abbrev pub fresh : Parts
fresh = parts 0x00 (pos 0) 0x00 0x00 0x00 0x00 false

pub record Left : Type 0 where
  pub first : Parts
  pub second : Parts

abbrev pub left_of : Bus → Left
left_of p = record { first = parts_of p.first; second = parts_of p.second }

pub record After : Type 0 where
  pub bus : Bus
  pub events : List Event
  pub left : Left

abbrev pub after : Bus → List Event → Parts → Parts → After
after bus events first second = record { bus = bus; events = events; left = record { first = first; second = second } }

-- both at 75
abbrev pub both_alerting : List Event → List Event
both_alerting es = Convert 0x4B 0x00 0x00 ∷ ConvertSecond 0x4B 0x00 0x00 ∷ es

abbrev pub leaves : List After
leaves =
    -- 05 and 06 move the first, 08 and 09 the second
    after (two_on 1 2) (Convert 0x10 0x14 0x20 ∷ []) (parts 0x10 (pos 161) 0x00 0x00 0x00 0x00 false) fresh ∷
    after (two_on 1 2) (ConvertSecond 0x10 0x14 0x20 ∷ []) fresh (parts 0x10 (pos 161) 0x00 0x00 0x00 0x00 false) ∷
    after (two_on 2 1) (Open 0x00 ∷ []) (parts 0x00 (pos 1016) 0x16 0x16 0x00 0x00 true) fresh ∷
    after (two_on 2 1) (OpenSecond 0x00 ∷ []) fresh (parts 0x00 (pos 1016) 0x16 0x16 0x00 0x00 true) ∷
    -- a write, a read and a send move the one at their address
    after (two_on 1 2) (Write 0x4D 0x09 0x80 ∷ []) fresh (parts 0x00 (pos 0) 0x00 0x00 0x80 0x09 false) ∷
    after (two_on 2 1) (Write 0x4D 0x09 0x80 ∷ []) (parts 0x00 (pos 0) 0x00 0x00 0x80 0x09 false) fresh ∷
    after (two_on 1 2) (Send 0x4C 0x21 ∷ []) (parts 0x00 (pos 0) 0x00 0x00 0x00 0x21 false) fresh ∷
    after (two_on 1 2) (both_alerting (Read 0x4D 0x02 ∷ []))
    (parts 0x4B (pos 0) 0x40 0x40 0x00 0x00 false) (parts 0x4B (pos 0) 0x40 0x00 0x80 0x02 false) ∷
    -- an alert response sets the mask bit of 4C, wherever it stands in the header; the next one that of 4D; the third changes nothing
    after (two_on 1 2) (both_alerting (Receive 0x0C ∷ []))
    (parts 0x4B (pos 0) 0x40 0x40 0x80 0x00 false) (parts 0x4B (pos 0) 0x40 0x40 0x00 0x00 false) ∷
    after (two_on 2 1) (both_alerting (Receive 0x0C ∷ []))
    (parts 0x4B (pos 0) 0x40 0x40 0x00 0x00 false) (parts 0x4B (pos 0) 0x40 0x40 0x80 0x00 false) ∷
    after (two_on 2 1) (both_alerting (Receive 0x0C ∷ Receive 0x0C ∷ Receive 0x0C ∷ []))
    (parts 0x4B (pos 0) 0x40 0x40 0x80 0x00 false) (parts 0x4B (pos 0) 0x40 0x40 0x80 0x00 false) ∷
    -- 07 restarts both
    after (two_on 1 2) (both_alerting (Write 0x4D 0x09 0x80 ∷ PowerOn ∷ [])) fresh fresh ∷
    -- with one device nothing is left in the place of the second
    after (one_on 1) (ConvertSecond 0x4B 0x00 0x00 ∷ OpenSecond 0x00 ∷ Write 0x4D 0x09 0x80 ∷ []) fresh fresh ∷
    after (one_on 1) (Convert 0x10 0x14 0x20 ∷ []) (parts 0x10 (pos 161) 0x00 0x00 0x00 0x00 false) fresh ∷
    []

pub left_so : map (λ (a : After). left_of (bus_after a.bus a.events)) leaves ≡ map (λ (a : After). a.left) leaves
unfolding pair_opened
left_so = refl

-- ---- the ranges

-- with so many header bytes taken, a bus is in its ranges, or out of them
pub record Ended : Type 0 where
  pub head : ℕ
  pub bus : Bus
  pub within : Bool

abbrev pub ended : ℕ → ℕ → Device → Device → Bool → Ended
ended head devices first second within =
    record { head = head; bus = record { devices = devices; first = first; second = second }; within = within }

-- zeros but for what is sensed
abbrev pub sensing : ℕ → ℤ → ℕ → ℕ → Bool → Bool → Device
sensing local remote live faults llatch rlatch =
    record {
      variant = 0;
      pointer = 0;
      pending = false;
      status = 0;
      low = 0;
      lowkept = false;
      sensed = record { local = local; remote = remote; live = live; faults = faults; llatch = llatch; rlatch = rlatch };
      settings = 0 ∷ 0 ∷ 0 ∷ 0 ∷ 0 ∷ 0 ∷ 0 ∷ 0 ∷ 0 ∷ 0 ∷ 0 ∷ 0 ∷ 0 ∷ 0 ∷ [];
    }

-- zeros but for the fourteen settings
abbrev pub setting : List ℕ → Device
setting settings = set_up_of zero_device 0 false settings

-- two header bytes of a count of 2 are taken: an LM89C, and this in the second's place
abbrev pub untaken : Device → Bool → Ended
untaken second within = ended 2 2 (powered_of 1) second within

abbrev pub ends : List Ended
ends =
    -- a device count of 0 with no header byte taken
    ended 0 0 zero_device zero_device true ∷
    ended 0 1 zero_device zero_device false ∷
    ended 0 2 zero_device zero_device false ∷
    -- else 1 or 2
    ended 1 0 zero_device zero_device false ∷
    ended 1 1 zero_device zero_device true ∷
    ended 1 2 zero_device zero_device true ∷
    ended 1 3 zero_device zero_device false ∷
    ended 6 0 (powered_of 1) zero_device false ∷
    -- the first variant 1 to 3 once two are taken; before that nothing is asked of it but its device's ranges
    ended 1 1 (powered_of 1) zero_device true ∷
    ended 1 2 (powered_of 4) zero_device true ∷
    ended 2 1 zero_device zero_device false ∷
    ended 2 2 zero_device zero_device false ∷
    ended 2 1 (powered_of 1) zero_device true ∷
    ended 2 1 (powered_of 3) zero_device true ∷
    ended 2 1 (powered_of 4) zero_device false ∷
    ended 1 1 (set_up_of zero_device 0x15 false zero_device.settings) zero_device false ∷
    ended 6 1 (set_up_of (powered_of 1) 0x15 false (powered_of 1).settings) zero_device false ∷
    -- the second variant 1 to 3 once three are taken
    ended 3 2 (powered_of 1) zero_device false ∷
    ended 3 2 (powered_of 1) (powered_of 2) true ∷
    ended 3 2 (powered_of 1) (powered_of 3) true ∷
    ended 3 2 (powered_of 1) (powered_of 4) false ∷
    ended 3 2 (powered_of 2) (powered_of 1) true ∷
    ended 7 2 (powered_of 3) (powered_of 1) true ∷
    -- of another address
    ended 3 2 (powered_of 1) (powered_of 1) false ∷
    ended 7 2 (powered_of 2) (powered_of 3) false ∷
    ended 7 2 (powered_of 3) (powered_of 2) false ∷
    ended 3 2 (powered_of 2) (powered_of 2) false ∷
    -- which an absent device has not
    ended 6 1 (powered_of 2) zero_device true ∷
    ended 6 1 (powered_of 3) zero_device true ∷
    -- in its ranges
    ended 7 2 (powered_of 1) (set_up_of (powered_of 2) 0x15 false (powered_of 2).settings) false ∷
    ended 7 2 (powered_of 1) (set_up_of (powered_of 2) 0x0F false (powered_of 2).settings) true ∷
    ended 7 2 (powered_of 1) (read_out_of (powered_of 2) 0x80 0x00 false) false ∷
    ended 7 2 (powered_of 1) (read_out_of (powered_of 2) 0x7F 0x20 true) true ∷
    -- until that, and without it, all zeros
    ended 2 2 (powered_of 1) (powered_of 2) false ∷
    ended 1 2 zero_device (powered_of 2) false ∷
    ended 2 1 (powered_of 1) (powered_of 2) false ∷
    ended 3 1 (powered_of 1) (powered_of 2) false ∷
    ended 6 1 (powered_of 1) (powered_of 2) false ∷
    ended 6 1 (powered_of 1) (setting (0 ∷ 8 ∷ 0 ∷ 0 ∷ 0 ∷ 0 ∷ 0 ∷ 0 ∷ 0 ∷ 0 ∷ 0 ∷ 0 ∷ 0 ∷ 0 ∷ [])) false ∷
    -- each part of them alone
    untaken zero_device true ∷
    untaken (sensing 0 (pos 0) 0 0 false false) true ∷
    untaken (sensing 1 (pos 0) 0 0 false false) false ∷
    untaken (sensing 0 (pos 1) 0 0 false false) false ∷
    untaken (sensing 0 (negsuc 0) 0 0 false false) false ∷
    untaken (sensing 0 (pos 0) 1 0 false false) false ∷
    untaken (sensing 0 (pos 0) 0 1 false false) false ∷
    untaken (sensing 0 (pos 0) 0 0 true false) false ∷
    untaken (sensing 0 (pos 0) 0 0 false true) false ∷
    untaken (powered_of 4) false ∷
    untaken (set_up_of zero_device 1 false zero_device.settings) false ∷
    untaken (set_up_of zero_device 0 true zero_device.settings) false ∷
    untaken (read_out_of zero_device 1 0 false) false ∷
    untaken (read_out_of zero_device 0 32 false) false ∷
    untaken (read_out_of zero_device 0 0 true) false ∷
    untaken (setting (1 ∷ 0 ∷ 0 ∷ 0 ∷ 0 ∷ 0 ∷ 0 ∷ 0 ∷ 0 ∷ 0 ∷ 0 ∷ 0 ∷ 0 ∷ 0 ∷ [])) false ∷
    untaken (setting (0 ∷ 0 ∷ 0 ∷ 0 ∷ 0 ∷ 0 ∷ 70 ∷ 0 ∷ 0 ∷ 0 ∷ 0 ∷ 0 ∷ 0 ∷ 0 ∷ [])) false ∷
    untaken (setting (0 ∷ 0 ∷ 0 ∷ 0 ∷ 0 ∷ 0 ∷ 0 ∷ 0 ∷ 0 ∷ 0 ∷ 0 ∷ 0 ∷ 0 ∷ 1 ∷ [])) false ∷
    []

pub tested : map (λ (e : Ended). bus_ranges_of e.head e.bus) ends ≡ map (λ (e : Ended). e.within) ends
unfolding pair_opened
tested = refl
