-- Both ends of every range of a device, and of every operand, as theorems about the tests.
-- Assumes nothing.
use Rattle.std.specs.Prelude.{ℕ, ◌≡◌, refl, Bool, true, false, List, [], ◌∷◌, map, ℤ, pos, negsuc}
use Rattle.registers.specs.Page.{readable_of, writable_of, known_of, read_position_of, setting_of, kept_of}
use Rattle.device.specs.declared.Device.{Device}
use Rattle.device.specs.declared.Event.TheVariants.{Write, Read, Send, Receive, Convert, Open, PowerOn, ConvertSecond, OpenSecond}
use Rattle.device.specs.Ranges.{variant_of, masks_of, ranged_of, operands_of, second_of}

pub variants : map variant_of (0 ∷ 1 ∷ 2 ∷ 3 ∷ 4 ∷ []) ≡ false ∷ true ∷ true ∷ true ∷ false ∷ []
unfolding variant_of
variants = refl

-- an LM89C with this pointer, pending one-shot, status, remote reading, live byte, fault count and settings, and no low byte kept
abbrev built : ℕ → Bool → ℕ → ℤ → ℕ → ℕ → List ℕ → Device
built pointer pending status remote live faults settings =
    record {
      variant = 1;
      pointer = pointer;
      pending = pending;
      status = status;
      low = 0;
      lowkept = false;
      sensed = record { local = 0; remote = remote; live = live; faults = faults; llatch = false; rlatch = false };
      settings = settings;
    }

-- an LM89C as after power-on, with this low byte, kept or not
abbrev keeping : ℕ → Bool → Device
keeping low lowkept =
    record {
      variant = 1;
      pointer = 0x00;
      pending = false;
      status = 0x00;
      low = low;
      lowkept = lowkept;
      sensed = record { local = 0; remote = pos 0; live = 0x00; faults = 0; llatch = false; rlatch = false };
      settings = 0 ∷ 8 ∷ 70 ∷ 0 ∷ 70 ∷ 0 ∷ 0 ∷ 0 ∷ 0 ∷ 0 ∷ 110 ∷ 85 ∷ 10 ∷ 0 ∷ [];
    }

pub record End : Type 0 where
  pub device : Device
  pub within : Bool

abbrev end : Device → Bool → End
end device within = record { device = device; within = within }

abbrev pub ends : List End
ends =
    -- as after power-on
    end (built 0x00 false 0x00 (pos 0) 0x00 0 (0 ∷ 8 ∷ 70 ∷ 0 ∷ 70 ∷ 0 ∷ 0 ∷ 0 ∷ 0 ∷ 0 ∷ 110 ∷ 85 ∷ 10 ∷ 0 ∷ [])) true ∷
    -- fault count 0 to 3
    end (built 0x00 false 0x00 (pos 0) 0x00 3 (0 ∷ 8 ∷ 70 ∷ 0 ∷ 70 ∷ 0 ∷ 0 ∷ 0 ∷ 0 ∷ 0 ∷ 110 ∷ 85 ∷ 10 ∷ 0 ∷ [])) true ∷
    end (built 0x00 false 0x00 (pos 0) 0x00 4 (0 ∷ 8 ∷ 70 ∷ 0 ∷ 70 ∷ 0 ∷ 0 ∷ 0 ∷ 0 ∷ 0 ∷ 110 ∷ 85 ∷ 10 ∷ 0 ∷ [])) false ∷
    -- remote reading -1024 to 1023
    end (built 0x00 false 0x00 (pos 1023) 0x00 0 (0 ∷ 8 ∷ 70 ∷ 0 ∷ 70 ∷ 0 ∷ 0 ∷ 0 ∷ 0 ∷ 0 ∷ 110 ∷ 85 ∷ 10 ∷ 0 ∷ [])) true ∷
    end (built 0x00 false 0x00 (pos 1024) 0x00 0 (0 ∷ 8 ∷ 70 ∷ 0 ∷ 70 ∷ 0 ∷ 0 ∷ 0 ∷ 0 ∷ 0 ∷ 110 ∷ 85 ∷ 10 ∷ 0 ∷ [])) false ∷
    end (built 0x00 false 0x00 (negsuc 1023) 0x00 0 (0 ∷ 8 ∷ 70 ∷ 0 ∷ 70 ∷ 0 ∷ 0 ∷ 0 ∷ 0 ∷ 0 ∷ 110 ∷ 85 ∷ 10 ∷ 0 ∷ [])) true ∷
    end (built 0x00 false 0x00 (negsuc 1024) 0x00 0 (0 ∷ 8 ∷ 70 ∷ 0 ∷ 70 ∷ 0 ∷ 0 ∷ 0 ∷ 0 ∷ 0 ∷ 110 ∷ 85 ∷ 10 ∷ 0 ∷ [])) false ∷
    -- pointer in R or W
    end (built 0x0F false 0x00 (pos 0) 0x00 0 (0 ∷ 8 ∷ 70 ∷ 0 ∷ 70 ∷ 0 ∷ 0 ∷ 0 ∷ 0 ∷ 0 ∷ 110 ∷ 85 ∷ 10 ∷ 0 ∷ [])) true ∷
    end (built 0x14 false 0x00 (pos 0) 0x00 0 (0 ∷ 8 ∷ 70 ∷ 0 ∷ 70 ∷ 0 ∷ 0 ∷ 0 ∷ 0 ∷ 0 ∷ 110 ∷ 85 ∷ 10 ∷ 0 ∷ [])) true ∷
    end (built 0x15 false 0x00 (pos 0) 0x00 0 (0 ∷ 8 ∷ 70 ∷ 0 ∷ 70 ∷ 0 ∷ 0 ∷ 0 ∷ 0 ∷ 0 ∷ 110 ∷ 85 ∷ 10 ∷ 0 ∷ [])) false ∷
    end (built 0x18 false 0x00 (pos 0) 0x00 0 (0 ∷ 8 ∷ 70 ∷ 0 ∷ 70 ∷ 0 ∷ 0 ∷ 0 ∷ 0 ∷ 0 ∷ 110 ∷ 85 ∷ 10 ∷ 0 ∷ [])) false ∷
    end (built 0x19 false 0x00 (pos 0) 0x00 0 (0 ∷ 8 ∷ 70 ∷ 0 ∷ 70 ∷ 0 ∷ 0 ∷ 0 ∷ 0 ∷ 0 ∷ 110 ∷ 85 ∷ 10 ∷ 0 ∷ [])) true ∷
    end (built 0x22 false 0x00 (pos 0) 0x00 0 (0 ∷ 8 ∷ 70 ∷ 0 ∷ 70 ∷ 0 ∷ 0 ∷ 0 ∷ 0 ∷ 0 ∷ 110 ∷ 85 ∷ 10 ∷ 0 ∷ [])) false ∷
    end (built 0xBE false 0x00 (pos 0) 0x00 0 (0 ∷ 8 ∷ 70 ∷ 0 ∷ 70 ∷ 0 ∷ 0 ∷ 0 ∷ 0 ∷ 0 ∷ 110 ∷ 85 ∷ 10 ∷ 0 ∷ [])) false ∷
    end (built 0xBF false 0x00 (pos 0) 0x00 0 (0 ∷ 8 ∷ 70 ∷ 0 ∷ 70 ∷ 0 ∷ 0 ∷ 0 ∷ 0 ∷ 0 ∷ 110 ∷ 85 ∷ 10 ∷ 0 ∷ [])) true ∷
    end (built 0xFD false 0x00 (pos 0) 0x00 0 (0 ∷ 8 ∷ 70 ∷ 0 ∷ 70 ∷ 0 ∷ 0 ∷ 0 ∷ 0 ∷ 0 ∷ 110 ∷ 85 ∷ 10 ∷ 0 ∷ [])) false ∷
    end (built 0xFF false 0x00 (pos 0) 0x00 0 (0 ∷ 8 ∷ 70 ∷ 0 ∷ 70 ∷ 0 ∷ 0 ∷ 0 ∷ 0 ∷ 0 ∷ 110 ∷ 85 ∷ 10 ∷ 0 ∷ [])) true ∷
    -- status and live byte with D7 clear
    end (built 0x00 false 0x7F (pos 0) 0x00 0 (0 ∷ 8 ∷ 70 ∷ 0 ∷ 70 ∷ 0 ∷ 0 ∷ 0 ∷ 0 ∷ 0 ∷ 110 ∷ 85 ∷ 10 ∷ 0 ∷ [])) true ∷
    end (built 0x00 false 0x80 (pos 0) 0x00 0 (0 ∷ 8 ∷ 70 ∷ 0 ∷ 70 ∷ 0 ∷ 0 ∷ 0 ∷ 0 ∷ 0 ∷ 110 ∷ 85 ∷ 10 ∷ 0 ∷ [])) false ∷
    end (built 0x00 false 0x00 (pos 0) 0x7F 0 (0 ∷ 8 ∷ 70 ∷ 0 ∷ 70 ∷ 0 ∷ 0 ∷ 0 ∷ 0 ∷ 0 ∷ 110 ∷ 85 ∷ 10 ∷ 0 ∷ [])) true ∷
    end (built 0x00 false 0x00 (pos 0) 0x80 0 (0 ∷ 8 ∷ 70 ∷ 0 ∷ 70 ∷ 0 ∷ 0 ∷ 0 ∷ 0 ∷ 0 ∷ 110 ∷ 85 ∷ 10 ∷ 0 ∷ [])) false ∷
    -- register bytes within their masks: 03 D5h; 12, 13, 14 E0h; 21 1Fh; BF 07h; others all
    end (built 0x00 false 0x00 (pos 0) 0x00 0 (213 ∷ 8 ∷ 70 ∷ 0 ∷ 70 ∷ 0 ∷ 0 ∷ 0 ∷ 0 ∷ 0 ∷ 110 ∷ 85 ∷ 10 ∷ 0 ∷ [])) true ∷
    end (built 0x00 false 0x00 (pos 0) 0x00 0 (32 ∷ 8 ∷ 70 ∷ 0 ∷ 70 ∷ 0 ∷ 0 ∷ 0 ∷ 0 ∷ 0 ∷ 110 ∷ 85 ∷ 10 ∷ 0 ∷ [])) false ∷
    end (built 0x00 false 0x00 (pos 0) 0x00 0 (8 ∷ 8 ∷ 70 ∷ 0 ∷ 70 ∷ 0 ∷ 0 ∷ 0 ∷ 0 ∷ 0 ∷ 110 ∷ 85 ∷ 10 ∷ 0 ∷ [])) false ∷
    end (built 0x00 false 0x00 (pos 0) 0x00 0 (2 ∷ 8 ∷ 70 ∷ 0 ∷ 70 ∷ 0 ∷ 0 ∷ 0 ∷ 0 ∷ 0 ∷ 110 ∷ 85 ∷ 10 ∷ 0 ∷ [])) false ∷
    end (built 0x00 false 0x00 (pos 0) 0x00 0 (0 ∷ 8 ∷ 70 ∷ 0 ∷ 70 ∷ 0 ∷ 0 ∷ 224 ∷ 0 ∷ 0 ∷ 110 ∷ 85 ∷ 10 ∷ 0 ∷ [])) true ∷
    end (built 0x00 false 0x00 (pos 0) 0x00 0 (0 ∷ 8 ∷ 70 ∷ 0 ∷ 70 ∷ 0 ∷ 0 ∷ 16 ∷ 0 ∷ 0 ∷ 110 ∷ 85 ∷ 10 ∷ 0 ∷ [])) false ∷
    end (built 0x00 false 0x00 (pos 0) 0x00 0 (0 ∷ 8 ∷ 70 ∷ 0 ∷ 70 ∷ 0 ∷ 0 ∷ 0 ∷ 224 ∷ 0 ∷ 110 ∷ 85 ∷ 10 ∷ 0 ∷ [])) true ∷
    end (built 0x00 false 0x00 (pos 0) 0x00 0 (0 ∷ 8 ∷ 70 ∷ 0 ∷ 70 ∷ 0 ∷ 0 ∷ 0 ∷ 16 ∷ 0 ∷ 110 ∷ 85 ∷ 10 ∷ 0 ∷ [])) false ∷
    end (built 0x00 false 0x00 (pos 0) 0x00 0 (0 ∷ 8 ∷ 70 ∷ 0 ∷ 70 ∷ 0 ∷ 0 ∷ 0 ∷ 0 ∷ 224 ∷ 110 ∷ 85 ∷ 10 ∷ 0 ∷ [])) true ∷
    end (built 0x00 false 0x00 (pos 0) 0x00 0 (0 ∷ 8 ∷ 70 ∷ 0 ∷ 70 ∷ 0 ∷ 0 ∷ 0 ∷ 0 ∷ 16 ∷ 110 ∷ 85 ∷ 10 ∷ 0 ∷ [])) false ∷
    end (built 0x00 false 0x00 (pos 0) 0x00 0 (0 ∷ 8 ∷ 70 ∷ 0 ∷ 70 ∷ 0 ∷ 0 ∷ 0 ∷ 0 ∷ 0 ∷ 110 ∷ 85 ∷ 31 ∷ 0 ∷ [])) true ∷
    end (built 0x00 false 0x00 (pos 0) 0x00 0 (0 ∷ 8 ∷ 70 ∷ 0 ∷ 70 ∷ 0 ∷ 0 ∷ 0 ∷ 0 ∷ 0 ∷ 110 ∷ 85 ∷ 32 ∷ 0 ∷ [])) false ∷
    end (built 0x00 false 0x00 (pos 0) 0x00 0 (0 ∷ 8 ∷ 70 ∷ 0 ∷ 70 ∷ 0 ∷ 0 ∷ 0 ∷ 0 ∷ 0 ∷ 110 ∷ 85 ∷ 10 ∷ 7 ∷ [])) true ∷
    end (built 0x00 false 0x00 (pos 0) 0x00 0 (0 ∷ 8 ∷ 70 ∷ 0 ∷ 70 ∷ 0 ∷ 0 ∷ 0 ∷ 0 ∷ 0 ∷ 110 ∷ 85 ∷ 10 ∷ 8 ∷ [])) false ∷
    end (built 0x00 false 0x00 (pos 0) 0x00 0 (0 ∷ 255 ∷ 70 ∷ 0 ∷ 70 ∷ 0 ∷ 0 ∷ 0 ∷ 0 ∷ 0 ∷ 110 ∷ 85 ∷ 10 ∷ 0 ∷ [])) true ∷
    end (built 0x00 false 0x00 (pos 0) 0x00 0 (0 ∷ 8 ∷ 255 ∷ 0 ∷ 70 ∷ 0 ∷ 0 ∷ 0 ∷ 0 ∷ 0 ∷ 110 ∷ 85 ∷ 10 ∷ 0 ∷ [])) true ∷
    end (built 0x00 false 0x00 (pos 0) 0x00 0 (0 ∷ 8 ∷ 70 ∷ 255 ∷ 70 ∷ 0 ∷ 0 ∷ 0 ∷ 0 ∷ 0 ∷ 110 ∷ 85 ∷ 10 ∷ 0 ∷ [])) true ∷
    end (built 0x00 false 0x00 (pos 0) 0x00 0 (0 ∷ 8 ∷ 70 ∷ 0 ∷ 255 ∷ 0 ∷ 0 ∷ 0 ∷ 0 ∷ 0 ∷ 110 ∷ 85 ∷ 10 ∷ 0 ∷ [])) true ∷
    end (built 0x00 false 0x00 (pos 0) 0x00 0 (0 ∷ 8 ∷ 70 ∷ 0 ∷ 70 ∷ 255 ∷ 0 ∷ 0 ∷ 0 ∷ 0 ∷ 110 ∷ 85 ∷ 10 ∷ 0 ∷ [])) true ∷
    end (built 0x00 false 0x00 (pos 0) 0x00 0 (0 ∷ 8 ∷ 70 ∷ 0 ∷ 70 ∷ 0 ∷ 255 ∷ 0 ∷ 0 ∷ 0 ∷ 110 ∷ 85 ∷ 10 ∷ 0 ∷ [])) true ∷
    end (built 0x00 false 0x00 (pos 0) 0x00 0 (0 ∷ 8 ∷ 70 ∷ 0 ∷ 70 ∷ 0 ∷ 0 ∷ 0 ∷ 0 ∷ 0 ∷ 255 ∷ 85 ∷ 10 ∷ 0 ∷ [])) true ∷
    end (built 0x00 false 0x00 (pos 0) 0x00 0 (0 ∷ 8 ∷ 70 ∷ 0 ∷ 70 ∷ 0 ∷ 0 ∷ 0 ∷ 0 ∷ 0 ∷ 110 ∷ 255 ∷ 10 ∷ 0 ∷ [])) true ∷
    -- one-shot pending only in standby
    end (built 0x00 true 0x00 (pos 0) 0x00 0 (64 ∷ 8 ∷ 70 ∷ 0 ∷ 70 ∷ 0 ∷ 0 ∷ 0 ∷ 0 ∷ 0 ∷ 110 ∷ 85 ∷ 10 ∷ 0 ∷ [])) true ∷
    end (built 0x00 true 0x00 (pos 0) 0x00 0 (0 ∷ 8 ∷ 70 ∷ 0 ∷ 70 ∷ 0 ∷ 0 ∷ 0 ∷ 0 ∷ 0 ∷ 110 ∷ 85 ∷ 10 ∷ 0 ∷ [])) false ∷
    -- request a: the kept byte a multiple of 32
    end (keeping 0x00 true) true ∷
    end (keeping 0x01 true) false ∷
    end (keeping 0x10 true) false ∷
    end (keeping 0x1F true) false ∷
    end (keeping 0x20 true) true ∷
    end (keeping 0x21 true) false ∷
    end (keeping 0xE0 true) true ∷
    end (keeping 0xE1 true) false ∷
    end (keeping 0xFF true) false ∷
    -- and 0 where none is kept
    end (keeping 0x00 false) true ∷
    end (keeping 0x20 false) false ∷
    end (keeping 0xE0 false) false ∷
    end (keeping 0x01 false) false ∷
    []

pub tested : map (λ (e : End). ranged_of e.device) ends ≡ map (λ (e : End). e.within) ends
unfolding ranged_of masks_of setting_of read_position_of known_of readable_of writable_of kept_of
tested = refl

-- addresses at most 7Fh; a remote low byte that is a multiple of 32; other bytes are free
pub operands :
    map operands_of
    (Write 0x7F 0xFF 0xFF ∷ Write 0x80 0x09 0x00 ∷ Read 0x7F 0xFF ∷ Read 0x80 0x00 ∷ Send 0x7F 0xFF ∷ Send 0x80 0x00 ∷ Receive 0x7F ∷ Receive 0x80 ∷
    Convert 0xFF 0xFF 0xE0 ∷ Convert 0xFF 0xFF 0xC0 ∷ Convert 0x00 0x00 0x10 ∷ Convert 0x00 0x00 0x21 ∷ Open 0xFF ∷ PowerOn ∷
    ConvertSecond 0xFF 0xFF 0xE0 ∷ ConvertSecond 0xFF 0xFF 0xC0 ∷ ConvertSecond 0x00 0x00 0x10 ∷ ConvertSecond 0x00 0x00 0x21 ∷ OpenSecond 0xFF ∷ [])
    ≡ true ∷ false ∷ true ∷ false ∷ true ∷ false ∷ true ∷ false ∷ true ∷ true ∷ false ∷ false ∷ true ∷ true ∷ true ∷ true ∷ false ∷ false ∷ true ∷ []
unfolding operands_of
operands = refl

-- request c: kinds 08 and 09 are a second device's, a bad operand or not, and no other is
pub seconds :
    map second_of
    (Write 0x4D 0x09 0x00 ∷ Read 0x4D 0x00 ∷ Send 0x4D 0x00 ∷ Receive 0x4D ∷ Convert 0x00 0x00 0x00 ∷ Open 0x00 ∷ PowerOn ∷
    ConvertSecond 0x00 0x00 0x00 ∷ ConvertSecond 0x00 0x00 0x01 ∷ OpenSecond 0x00 ∷ [])
    ≡ false ∷ false ∷ false ∷ false ∷ false ∷ false ∷ false ∷ true ∷ true ∷ true ∷ []
unfolding second_of
seconds = refl
