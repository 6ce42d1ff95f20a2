-- What document 01 prints of the registers, as theorems about the page: R, W, the kept bits and the power-on tables.
-- Assumes nothing.
use Rattle.std.specs.Prelude.{◌≡◌, refl, true, false, [], ◌∷◌, map, ℕ, Some, None}
use Rattle.registers.specs.Page.{r_set, w_set, settable, Settable, readable_of, writable_of, known_of, write_position_of, read_position_of, kept_of, read_at_of}
use Rattle.registers.specs.Page.{settable_of, power_on_of, read_only_of, address_of}

pub r_printed : r_set
    ≡ 0x00 ∷ 0x01 ∷ 0x02 ∷ 0x03 ∷ 0x04 ∷ 0x05 ∷ 0x06 ∷ 0x07 ∷ 0x08 ∷ 0x10 ∷ 0x11 ∷ 0x12 ∷ 0x13 ∷ 0x14 ∷ 0x19 ∷ 0x20 ∷ 0x21 ∷ 0xBF ∷ 0xFE ∷ 0xFF ∷ []
r_printed = refl

pub w_printed : w_set ≡ 0x09 ∷ 0x0A ∷ 0x0B ∷ 0x0C ∷ 0x0D ∷ 0x0E ∷ 0x0F ∷ 0x11 ∷ 0x12 ∷ 0x13 ∷ 0x14 ∷ 0x19 ∷ 0x20 ∷ 0x21 ∷ 0xBF ∷ []
w_printed = refl

-- fourteen are settable; 09 to 0E are 03 to 08 in that order, the others keep their number
pub read_at : map (λ (s : Settable). s.read) settable ≡ 0x03 ∷ 0x04 ∷ 0x05 ∷ 0x06 ∷ 0x07 ∷ 0x08 ∷ 0x11 ∷ 0x12 ∷ 0x13 ∷ 0x14 ∷ 0x19 ∷ 0x20 ∷ 0x21 ∷ 0xBF ∷ []
read_at = refl

pub written_at : map (λ (s : Settable). s.write) settable ≡ 0x09 ∷ 0x0A ∷ 0x0B ∷ 0x0C ∷ 0x0D ∷ 0x0E ∷ 0x11 ∷ 0x12 ∷ 0x13 ∷ 0x14 ∷ 0x19 ∷ 0x20 ∷ 0x21 ∷ 0xBF ∷ []
written_at = refl

-- 09 to 0E are 03 to 08 in that order
pub read_back_at : map read_at_of (0x09 ∷ 0x0A ∷ 0x0B ∷ 0x0C ∷ 0x0D ∷ 0x0E ∷ 0x11 ∷ 0xBF ∷ [])
    ≡ 0x03 ∷ 0x04 ∷ 0x05 ∷ 0x06 ∷ 0x07 ∷ 0x08 ∷ 0x11 ∷ 0xBF ∷ []
unfolding read_at_of
read_back_at = refl

-- readings, status, 0F, manufacturer and die revision are not settable
pub settable_printed : map settable_of (0x00 ∷ 0x02 ∷ 0x03 ∷ 0x09 ∷ 0x0F ∷ 0x10 ∷ 0x14 ∷ 0xBF ∷ 0xFE ∷ [])
    ≡ false ∷ false ∷ true ∷ false ∷ false ∷ false ∷ true ∷ true ∷ false ∷ []
unfolding settable_of
settable_printed = refl

-- the position of the first and of the last settable register, by both numbers; 0F and 00 have none
pub positions : map write_position_of (0x09 ∷ 0xBF ∷ 0x03 ∷ 0x0F ∷ []) ≡ Some 0 ∷ Some 13 ∷ None ∷ None ∷ []
unfolding write_position_of
positions = refl

pub read_positions : map read_position_of (0x03 ∷ 0xBF ∷ 0x09 ∷ 0x00 ∷ []) ≡ Some 0 ∷ Some 13 ∷ None ∷ None ∷ []
unfolding read_position_of
read_positions = refl

-- kept bits: 03 D5h; 12, 13, 14 E0h; 21 1Fh; BF 07h; others all
pub kept_printed : map kept_of (0x03 ∷ 0x04 ∷ 0x05 ∷ 0x06 ∷ 0x07 ∷ 0x08 ∷ 0x11 ∷ 0x12 ∷ 0x13 ∷ 0x14 ∷ 0x19 ∷ 0x20 ∷ 0x21 ∷ 0xBF ∷ [])
    ≡ 0xD5 ∷ 0xFF ∷ 0xFF ∷ 0xFF ∷ 0xFF ∷ 0xFF ∷ 0xFF ∷ 0xE0 ∷ 0xE0 ∷ 0xE0 ∷ 0xFF ∷ 0xFF ∷ 0x1F ∷ 0x07 ∷ []
unfolding kept_of
kept_printed = refl

-- the same by the numbers at which they are written, and all bits of a number outside the page
pub kept_written : map kept_of (0x09 ∷ 0x0A ∷ 0x0E ∷ 0x30 ∷ []) ≡ 0xD5 ∷ 0xFF ∷ 0xFF ∷ 0xFF ∷ []
unfolding kept_of
kept_written = refl

-- ---- power-on, one table per variant, in decimal as 004 prints it: rate 8, high limits 70, remote T_CRIT 110, local 85 or 105, hysteresis 10

pub lm89c : power_on_of 1 ≡ 0 ∷ 8 ∷ 70 ∷ 0 ∷ 70 ∷ 0 ∷ 0 ∷ 0 ∷ 0 ∷ 0 ∷ 110 ∷ 85 ∷ 10 ∷ 0 ∷ []
unfolding power_on_of
lm89c = refl

pub lm89_1c : power_on_of 2 ≡ 0 ∷ 8 ∷ 70 ∷ 0 ∷ 70 ∷ 0 ∷ 0 ∷ 0 ∷ 0 ∷ 0 ∷ 110 ∷ 85 ∷ 10 ∷ 0 ∷ []
unfolding power_on_of
lm89_1c = refl

pub lm89_1d : power_on_of 3 ≡ 0 ∷ 8 ∷ 70 ∷ 0 ∷ 70 ∷ 0 ∷ 0 ∷ 0 ∷ 0 ∷ 0 ∷ 110 ∷ 105 ∷ 10 ∷ 0 ∷ []
unfolding power_on_of
lm89_1d = refl

-- both readings and status 0, FE 01, FF 49, 52 and 53
pub read_only : map (λ (v : ℕ). map (read_only_of v) (0x00 ∷ 0x01 ∷ 0x02 ∷ 0x10 ∷ 0xFE ∷ 0xFF ∷ [])) (1 ∷ 2 ∷ 3 ∷ [])
    ≡ (0 ∷ 0 ∷ 0 ∷ 0 ∷ 1 ∷ 49 ∷ []) ∷ (0 ∷ 0 ∷ 0 ∷ 0 ∷ 1 ∷ 52 ∷ []) ∷ (0 ∷ 0 ∷ 0 ∷ 0 ∷ 1 ∷ 53 ∷ []) ∷ []
unfolding read_only_of
read_only = refl

pub addresses : map address_of (1 ∷ 2 ∷ 3 ∷ []) ≡ 0x4C ∷ 0x4D ∷ 0x4D ∷ []
unfolding address_of
addresses = refl

-- 0F is written and never read, 09 to 0E too; 02 is read and never written; B0 to BE, the test registers, are neither
pub rights : map readable_of (0x02 ∷ 0x09 ∷ 0x0F ∷ 0xB0 ∷ []) ≡ true ∷ false ∷ false ∷ false ∷ []
unfolding readable_of
rights = refl

pub write_rights : map writable_of (0x02 ∷ 0x09 ∷ 0x0F ∷ 0xB0 ∷ []) ≡ false ∷ true ∷ true ∷ false ∷ []
unfolding writable_of
write_rights = refl

pub known : map known_of (0x02 ∷ 0x09 ∷ 0x0F ∷ 0xB0 ∷ []) ≡ true ∷ true ∷ true ∷ false ∷ []
unfolding known_of readable_of writable_of
known = refl

-- both sides of the page's gaps: 15 to 18, 1A to 1F, 22 to AF with the test registers behind it, C0 to FD
pub gaps : map known_of (0x14 ∷ 0x15 ∷ 0x18 ∷ 0x19 ∷ 0x1A ∷ 0x1F ∷ 0x20 ∷ 0x21 ∷ 0x22 ∷ 0xAF ∷ 0xB0 ∷ 0xBE ∷ 0xBF ∷ 0xC0 ∷ 0xFD ∷ 0xFE ∷ [])
    ≡ true ∷ false ∷ false ∷ true ∷ false ∷ false ∷ true ∷ true ∷ false ∷ false ∷ false ∷ false ∷ true ∷ false ∷ false ∷ true ∷ []
unfolding known_of readable_of writable_of
gaps = refl

-- where the page goes from read addresses to write addresses, to one of each alone, and to addresses that are both
pub read_edges : map readable_of (0x02 ∷ 0x03 ∷ 0x08 ∷ 0x09 ∷ 0x0E ∷ 0x0F ∷ 0x10 ∷ 0x11 ∷ [])
    ≡ true ∷ true ∷ true ∷ false ∷ false ∷ false ∷ true ∷ true ∷ []
unfolding readable_of
read_edges = refl

pub write_edges : map writable_of (0x02 ∷ 0x03 ∷ 0x08 ∷ 0x09 ∷ 0x0E ∷ 0x0F ∷ 0x10 ∷ 0x11 ∷ [])
    ≡ false ∷ false ∷ false ∷ true ∷ true ∷ true ∷ false ∷ true ∷ []
unfolding writable_of
write_edges = refl
