-- What a register number is asked for, by the page and by a row of the program's table of registers: what that table promises. The sorts
-- of access are the program's; nothing of them stands in document 01.
-- Assumes nothing.
use Rattle.std.specs.Prelude.{ℕ, Bool, true, false, not, cond, ltb, Option, Some, None}
use Rattle.registers.specs.declared.Way.{Way}
use Rattle.registers.specs.declared.Way.TheVariants.{Read, Write}
use Rattle.registers.specs.declared.page.Access.{Access}
use Rattle.registers.specs.declared.page.Access.TheVariants.{Neither, ReadOnly, WriteOnly, SameAddress, TwoAddresses}
use Rattle.registers.specs.declared.page.Row.{Row}
use Rattle.registers.specs.Page.{readable_of, writable_of, known_of, read_position_of, write_position_of, kept_of}

pub record Told : Type 0 where
  pub readable : Bool
  pub writable : Bool
  pub known : Bool
  pub read_position : Option ℕ
  pub write_position : Option ℕ
  pub kept : ℕ

abbrev pub by_page : ℕ → Told
by_page reg =
    record {
      readable = readable_of reg;
      writable = writable_of reg;
      known = known_of reg;
      read_position = read_position_of reg;
      write_position = write_position_of reg;
      kept = kept_of reg;
    }

-- ---- what the two functions of a way promise

abbrev pub allowed_of : Way → ℕ → Bool
allowed_of Read reg = readable_of reg
allowed_of Write reg = writable_of reg

abbrev pub position_of : Way → ℕ → Option ℕ
position_of Read reg = read_position_of reg
position_of Write reg = write_position_of reg

-- ---- by a row

-- read and written at the same address, or read at the lower of two addresses and written at the higher, from 09 on
abbrev pub allows_of : Access → Way → ℕ → Bool
allows_of Neither way reg = false
allows_of ReadOnly Read reg = true
allows_of ReadOnly Write reg = false
allows_of WriteOnly Read reg = false
allows_of WriteOnly Write reg = true
allows_of SameAddress way reg = true
allows_of TwoAddresses Read reg = ltb reg 0x09
allows_of TwoAddresses Write reg = not (ltb reg 0x09)

-- the bits of the sorts that are read, or written, at an address
abbrev pub sorts_of : Way → ℕ → ℕ
sorts_of Read reg = cond (ltb reg 0x09) 0b101 0b001
sorts_of Write reg = cond (ltb reg 0x09) 0b010 0b110

abbrev pub neither : Access → Bool
neither Neither = true
neither ReadOnly = false
neither WriteOnly = false
neither SameAddress = false
neither TwoAddresses = false

-- a row's place, where the test holds
abbrev pub placed_of : Bool → Option ℕ → Option ℕ
placed_of on place = cond on place None

-- the row of a register with one of the fourteen bytes
abbrev pub row_at : Access → ℕ → ℕ → Row
row_at access place kept = record { access = access; place = Some place; kept = kept }

abbrev pub by_row : ℕ → Row → Told
by_row reg row =
    record {
      readable = allows_of row.access Read reg;
      writable = allows_of row.access Write reg;
      known = not (neither row.access);
      read_position = placed_of (allows_of row.access Read reg) row.place;
      write_position = placed_of (allows_of row.access Write reg) row.place;
      kept = row.kept;
    }
