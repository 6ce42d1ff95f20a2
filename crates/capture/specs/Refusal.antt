-- Why the reader refuses, by its codes.
-- Assumes nothing.
use Rattle.std.specs.Prelude.{ℕ}
use Rattle.record.specs.declared.refusal.Refusal as refusal
use Rattle.capture.specs.declared.refusal.Refusal.{Refusal}
use Rattle.capture.specs.declared.refusal.Refusal.TheVariants.{DeviceCount, Variant, Kind, Operand, PastEnd, CutShort, Room, Range, OneAddress}

-- the code of each
abbrev pub refusal_code_of : Refusal → ℕ
refusal_code_of DeviceCount = 1
refusal_code_of Variant = 2
refusal_code_of Kind = 3
refusal_code_of Operand = 4
refusal_code_of PastEnd = 5
refusal_code_of CutShort = 6
refusal_code_of Room = 7
refusal_code_of Range = 8
refusal_code_of OneAddress = 9

-- of a record
abbrev pub of_record : refusal.Refusal → Refusal
of_record refusal.TheVariants.Kind = Kind
of_record refusal.TheVariants.Operand = Operand
