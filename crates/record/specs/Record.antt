-- The capture's records: kind, a, b, c, under a device count, to an event or a refusal, and an event to its four bytes, by the table of kinds.
-- Assumes nothing.
use Rattle.std.specs.Prelude.{ℕ, Bool, cond, ◌&&◌, List, [], ◌∷◌, map, eqb, leb, Result, Ok, Err}
use Rattle.device.specs.declared.Event.{Event}
use Rattle.device.specs.declared.Event.TheVariants.{Write, Read, Send, Receive, Convert, Open, PowerOn, ConvertSecond, OpenSecond}
use Rattle.device.specs.Ranges.{all_true, operands_of}
use Rattle.record.specs.declared.refusal.Refusal.{Refusal}
use Rattle.record.specs.declared.refusal.Refusal.TheVariants.{Kind, Operand}

-- a record is either one event or a refusal
abbrev pub Record : Type 0
Record = Result Event Refusal

-- the codes of the cases: 3 for a kind that is not the table's, 4 for an operand that breaks it
unfoldable pub code_of : Record → ℕ
code_of (Ok e) = 0
code_of (Err Kind) = 3
code_of (Err Operand) = 4

-- the event, if its operands are good
abbrev pub admit_of : Bool → Event → Record
admit_of good e = cond good (Ok e) (Err Operand)

-- the operands that an event has are in the table, and the others are 0
abbrev pub good_of : Event → List ℕ → Bool
good_of e others = all_true (operands_of e ∷ map (λ x. eqb x 0) others)

-- request c: 08 and 09 are read under a device count of 2; under any other the kind is refused, 3 before 4
abbrev pub under_two_of : ℕ → Record → Record
under_two_of devices r = cond (eqb devices 2) r (Err Kind)

-- the table of kinds
unfoldable pub decode_of : ℕ → ℕ → ℕ → ℕ → ℕ → Record
decode_of devices kind a b c =
    cond (eqb kind 0x01) (admit_of (good_of (Write a b c) []) (Write a b c))
    (cond (eqb kind 0x02) (admit_of (good_of (Read a b) (c ∷ [])) (Read a b))
    (cond (eqb kind 0x03) (admit_of (good_of (Send a b) (c ∷ [])) (Send a b))
    (cond (eqb kind 0x04) (admit_of (good_of (Receive a) (b ∷ c ∷ [])) (Receive a))
    (cond (eqb kind 0x05) (admit_of (good_of (Convert a b c) []) (Convert a b c))
    (cond (eqb kind 0x06) (admit_of (good_of (Open a) (b ∷ c ∷ [])) (Open a))
    (cond (eqb kind 0x07) (admit_of (good_of PowerOn (a ∷ b ∷ c ∷ [])) PowerOn)
    -- request c: the operands of 05 and 06
    (cond (eqb kind 0x08) (under_two_of devices (admit_of (good_of (ConvertSecond a b c) []) (ConvertSecond a b c)))
    (cond (eqb kind 0x09) (under_two_of devices (admit_of (good_of (OpenSecond a) (b ∷ c ∷ [])) (OpenSecond a)))
    (Err Kind)))))))))

-- the last kind of the table: 07; request c: under a device count of 2, 09
abbrev pub last_kind_of : ℕ → ℕ
last_kind_of devices = cond (eqb devices 2) 9 7

-- a kind of the table: 01 to the last
abbrev pub known_kind : ℕ → ℕ → Bool
known_kind devices kind = leb 1 kind && leb kind (last_kind_of devices)

-- the other way
unfoldable pub encode_of : Event → List ℕ
encode_of (Write a b c) = 0x01 ∷ a ∷ b ∷ c ∷ []
encode_of (Read a b) = 0x02 ∷ a ∷ b ∷ 0 ∷ []
encode_of (Send a b) = 0x03 ∷ a ∷ b ∷ 0 ∷ []
encode_of (Receive a) = 0x04 ∷ a ∷ 0 ∷ 0 ∷ []
encode_of (Convert a b c) = 0x05 ∷ a ∷ b ∷ c ∷ []
encode_of (Open a) = 0x06 ∷ a ∷ 0 ∷ 0 ∷ []
encode_of PowerOn = 0x07 ∷ 0 ∷ 0 ∷ 0 ∷ []
encode_of (ConvertSecond a b c) = 0x08 ∷ a ∷ b ∷ c ∷ []
encode_of (OpenSecond a) = 0x09 ∷ a ∷ 0 ∷ 0 ∷ []
