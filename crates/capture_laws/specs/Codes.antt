-- The table of codes, line by line: which code a call gives, and exactly when, in facts about the state, the bytes and the room that
-- are handed in.
-- Assumes nothing.
use Rattle.std.specs.Prelude.{ℕ, zero, suc, ◌+◌, ◌-◌, ◌*◌, ◌≤◌, ◌<◌, ◌≡◌, Bool, true, false, cond, ◌&&◌, ◌||◌, ltb, leb, eqb}
use Rattle.std.specs.Prelude.{List, [], ◌∷◌, ◌++◌, length, take, drop}
use Rattle.registers.specs.Page.{address_of}
use Rattle.device.specs.declared.Event.{Event}
use Rattle.device.specs.Ranges.{variant_of}
use Rattle.std.specs.Prelude.{Ok, Err}
use Rattle.record.specs.declared.refusal.Refusal.TheVariants.{Operand}
use Rattle.record.specs.Record.{known_kind}
use Rattle.record.specs.Fours.{Quad, quads, quad_of}
use Rattle.pair.specs.Bus.{count_place}
use Rattle.capture.specs.declared.Reader.{Reader}
use Rattle.capture.specs.Reader.{header_length_of, ranges_of}

-- ---- the header that is still ahead

-- what the bytes decide of it: a device count that is not 1 or 2, a variant that is not 1, 2 or 3, two devices of one address, an end within the
-- header, or a header that is complete, with its device count, its record count and the bytes behind it
pub data Header : Type 0 where
  bad_count : Header
  bad_variant : Header
  bad_address : Header
  unfinished : Header
  complete : ℕ → ℕ → List ℕ → Header

-- under a device count, so many bytes of the record count to come, and the count so far
abbrev pub number_header : ℕ → ℕ → ℕ → List ℕ → Header
number_header devices zero n xs = complete devices n xs
number_header devices (suc k) n [] = unfinished
number_header devices (suc k) n (b ∷ xs) = number_header devices k (n * 256 + b) xs

-- the second variant to come, beside the first
abbrev pub second_header : ℕ → List ℕ → Header
second_header first [] = unfinished
second_header first (v ∷ xs) =
    cond (variant_of v) (cond (eqb (address_of v) (address_of first)) bad_address (number_header 2 4 0 xs)) bad_variant

abbrev pub variant_header : ℕ → List ℕ → Header
variant_header devices [] = unfinished
variant_header devices (v ∷ xs) = cond (variant_of v) (cond (eqb devices 2) (second_header v xs) (number_header devices 4 0 xs)) bad_variant

abbrev pub count_header : List ℕ → Header
count_header [] = unfinished
count_header (n ∷ xs) = cond (eqb n 1 || eqb n 2) (variant_header n xs) bad_count

unfoldable pub header_ahead : Reader → List ℕ → Header
header_ahead s xs =
    cond (eqb s.head 0) (count_header xs)
    (cond (eqb s.head 1) (variant_header s.bus.devices xs)
    (cond (ltb s.head (count_place s.bus)) (second_header s.bus.first.variant xs)
    (number_header s.bus.devices (header_length_of s - s.head) s.count xs)))

-- ---- the records that are still ahead

-- the bytes that are carried
abbrev pub carried_of : Reader → List ℕ
carried_of s = take s.carried s.bytes

-- under a device count
abbrev pub IsValid : ℕ → Quad → Type 0
IsValid devices q = (e : Event) × (quad_of devices q ≡ Ok e)

abbrev pub AllValid : ℕ → List Quad → Type 0
AllValid devices [] = Unit {0}
AllValid devices (q ∷ qs) = IsValid devices q × AllValid devices qs

-- of the records in `l`, under a device count, k of n done before them, record j (from 0) is judged: it is counted and complete, those before it are valid, and
-- their answers had room
pub record Judged (devices n k : ℕ) (l : List ℕ) (room j : ℕ) (q : Quad) : Type 0 where
  pub rest : List Quad
  pub there : drop j (quads l) ≡ q ∷ rest
  pub counted : k + j < n
  pub before : AllValid devices (take j (quads l))
  pub space : j * 2 ≤ room

-- every counted record is complete and valid, their answers had room, and a byte comes after the last
pub record Past (devices n k : ℕ) (l : List ℕ) (room : ℕ) : Type 0 where
  pub beyond : (n - k) * 4 < length l
  pub before : AllValid devices (take (n - k) (quads l))
  pub space : (n - k) * 2 ≤ room

-- every complete record is counted and valid, their answers had room, and no byte comes after the last counted one
pub record Done (devices n k : ℕ) (l : List ℕ) (room : ℕ) : Type 0 where
  pub within : length l ≤ (n - k) * 4
  pub before : AllValid devices (quads l)
  pub space : length (quads l) * 2 ≤ room

-- ---- the table

-- the state is in its ranges and holds no lasting code
pub record Free (s : Reader) : Type 0 where
  pub ranges : ranges_of s ≡ true
  pub none : s.held ≡ 0

-- a call from state s with bytes xs and some room gives this code
pub data Gives (s : Reader) (xs : List ℕ) (room : ℕ) : ℕ → Type 0 where
  -- 8: the state handed in is out of its ranges
  out_of_ranges : ranges_of s ≡ false → Gives s xs room 8
  -- a lasting code already held
  held : ranges_of s ≡ true → (s.held ≡ 0 → ⊥) → Gives s xs room s.held
  -- 1: device count is not 1 or 2
  device_count : Free s → header_ahead s xs ≡ bad_count → Gives s xs room 1
  -- 2: variant is not 1, 2 or 3
  variant : Free s → header_ahead s xs ≡ bad_variant → Gives s xs room 2
  -- 9, after 2: both devices have one address
  address : Free s → header_ahead s xs ≡ bad_address → Gives s xs room 9
  -- 3: kind is not 01 to 07, nor 08 or 09 with two devices
  kind : {devices n j : ℕ} {l : List ℕ} {q : Quad} → Free s → header_ahead s xs ≡ complete devices n l
      → Judged devices n s.done (carried_of s ++ l) room j q → known_kind devices q.kind ≡ false → Gives s xs room 3
  -- 4: an operand breaks the table
  operand : {devices n j : ℕ} {l : List ℕ} {q : Quad} → Free s → header_ahead s xs ≡ complete devices n l
      → Judged devices n s.done (carried_of s ++ l) room j q → quad_of devices q ≡ Err Operand → Gives s xs room 4
  -- 5: a byte comes after the last counted record
  past_end : {devices n : ℕ} {l : List ℕ} → Free s → header_ahead s xs ≡ complete devices n l → Past devices n s.done (carried_of s ++ l) room
      → Gives s xs room 5
  -- 7: a valid record is complete but fewer than two bytes of room are left
  no_room : {devices n j : ℕ} {l : List ℕ} {q : Quad} → Free s → header_ahead s xs ≡ complete devices n l
      → Judged devices n s.done (carried_of s ++ l) room j q → IsValid devices q → room < j * 2 + 2 → Gives s xs room 7
  -- 0: none of the others applies
  in_header_lem : Free s → header_ahead s xs ≡ unfinished → Gives s xs room 0
  in_records : {devices n : ℕ} {l : List ℕ} → Free s → header_ahead s xs ≡ complete devices n l → Done devices n s.done (carried_of s ++ l) room
      → Gives s xs room 0

-- the codes that a call gives: 0 to 5 and 7 to 9
abbrev pub call_codes : List ℕ
call_codes = 0 ∷ 1 ∷ 2 ∷ 3 ∷ 4 ∷ 5 ∷ 7 ∷ 8 ∷ 9 ∷ []

-- the codes that last: 1 to 5, and 9
abbrev pub lasting_of : ℕ → Bool
lasting_of code = (leb 1 code && leb code 5) || eqb code 9

-- the codes that asking to finish gives: 0 to 6, 8 and 9
abbrev pub finish_codes : List ℕ
finish_codes = 0 ∷ 1 ∷ 2 ∷ 3 ∷ 4 ∷ 5 ∷ 6 ∷ 8 ∷ 9 ∷ []

-- asked to finish, state s gives this code
pub data Finishes (s : Reader) : ℕ → Type 0 where
  -- 8: the state handed in is out of its ranges
  out_of_ranges : ranges_of s ≡ false → Finishes s 8
  -- a lasting code already held
  held : ranges_of s ≡ true → (s.held ≡ 0 → ⊥) → Finishes s s.held
  -- 6: the capture is not at its counted end
  before_end : Free s → (s.head ≡ header_length_of s → s.done ≡ s.count → ⊥) → Finishes s 6
  -- 0: it is
  at_end : Free s → s.head ≡ header_length_of s → s.done ≡ s.count → Finishes s 0
