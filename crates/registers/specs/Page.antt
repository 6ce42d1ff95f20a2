-- Registers: source document 004's register table as one page of rows, and what follows from it: which registers are readable
-- (R) and writable (W), the fourteen settable bytes with the bits they keep, and the power-on bytes of each variant. The kept bits
-- are document 01's; 004's test registers B0h to BEh are left out, since document 01 has them neither in R nor in W.
-- Assumes nothing.
use Rattle.std.specs.Prelude.{ℕ, suc, Bool, false, ◌||◌, cond, List, [], ◌∷◌, map, eqb, get_or, set, Option, Some, None}

-- ---- the page

-- the power-on byte of variant 1 (LM89C), 2 (LM89-1C) and 3 (LM89-1D)
pub record Default : Type 0 where
  pub one : ℕ
  pub two : ℕ
  pub three : ℕ

abbrev pub each : ℕ → ℕ → ℕ → Default
each one two three = record { one = one; two = two; three = three }

abbrev pub every_variant : ℕ → Default
every_variant byte = each byte byte byte

-- a settable register: where it is read, where it is written, the bits it keeps, its power-on byte
pub record Settable : Type 0 where
  pub read : ℕ
  pub write : ℕ
  pub kept : ℕ
  pub default : Default

-- 004 has registers that are read only, written only, or both, at one address or at two
pub data Row : Type 0 where
  read_only : ℕ → Default → Row
  write_only : ℕ → Row
  read_write : Settable → Row

abbrev both : ℕ → ℕ → ℕ → Default → Row
both read write kept default = read_write (record { read = read; write = write; kept = kept; default = default })

abbrev pub page : List Row
page =
    -- local temperature
    read_only 0x00 (every_variant 0) ∷
    -- remote temperature, high byte
    read_only 0x01 (every_variant 0) ∷
    -- status
    read_only 0x02 (every_variant 0) ∷
    -- configuration
    both 0x03 0x09 0xD5 (every_variant 0) ∷
    -- conversion rate; P12: kept, without effect
    both 0x04 0x0A 0xFF (every_variant 0x08) ∷
    -- local high limit
    both 0x05 0x0B 0xFF (every_variant 70) ∷
    -- local low limit
    both 0x06 0x0C 0xFF (every_variant 0) ∷
    -- remote high limit, high byte
    both 0x07 0x0D 0xFF (every_variant 70) ∷
    -- remote low limit, high byte
    both 0x08 0x0E 0xFF (every_variant 0) ∷
    -- one-shot
    write_only 0x0F ∷
    -- remote temperature, low byte
    read_only 0x10 (every_variant 0) ∷
    -- remote offset, high byte
    both 0x11 0x11 0xFF (every_variant 0) ∷
    -- remote offset, low byte
    both 0x12 0x12 0xE0 (every_variant 0) ∷
    -- remote high limit, low byte
    both 0x13 0x13 0xE0 (every_variant 0) ∷
    -- remote low limit, low byte
    both 0x14 0x14 0xE0 (every_variant 0) ∷
    -- remote T_CRIT
    both 0x19 0x19 0xFF (every_variant 110) ∷
    -- local T_CRIT
    both 0x20 0x20 0xFF (each 85 85 105) ∷
    -- T_CRIT hysteresis
    both 0x21 0x21 0x1F (every_variant 10) ∷
    -- filter and alert; P12: the filter bits are kept, without effect
    both 0xBF 0xBF 0x07 (every_variant 0) ∷
    -- manufacturer
    read_only 0xFE (every_variant 0x01) ∷
    -- die revision
    read_only 0xFF (each 0x31 0x34 0x35) ∷
    []

-- ---- R and W

abbrev reads : List Row → List ℕ
reads [] = []
reads (read_only r d ∷ rows) = r ∷ reads rows
reads (write_only w ∷ rows) = reads rows
reads (read_write s ∷ rows) = s.read ∷ reads rows

abbrev writes : List Row → List ℕ
writes [] = []
writes (read_only r d ∷ rows) = writes rows
writes (write_only w ∷ rows) = w ∷ writes rows
writes (read_write s ∷ rows) = s.write ∷ writes rows

abbrev pub r_set : List ℕ
r_set = reads page

abbrev pub w_set : List ℕ
w_set = writes page

abbrev pub among : ℕ → List ℕ → Bool
among x [] = false
among x (y ∷ ys) = eqb x y || among x ys

unfoldable pub readable_of : ℕ → Bool
readable_of r = among r r_set

unfoldable pub writable_of : ℕ → Bool
writable_of r = among r w_set

-- P10: a register in R or W
unfoldable pub known_of : ℕ → Bool
known_of r = readable_of r || writable_of r

-- P11: the one-shot
abbrev pub one_shot : ℕ
one_shot = 0x0F

-- ---- the fourteen settable bytes

abbrev settables : List Row → List Settable
settables [] = []
settables (read_only r d ∷ rows) = settables rows
settables (write_only w ∷ rows) = settables rows
settables (read_write s ∷ rows) = s ∷ settables rows

-- the page has them in rising order of write address, and that is the order in which a device holds their bytes
abbrev pub settable : List Settable
settable = settables page

-- where x stands in a list that begins at position n
abbrev pub find : ℕ → ℕ → List ℕ → Option ℕ
find x n [] = None
find x n (y ∷ ys) = cond (eqb x y) (Some n) (find x (suc n) ys)

-- the position of the settable register that is written at w, or that is read at r
unfoldable pub write_position_of : ℕ → Option ℕ
write_position_of w = find w 0 (map (λ (s : Settable). s.write) settable)

unfoldable pub read_position_of : ℕ → Option ℕ
read_position_of r = find r 0 (map (λ (s : Settable). s.read) settable)

-- one answer for a position, another for none
module _ {A : Type 0} where
  abbrev pub on_position : Option ℕ → (ℕ → A) → A → A
  on_position (Some i) some none = some i
  on_position None some none = none

-- of the fourteen bytes, the one of the settable register that is read at r
unfoldable pub setting_of : List ℕ → ℕ → ℕ
setting_of bytes r = on_position (read_position_of r) (λ i. get_or bytes i 0) 0

-- the fourteen bytes with the byte of the register that is read at r replaced by b
unfoldable pub changed_of : List ℕ → ℕ → ℕ → List ℕ
changed_of bytes r b = on_position (read_position_of r) (λ i. set bytes i b) bytes

-- a settable register is read at r
unfoldable pub settable_of : ℕ → Bool
settable_of r = among r (map (λ (s : Settable). s.read) settable)

-- where the register that is written at w is read: 09 to 0E are 03 to 08 in that order, the others keep their number
abbrev read_in : ℕ → List Settable → ℕ
read_in w [] = w
read_in w (s ∷ ss) = cond (eqb w s.write) s.read (read_in w ss)

unfoldable pub read_at_of : ℕ → ℕ
read_at_of w = read_in w settable

-- kept bits, by either of a register's numbers; all bits where the page names none
abbrev kept_in : ℕ → List Settable → ℕ
kept_in r [] = 0xFF
kept_in r (s ∷ ss) = cond (eqb r s.read || eqb r s.write) s.kept (kept_in r ss)

unfoldable pub kept_of : ℕ → ℕ
kept_of r = kept_in r settable

-- ---- power-on

-- a variant's column; 0 for any number but 1, 2 and 3
abbrev pub column : ℕ → Default → ℕ
column variant d = cond (eqb variant 1) d.one (cond (eqb variant 2) d.two (cond (eqb variant 3) d.three 0))

-- the fourteen settable bytes at power-on
unfoldable pub power_on_of : ℕ → List ℕ
power_on_of variant = map (λ (s : Settable). column variant s.default) settable

abbrev pub read_only_in : ℕ → List Row → Default
read_only_in r [] = every_variant 0
read_only_in r (read_only x d ∷ rows) = cond (eqb r x) d (read_only_in r rows)
read_only_in r (write_only w ∷ rows) = read_only_in r rows
read_only_in r (read_write s ∷ rows) = read_only_in r rows

-- a read-only register at power-on: both readings and status, and what FE and FF give for ever
unfoldable pub read_only_of : ℕ → ℕ → ℕ
read_only_of variant r = column variant (read_only_in r page)

-- ---- variants

-- 1 LM89C at 4C, 2 LM89-1C and 3 LM89-1D at 4D; any other variant is out of the ranges of a step, and of a device on a bus
unfoldable pub address_of : ℕ → ℕ
address_of variant = cond (eqb variant 1) 0x4C 0x4D
