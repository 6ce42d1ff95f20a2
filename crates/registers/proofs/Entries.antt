-- The numbers without a row, and the bytes at power-on, against the page, each by one computed comparison over the 256 numbers.
-- Assumes nothing.
use mathlib.Core.Path.{◌≡◌, refl, ap, ◌∙◌}
use mathlib.Core.Bool.{Bool, true, false, cond}
use mathlib.Core.List.{List, [], ◌∷◌}
use Prim.Native.Nat.{ℕ, zero, suc, ◌<◌, ◌≤◌}
use native.Mathlib.Omega.{arith}
use lib.Dec.{eqb, leb}
use borrow.Author.Tests.{le-leb, lt-leb}
use Rattle.laws.proofs.Arms.{keyed, Missed, missed}
use Rattle.laws.proofs.Tables.{agree}
use Rattle.std.specs.Prelude.{None}
use Rattle.registers.specs.declared.page.Access.TheVariants.{Neither}
use Rattle.registers.specs.Rows.{Told, by_page, by_row}
use Rattle.registers.specs.Page.{Default, every_variant, each, column, page, read_only_in, read_only_of}
use Rattle.registers.specs.Opened.{registers_opened}

-- ---- the numbers that have no row

-- the addresses of the rows of src/page.rt, each of its two parts from the last row to the first
abbrev close : List (List ℕ)
close =
    (0x21 ∷ []) ∷ (0x20 ∷ []) ∷ (0x19 ∷ []) ∷ (0x14 ∷ []) ∷ (0x13 ∷ []) ∷ (0x12 ∷ []) ∷ (0x11 ∷ []) ∷ (0x10 ∷ []) ∷ (0x0F ∷ []) ∷
    (0x08 ∷ 0x0E ∷ []) ∷ (0x07 ∷ 0x0D ∷ []) ∷ (0x06 ∷ 0x0C ∷ []) ∷ (0x05 ∷ 0x0B ∷ []) ∷ (0x04 ∷ 0x0A ∷ []) ∷ (0x03 ∷ 0x09 ∷ []) ∷
    (0x02 ∷ []) ∷ (0x01 ∷ []) ∷ (0x00 ∷ []) ∷ []

abbrev far : List (List ℕ)
far = (0xFF ∷ []) ∷ (0xFE ∷ []) ∷ (0xBF ∷ []) ∷ []

abbrev rowed : ℕ → Bool
rowed r = cond (leb r 0x21) (keyed close r) (keyed far r)

-- a row without access
abbrev bare : ℕ → Told
bare r = by_row r (record { access = Neither; place = None; kept = 0xFF })

-- by the page, too, a number without a row has no right, no position and every bit: one computed comparison over the 256 numbers
without_row : (r : ℕ) → r < 256 → rowed r ≡ false → bare r ≡ by_page r
unfolding registers_opened
without_row r h e = rw e at (agree (λ k. cond (rowed k) (by_page k) (bare k)) by_page 256 refl r h)

-- as the last arms of the two parts have it
pub without_close : (r : ℕ) → r < 256 → r ≤ 0x21 → Missed close r → bare r ≡ by_page r
without_close r h low m = without_row r h (rw (le-leb r 0x21 low, missed close r m))

pub without_far : (r : ℕ) → r < 256 → 0x21 < r → Missed far r → bare r ≡ by_page r
without_far r h high m = without_row r h (rw (lt-leb r 0x21 high, missed far r m))

-- ---- power-on

pub column_all : (v b : ℕ) → 1 ≤ v → v ≤ 3 → column v (every_variant b) ≡ b
column_all zero b lo hi = absurd (omega arith)
column_all (suc zero) b lo hi = refl
column_all (suc (suc zero)) b lo hi = refl
column_all (suc (suc (suc zero))) b lo hi = refl
column_all (suc (suc (suc (suc n)))) b lo hi = absurd (omega arith)

pub column_none : (v : ℕ) (d : Default) → eqb v 1 ≡ false → eqb v 2 ≡ false → eqb v 3 ≡ false → column v d ≡ 0
column_none v d a b c = rw (a, b, c)

pub column_zero : (v : ℕ) → column v (every_variant 0) ≡ 0
column_zero v = split (eqb v 1) (eqb v 2) (eqb v 3)
  where
    split : (a b c : Bool) → ◌≡◌ {A = ℕ} (cond a 0 (cond b 0 (cond c 0 0))) 0
    split true b c = refl
    split false true c = refl
    split false false true = refl
    split false false false = refl

-- a row of zeros is 0 in every column; the third argument is `refl`
pub zero_at : (v r : ℕ) → read_only_in r page ≡ every_variant 0 → read_only_of v r ≡ 0
unfolding read_only_of
zero_at v r e = ap (column v) e ∙ column_zero v

-- of the read-only registers only FE and FF start at another byte than 0
pub read_only_rows : (r : ℕ) → r < 256
    → read_only_in r page ≡ cond (eqb r 0xFE) (every_variant 0x01) (cond (eqb r 0xFF) (each 0x31 0x34 0x35) (every_variant 0))
read_only_rows =
    agree (λ r. read_only_in r page)
    (λ r. cond (eqb r 0xFE) (every_variant 0x01) (cond (eqb r 0xFF) (each 0x31 0x34 0x35) (every_variant 0))) 256 refl

pub read_only_else : (v r : ℕ) → r < 256 → eqb r 0xFE ≡ false → eqb r 0xFF ≡ false → read_only_of v r ≡ 0
read_only_else v r h a b =
    zero_at v r (read_only_rows r h ∙ choice (eqb r 0xFE) (eqb r 0xFF) a b)
  where
    choice : (s t : Bool) → s ≡ false → t ≡ false → cond s (every_variant 0x01) (cond t (each 0x31 0x34 0x35) (every_variant 0)) ≡ every_variant 0
    choice s t p q = rw (p, q)
