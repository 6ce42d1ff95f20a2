-- P1 to P3, request b, and P8's comparison with limit minus hysteresis: temperatures, limits and offsets. A number of eighths of a degree is called t,
-- a sum or a limit; bytes are as they stand in the registers. `pos n` is n, `neg_ℤ (pos n)` is -n, and `negsuc n` is -(n + 1).
-- Assumes nothing.
use Rattle.std.specs.Prelude.{ℕ, suc, ◌-◌, ◌*◌, ◌/◌, ◌%◌, Bool, true, false, cond, ℤ, pos, negsuc, neg_ℤ, ◌+ℤ◌, ◌-ℤ◌, ◌*ℤ◌, ltb}
use Rattle.std.specs.Int.Signed.{lt_z}
use Rattle.temperature.specs.declared.Reading.{Reading}

-- ---- P1: two's complement

-- a byte in degrees
unfoldable pub degrees_of : ℕ → ℤ
degrees_of b = cond (ltb b 0x80) (pos b) (pos b -ℤ pos 0x100)

-- high byte and top three bits of the low byte, in eighths
unfoldable pub eighths_of : ℕ → ℕ → ℤ
eighths_of high low = degrees_of high *ℤ pos 8 +ℤ pos (low / 32)

-- the other way: the sixteen bits of a number
abbrev pub word_of : ℤ → ℕ
word_of (pos n) = n
word_of (negsuc n) = 0x10000 - suc n

-- the eight bits above the eighths
abbrev pub high_byte_of : ℤ → ℕ
high_byte_of t = word_of t / 8 % 0x100

-- the three bits of the eighths, at the top of a byte
abbrev pub low_byte_of : ℤ → ℕ
low_byte_of t = word_of t % 8 * 32

-- ---- P2: the remote reading

-- sample plus offset, not yet held
unfoldable pub sum_of : ℕ → ℕ → ℕ → ℕ → ℤ
sum_of high low offset_high offset_low = eighths_of high low +ℤ eighths_of offset_high offset_low

-- held to -1024..1023; request b: the reading also tells whether it was held at either end, which a sum of exactly 1023 or -1024 is not
unfoldable pub held_of : ℤ → Reading
held_of sum =
    cond (lt_z (pos 1023) sum) (record { eighths = pos 1023; held = true })
    (cond (lt_z sum (neg_ℤ (pos 1024))) (record { eighths = neg_ℤ (pos 1024); held = true })
    (record { eighths = sum; held = false }))

abbrev pub held_sum_of : ℕ → ℕ → ℕ → ℕ → Reading
held_sum_of high low offset_high offset_low = held_of (sum_of high low offset_high offset_low)

-- an open diode gives 127 degrees with no offset; request b: it is never held
abbrev pub open_reading : Reading
open_reading = record { eighths = pos 1016; held = false }

-- ---- P3: out of limits

-- strictly above a high limit or T_CRIT
abbrev pub above_of : ℤ → ℤ → Bool
above_of t limit = lt_z limit t

-- strictly below a low limit
abbrev pub below_of : ℤ → ℤ → Bool
below_of t limit = lt_z t limit

-- ---- P8: where a latch clears

-- strictly below T_CRIT minus hysteresis, bytes in degrees, hysteresis unsigned; the difference goes below -128 with no wrap
unfoldable pub cleared_of : ℤ → ℕ → ℕ → Bool
cleared_of t crit hysteresis = below_of t (eighths_of crit 0 -ℤ pos (hysteresis * 8))
