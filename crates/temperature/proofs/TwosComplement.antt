-- P1 for every byte: `degrees_signed`, D7 of a byte counts -128 and the other seven bits as they stand; `eighths_signed`, D7 of the high byte
-- counts -1024 eighths, its other bits 8 each, and D7, D6 and D5 of the low byte 4, 2 and 1; its other bits count nothing.
-- Assumes nothing.
use mathlib.Core.Path.{◌≡◌, refl, ap, ◌∙◌}
use Prim.Native.Nat.{ℕ, ◌+◌, ◌*◌, ◌/◌, ◌%◌, ◌<◌}
use lib.IntN.{ℤ, pos, ◌+ℤ◌, ◌-ℤ◌, ◌*ℤ◌}
use Rattle.laws.proofs.Tables.{agree}
use Rattle.temperature.specs.Temperature.{degrees_of, eighths_of}

pub degrees_signed : (b : ℕ) → b < 0x100 → degrees_of b ≡ pos (b % 0x80) -ℤ pos (b / 0x80 * 0x80)
unfolding degrees_of
degrees_signed = agree degrees_of (λ b. pos (b % 0x80) -ℤ pos (b / 0x80 * 0x80)) 0x100 refl

-- the three bits of a low byte
top_three : (b : ℕ) → b < 0x100 → b / 32 ≡ b / 0x80 * 4 + b / 0x40 % 2 * 2 + b / 0x20 % 2
top_three = agree (λ b. b / 32) (λ b. b / 0x80 * 4 + b / 0x40 % 2 * 2 + b / 0x20 % 2) 0x100 refl

pub eighths_signed : (high low : ℕ) → high < 0x100 → low < 0x100
    → eighths_of high low ≡ (pos (high % 0x80) -ℤ pos (high / 0x80 * 0x80)) *ℤ pos 8 +ℤ pos (low / 0x80 * 4 + low / 0x40 % 2 * 2 + low / 0x20 % 2)
unfolding eighths_of
eighths_signed high low h k =
    ap (λ (degrees : ℤ). degrees *ℤ pos 8 +ℤ pos (low / 32)) (degrees_signed high h)
    ∙ ap (λ (part : ℕ). (pos (high % 0x80) -ℤ pos (high / 0x80 * 0x80)) *ℤ pos 8 +ℤ pos part) (top_three low k)
