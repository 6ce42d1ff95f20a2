-- P1 both ways: two bytes and their eighths determine each other. `bytes_back` and `eighths_back` are the sentences to quote:
-- every high byte with every low byte that is a multiple of 32 comes back from its eighths, and every reading on the scale
-- comes back from its two bytes.
-- Assumes nothing.
use mathlib.Core.Path.{◌≡◌, refl}
use mathlib.Core.Bool.{true}
use Prim.Native.Nat.{ℕ, ◌+◌, ◌*◌, ◌/◌, ◌%◌, ◌<◌}
use native.Mathlib.Omega.{arith}
use lib.IntN.{ℤ, pos, negsuc, neg_ℤ}
use lib.Signed.{le_z}
use borrow.Author.Tests.{leb-true}
use Rattle.temperature.specs.Temperature.{degrees_of, eighths_of, high_byte_of, low_byte_of}
use Rattle.laws.proofs.Tables.{agree}

-- the 2,048 pairs of bytes, counted by eighths
pairs_high : (n : ℕ) → n < 2048 → high_byte_of (eighths_of (n / 8) (n % 8 * 32)) ≡ n / 8
unfolding eighths_of degrees_of
pairs_high = agree (λ n. high_byte_of (eighths_of (n / 8) (n % 8 * 32))) (λ n. n / 8) 2048 refl

pairs_low : (n : ℕ) → n < 2048 → low_byte_of (eighths_of (n / 8) (n % 8 * 32)) ≡ n % 8 * 32
unfolding eighths_of degrees_of
pairs_low = agree (λ n. low_byte_of (eighths_of (n / 8) (n % 8 * 32))) (λ n. n % 8 * 32) 2048 refl

pub bytes_back : (high k : ℕ) → high < 0x100 → k < 8 → (high_byte_of (eighths_of high (k * 32)) ≡ high) × (low_byte_of (eighths_of high (k * 32)) ≡ k * 32)
bytes_back high k h j =
    let whole : (high * 8 + k) / 8 ≡ high = omega arith in
    let part : (high * 8 + k) % 8 ≡ k = omega arith in
    let below : high * 8 + k < 2048 = omega arith in
    (rw (whole, part) at (pairs_high (high * 8 + k) below), rw (whole, part) at (pairs_low (high * 8 + k) below))

-- the 1,024 readings at or above 0, and the 1,024 below
readings_up : (n : ℕ) → n < 1024 → eighths_of (high_byte_of (pos n)) (low_byte_of (pos n)) ≡ pos n
unfolding eighths_of degrees_of
readings_up = agree (λ n. eighths_of (high_byte_of (pos n)) (low_byte_of (pos n))) (λ n. pos n) 1024 refl

readings_down : (n : ℕ) → n < 1024 → eighths_of (high_byte_of (negsuc n)) (low_byte_of (negsuc n)) ≡ negsuc n
unfolding eighths_of degrees_of
readings_down = agree (λ n. eighths_of (high_byte_of (negsuc n)) (low_byte_of (negsuc n))) (λ n. negsuc n) 1024 refl

-- -1024 to 1023
pub eighths_back : (t : ℤ) → le_z (neg_ℤ (pos 1024)) t ≡ true → le_z t (pos 1023) ≡ true → eighths_of (high_byte_of t) (low_byte_of t) ≡ t
eighths_back (pos n) under over = readings_up n (omega (arith, leb-true n 1023 over))
eighths_back (negsuc n) under over = readings_down n (omega (arith, leb-true n 1023 under))
