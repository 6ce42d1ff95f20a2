-- 256 to the power of the count bytes taken: `limit_next`, one more byte keeps the record count below it; and it is at most 256 to the power 4.
-- Assumes nothing.
use Prim.Native.Nat.{ℕ, zero, suc, ◌+◌, ◌*◌, min, ◌≤◌, ◌<◌}
use mathlib.Core.Path.{◌≡◌}
use native.Mathlib.Omega.{arith}
use native.Mathlib.Decide.{dec_lt}
use Rattle.capture.specs.Reader.{limit_of}

-- a number of count bytes, fewer than four
by_taken : (P : ℕ → Type 0) → P 0 → P 1 → P 2 → P 3 → (k : ℕ) → k < 4 → P k
by_taken P a b c d zero l = a
by_taken P a b c d (suc zero) l = b
by_taken P a b c d (suc (suc zero)) l = c
by_taken P a b c d (suc (suc (suc zero))) l = d
by_taken P a b c d (suc (suc (suc (suc k)))) l = absurd (omega arith)

pub limit_small : (k : ℕ) → k < 4 → limit_of k ≤ 0x1000000
limit_small = by_taken (λ k. limit_of k ≤ 0x1000000) (omega arith) (omega arith) (omega arith) (omega arith)

pub limit_all : (k : ℕ) → limit_of k ≤ 0x100000000
limit_all k = split (dec_lt k 4)
  where
    split : Dec (k < 4) → limit_of k ≤ 0x100000000
    split (yes l) = omega (arith, limit_small k l)
    split (no l) = let most : min k 4 ≡ 4 = omega arith in rw most (omega arith)

pub limit_next : (k : ℕ) → k < 4 → (n b : ℕ) → n < limit_of k → b < 256 → n * 256 + b < limit_of (k + 1)
limit_next =
    by_taken (λ k. (n b : ℕ) → n < limit_of k → b < 256 → n * 256 + b < limit_of (k + 1))
    (λ n b l m. omega arith) (λ n b l m. omega arith) (λ n b l m. omega arith) (λ n b l m. omega arith)
