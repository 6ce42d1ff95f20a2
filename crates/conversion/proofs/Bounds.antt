-- What a taken conversion leaves is in range, whatever it started from: the count is at most 3, and the live byte has D7 clear.
-- Assumes nothing.
use mathlib.Core.Bool.{Bool, true, false}
use Prim.Native.Nat.{ℕ, ◌^◌, ◌≤◌, ◌<◌, zero-le}
use native.Mathlib.Omega.{arith}
use lib.Dec.{lit<}
use lib.Bits.{or_lt}
use Rattle.conversion.specs.declared.Out.{Out}
use Rattle.conversion.specs.Conversion.{count_of, bit_of, live_of}

pub count_bound : (n : ℕ) (out : Bool) → count_of n out ≤ 3
unfolding count_of
count_bound n true = omega arith
count_bound n false = zero-le

-- a bit of a byte, on or off, is below whatever the bit is below
pub bit_bound : (on : Bool) (bit : ℕ) {limit : ℕ} → bit < limit → bit_of on bit < limit
bit_bound true bit h = h
bit_bound false bit h = omega arith

pub live_bound : (l r : Out) (broken : Bool) → live_of l r broken < 2 ^ 7
unfolding live_of
live_bound l r broken =
    or_lt 7 _ _ (or_lt 7 _ _ (or_lt 7 _ _ (or_lt 7 _ _ (or_lt 7 _ _ (or_lt 7 _ _
    (bit_bound l.high 0x40 (lit< tt)) (bit_bound l.low 0x20 (lit< tt))) (bit_bound r.high 0x10 (lit< tt)))
    (bit_bound r.low 0x08 (lit< tt))) (bit_bound broken 0x04 (lit< tt))) (bit_bound r.crit 0x02 (lit< tt)))
    (bit_bound l.crit 0x01 (lit< tt))
