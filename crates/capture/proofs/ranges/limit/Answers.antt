use Prim.Native.Nat.{ℕ, ◌^◌, ◌<◌, min}
use mathlib.Core.Path.{◌≡◌, ◌∙◌}
use native.Mathlib.Omega.{arith}
use Rattle.capture.proofs.Limits.{limit_all}
use Rattle.capture.proofs.ranges.limit.Goals as goal

fits : (k n : ℕ) → n ≡ min k 4 → 256 ^ n < 18446744073709551616
fits k n e = rw e (omega (arith, limit_all k))

pub pow-requires : goal.pow-requires
pow-requires c = fits c.saturating_sub.result c.from.result (c.from.ensures ∙ c.min.ensures)
