-- What a read of a register leaves: `read_ind`, case by case; `settable_read`, of a setting.
-- Assumes nothing.
use mathlib.Core.Path.{◌≡◌, refl, sym, ap, ◌∙◌}
use mathlib.Core.Bool.{Bool, true, false, not, ◌&&◌}
use Prim.Native.Nat.{ℕ}
use lib.Dec.{eqb}
use borrow.Author.Tests.{ne_eqb}
use Rattle.laws.proofs.Choices.{cond_ind, clash}
use Rattle.registers.specs.Bits.{has, alerting}
use Rattle.registers.specs.Page.{settable_of}
use Rattle.device.specs.declared.Device.{Device}
use Rattle.device.specs.Pins.{comparator_of}
use Rattle.device.specs.Bus.{masked_of, status_cleared_of, status_read_of, low_kept_of, low_let_go_of, after_read_of}

-- P6: a status read finds an alert, and sets the mask bit
abbrev pub finds : Device → Bool
finds d = not (comparator_of d) && has d.status alerting

-- what holds of a device with its low byte kept (01), with status cleared and the mask set or not (02), with its low byte let go (10), and of
-- the device itself, holds after the read
pub read_ind : (P : Device → Type 0) (d : Device) (r : ℕ)
    → (eqb r 0x01 ≡ true → P (low_kept_of d))
    → (eqb r 0x02 ≡ true → finds d ≡ false → P (status_cleared_of d))
    → (eqb r 0x02 ≡ true → finds d ≡ true → P (masked_of (status_cleared_of d)))
    → (eqb r 0x10 ≡ true → P (low_let_go_of d))
    → (eqb r 0x01 ≡ false → eqb r 0x02 ≡ false → eqb r 0x10 ≡ false → P d)
    → P (after_read_of d r)
unfolding after_read_of status_read_of
read_ind P d r kept cleared masked gone plain =
    cond_ind P (eqb r 0x01) kept
    (λ n01. cond_ind P (eqb r 0x02)
    (λ t. cond_ind P (finds d) (λ f. masked t f) (λ f. cleared t f))
    (λ n02. cond_ind P (eqb r 0x10) gone (λ n10. plain n01 n02 n10)))

-- none of the three is settable: a read of a setting leaves the device as it was
pub settable_read : (d : Device) (r : ℕ) → settable_of r ≡ true → after_read_of d r ≡ d
unfolding after_read_of settable_of
settable_read d r h = rw (apart 0x01 refl, apart 0x02 refl, apart 0x10 refl)
  where
    apart : (k : ℕ) → settable_of k ≡ false → eqb r k ≡ false
    apart k n = ne_eqb r k (λ e. clash (sym n ∙ ap settable_of (sym e) ∙ h))
