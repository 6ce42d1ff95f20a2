use native.Mathlib.Omega.{arith}
use Rattle.registers.proofs.Settings.{address_below}
use Rattle.device.proofs.bus.respond.Goals as goal

pub overflow_mul-address : goal.overflow_mul-address
overflow_mul-address c = rw c.address.ensures (omega (arith, address_below c.args.d.variant))

pub overflow_add-address : goal.overflow_add-address
overflow_add-address c = rw c.address.ensures (omega (arith, address_below c.args.d.variant))
