use borrow.Author.Rules.{rules}
use mathlib.Core.Path.{refl}
use Rattle.device.specs.Bus.{powered_of}
use Rattle.registers.proofs.Entries.{zero_at}
use Rattle.temperature.specs.Temperature.{eighths_of, degrees_of}
use Rattle.device.proofs.bus.powered.Goals as goal

pub returns : goal.returns
unfolding powered_of eighths_of degrees_of
returns c =
    let v = c.args.variant in
    rw (zero_at v 0x00 refl, zero_at v 0x01 refl, zero_at v 0x02 refl, zero_at v 0x10 refl) (search rules)
