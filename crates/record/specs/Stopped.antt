-- Bytes that are no event's are not stepped: how a step refuses them.
-- Assumes nothing.
use Rattle.device.specs.declared.Refusal.{Refusal as Stopped}
use Rattle.device.specs.declared.Refusal.TheVariants as stopped
use Rattle.record.specs.declared.refusal.Refusal.{Refusal}
use Rattle.record.specs.declared.refusal.Refusal.TheVariants.{Kind, Operand}

abbrev pub stopped_of : Refusal → Stopped
stopped_of Kind = stopped.Kind
stopped_of Operand = stopped.Operand
