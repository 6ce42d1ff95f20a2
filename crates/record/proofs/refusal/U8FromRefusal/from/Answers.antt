use Rattle.record.specs.Record.{code_of}
use Rattle.record.proofs.refusal.U8FromRefusal.from.Goals as goal

pub returns-in-Kind : goal.returns-in-Kind
unfolding code_of
returns-in-Kind c = rw c.in-Kind.is

pub returns-in-Operand : goal.returns-in-Operand
unfolding code_of
returns-in-Operand c = rw c.in-Operand.is
