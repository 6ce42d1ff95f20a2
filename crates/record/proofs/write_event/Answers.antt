use mathlib.Core.Path.{sym, ◌∙◌}
use Rattle.record.proofs.RoundTrip.{four_bytes}
use Rattle.record.proofs.Writings.{event_refused, event_fits}
use Rattle.record.proofs.write_event.Goals as goal

pub returns-then-not-operands : goal.returns-then-not-operands
returns-then-not-operands c = event_refused _ _ (sym c.operands.ensures ∙ c.if-not-operands.true)

pub returns : goal.returns
returns c =
    event_fits _ _ (sym c.operands.ensures ∙ c.if-not-operands.false) (rw (c.encode.ensures, four_bytes c.args.e) at c.put.ensures)
