use mathlib.Core.Path.{sym, ap, ◌∙◌}
use Rattle.record.specs.Record.{decode_of}
use Rattle.capture.proofs.Records.{waiting, ends_refused, ends_full}
use Rattle.capture.proofs.running.no_room.Goals as goal

pub returns-in_default : goal.returns-in_default
returns-in_default c = λ o input entry answers g l e n.
    let told = c.in_default.is in
    let w = waiting c.args.ahead.reader c.args.ahead.in_range c.requires in
    rw (c.refused.ensures, told)
    (ends_refused w g l _ (ap (decode_of _ _ _ _) e ∙ sym c.decode-decoded.ensures ∙ told))

pub returns : goal.returns
returns c = λ o input entry answers g l e n.
    let w = waiting c.args.ahead.reader c.args.ahead.in_range c.requires in
    rw (c.report.ensures, c.from.ensures)
    (ends_full w g l _ (ap (decode_of _ _ _ _) e ∙ sym c.decode-decoded.ensures ∙ c.in-Ok.is) n)
