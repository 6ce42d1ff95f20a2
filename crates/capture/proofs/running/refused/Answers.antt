use Rattle.capture.proofs.Records.{same_code}
use Rattle.capture.proofs.running.refused.Goals as goal

pub returns : goal.returns
returns c = rw (c.report.ensures, c.from.ensures, c.hold.ensures, c.from-why.ensures, same_code _, c.unwrap_err.ensures)
