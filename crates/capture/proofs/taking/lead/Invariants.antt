use Rattle.capture.proofs.Leads.{Leading}
use Rattle.capture.proofs.taking.lead.Given as goal

abbrev pub invariant-loop-at : goal.invariant-loop-at
invariant-loop-at l = Leading l.input l.initial.n l.initial.at l.n l.at
