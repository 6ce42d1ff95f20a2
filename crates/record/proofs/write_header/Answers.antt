use mathlib.Core.Path.{sym, ◌∙◌}
use Rattle.record.specs.Writer.{header_of, count_bytes_of}
use Rattle.record.proofs.Writings.{header_refused, header_fits}
use Rattle.record.proofs.write_header.Goals as goal

pub returns-then-not-variant : goal.returns-then-not-variant
returns-then-not-variant c = header_refused _ _ _ (sym c.variant.ensures ∙ c.if-not-variant.true)

pub returns : goal.returns
unfolding header_of count_bytes_of
returns c = header_fits _ _ _ (sym c.variant.ensures ∙ c.if-not-variant.false) (rw c.header.ensures at c.put.ensures)
