use Rattle.record.specs.Writer.{count_bytes_of, header_of}
use Rattle.record.proofs.header_2.Goals as goal

pub returns : goal.returns
unfolding header_of count_bytes_of
returns c = rw c.count_bytes-n.ensures
