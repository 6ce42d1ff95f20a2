use Rattle.record.specs.Writer.{count_bytes_of}
use Rattle.record.proofs.count_bytes.Goals as goal

pub returns : goal.returns
unfolding count_bytes_of
returns c = c.to_be_bytes.ensures
