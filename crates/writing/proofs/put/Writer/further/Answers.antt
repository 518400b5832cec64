use Rattle.writing.proofs.Laid.{wrote_then}
use Rattle.writing.proofs.put.Writer.further.Goals as goal

pub returns : goal.returns
returns c = wrote_then c.byte.ensures c.number.ensures
