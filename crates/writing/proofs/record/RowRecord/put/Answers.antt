use Rattle.writing.proofs.Laid.{wrote_then}
use Rattle.writing.proofs.record.RowRecord.put.Goals as goal

pub returns : goal.returns
returns c = wrote_then c.word.ensures (wrote_then c.number.ensures (wrote_then c.states.ensures c.byte.ensures))
