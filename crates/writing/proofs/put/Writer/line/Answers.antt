use Rattle.writing.proofs.Laid.{wrote_then}
use Rattle.writing.proofs.put.Writer.line.Goals as goal

pub returns : goal.returns
returns c = wrote_then c.word.ensures (wrote_then c.byte.ensures (wrote_then c.number.ensures (wrote_then c.numbers.ensures c.byte-2.ensures)))
