use Rattle.writing.proofs.Laid.{wrote_then}
use Rattle.writing.proofs.put.Writer.page.Goals as goal

pub returns : goal.returns
returns c = wrote_then c.verdict.ensures (wrote_then c.line.ensures (wrote_then c.page_records.ensures c.line-2.ensures))
