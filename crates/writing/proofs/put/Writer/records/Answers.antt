use Rattle.std.proofs.Common.{sym}
use Rattle.writing.proofs.Laid.{wrote_then, wrote_as}
use Rattle.writing.proofs.Spelled.{texts_more}
use Rattle.writing.proofs.put.Writer.records.Goals as goal

pub loop-record-preserved : goal.loop-record-preserved
loop-record-preserved g c =
    wrote_as (sym (texts_more g.R.Record.text c.first-record-items.result.now c.loop-record.record-index c.record-item.result c.loop-record-test.true c.record-item.is))
    (wrote_then c.loop-record.invariant c.put.ensures)
