use Rattle.std.proofs.Common.{sym}
use Rattle.std.proofs.lemmas.List.{take_more}
use Rattle.writing.proofs.Laid.{wrote_then, wrote_as}
use Rattle.writing.proofs.put.Writer.word.Goals as goal

pub loop-byte-preserved : goal.loop-byte-preserved
loop-byte-preserved c =
    wrote_as (sym (take_more c.args.word.now c.loop-byte.byte-index 0 c.loop-byte-test.true)) (wrote_then c.loop-byte.invariant c.byte.ensures)
