use Rattle.std.proofs.Common.{take}
use Rattle.writing.specs.Texts.{all_texts}
use Rattle.writing.specs.Wrote.{Wrote}
use Rattle.writing.proofs.put.Writer.records.Given as goal

-- the records so far were put
abbrev pub invariant-loop-record : goal.invariant-loop-record
invariant-loop-record g l = Wrote l.initial.self (all_texts g.R.Record.text (take l.record-index l.record-items)) l.self
