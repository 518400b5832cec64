use Rattle.std.proofs.Common.{take}
use Rattle.writing.specs.Wrote.{Wrote}
use Rattle.writing.proofs.put.Writer.word.Given as goal

-- the bytes so far were put
abbrev pub invariant-loop-byte : goal.invariant-loop-byte
invariant-loop-byte l = Wrote l.initial.self (take l.byte-index l.word) l.self
