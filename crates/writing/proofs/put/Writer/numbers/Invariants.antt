use Rattle.std.proofs.Common.{map, take, decimal}
use Rattle.writing.specs.Texts.{further}
use Rattle.writing.specs.Wrote.{Wrote}
use Rattle.writing.proofs.put.Writer.numbers.Given as goal

-- the numbers so far were put
abbrev pub invariant-loop-n : goal.invariant-loop-n
invariant-loop-n l = Wrote l.initial.self (further (map decimal (take l.n-index l.numbers))) l.self
