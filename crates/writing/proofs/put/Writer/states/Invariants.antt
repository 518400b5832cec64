use Rattle.std.proofs.Common.{map, decimal}
use Rattle.writing.specs.Texts.{further, members}
use Rattle.writing.specs.Wrote.{Wrote}
use Rattle.writing.proofs.put.Writer.states.Given as goal

-- the states below q were put
abbrev pub invariant-loop-q : goal.invariant-loop-q
invariant-loop-q l = Wrote l.initial.self (further (map decimal (members l.q 0 l.set.bits))) l.self
