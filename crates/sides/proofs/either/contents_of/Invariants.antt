use Rattle.std.proofs.Common.{◌≡◌}
use Rattle.theory.specs.Inequality.{contents}
use Rattle.sides.proofs.either.contents_of.Given as goal

abbrev pub invariant-loop-number : goal.invariant-loop-number
invariant-loop-number l = l.set.bits ≡ contents l.pairs l.subset l.number
