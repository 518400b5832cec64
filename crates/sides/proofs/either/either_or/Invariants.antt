use Rattle.std.proofs.Common.{◌≡◌}
use Rattle.theory.specs.Inequality.{contents, rests}
use Rattle.sides.proofs.either.either_or.Given as goal

abbrev pub invariant-loop-i : goal.invariant-loop-i
invariant-loop-i l = record {
  inside : l.contents.bits ≡ contents l.pairs l.subset l.i;
  outside : l.rests.bits ≡ rests l.pairs l.subset l.i;
}
