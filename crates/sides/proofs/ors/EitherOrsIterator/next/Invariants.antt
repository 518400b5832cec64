use Rattle.std.proofs.Common.{◌≡◌, length}
use Rattle.sides.specs.Left.{left_of}
use Rattle.sides.proofs.ors.EitherOrsIterator.next.Given as goal

abbrev pub invariant-loop-derivative : goal.invariant-loop-derivative
invariant-loop-derivative l = left_of l.initial.self ≡ left_of l.self

abbrev pub decreases-loop-derivative : goal.decreases-loop-derivative
decreases-loop-derivative l = length l.self.derivatives.now
