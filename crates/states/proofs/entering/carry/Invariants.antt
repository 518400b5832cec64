use Rattle.std.proofs.Common.{◌≡◌, take, vec_items}
use Rattle.theory.specs.Count.{entered}
use Rattle.expressions.specs.Records.{same_derivative}
use Rattle.states.proofs.entering.carry.Given as goal

abbrev pub invariant-loop-derivative : goal.invariant-loop-derivative
invariant-loop-derivative l =
    vec_items l.list ≡ entered same_derivative (vec_items l.initial.list) (take l.derivative-index l.derivatives)
