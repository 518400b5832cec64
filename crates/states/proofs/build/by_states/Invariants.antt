use Rattle.std.proofs.Common.{take, vec_items}
use Rattle.states.specs.Build.{Named}
use Rattle.states.proofs.build.by_states.Given as goal

abbrev pub invariant-loop-derivative : goal.invariant-loop-derivative
invariant-loop-derivative l =
    Named (vec_items l.initial.numbers) (vec_items l.numbers) (take l.derivative-index l.found) (vec_items l.derivatives)
