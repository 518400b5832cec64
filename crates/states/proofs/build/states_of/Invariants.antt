use Rattle.std.proofs.Common.{◌≡◌, ◌-◌, ◌≤◌, map, vec_items, vec_len}
use Rattle.model.specs.Machine.{plain}
use Rattle.expressions.specs.States.{total}
use Rattle.states.specs.Build.{SoFar}
use Rattle.states.proofs.build.states_of.Given as goal

abbrev pub invariant-loop-node : goal.invariant-loop-node
invariant-loop-node l = record {
  total : l.total ≡ total (map plain (vec_items l.states));
  within : vec_len l.states ≤ vec_len l.numbers;
  so_far : SoFar l.initial.work l.work (vec_items l.initial.numbers) (vec_items l.numbers) (map plain (vec_items l.states));
}

abbrev pub decreases-loop-node : goal.decreases-loop-node
decreases-loop-node l = 128 - vec_len l.states
