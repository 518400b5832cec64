use Rattle.std.proofs.Common.{◌≡◌, take, vec_items}
use Rattle.theory.specs.Tree.{trees}
use Rattle.expressions.specs.Fine.{shown}
use Rattle.states.proofs.places.Places.of_file.Given as goal

abbrev pub invariant-loop-node : goal.invariant-loop-node
invariant-loop-node l =
    shown (vec_items l.places.nodes) (vec_items l.places.places) ≡ trees (take l.node-index l.file)
