use Rattle.std.proofs.Common.{vec_items}
use Rattle.expressions.specs.Fine.{Grows}
use Rattle.states.specs.Read.{StandFor, mentions}
use Rattle.states.proofs.places.Places.mentions.Given as goal

abbrev pub invariant-loop-k : goal.invariant-loop-k
invariant-loop-k l = record {
  nodes : Grows (vec_items l.initial.self.nodes) (vec_items l.self.nodes);
  value : StandFor (vec_items l.self.nodes) (vec_items l.mentions) (mentions l.k);
}
