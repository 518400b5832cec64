use Rattle.std.proofs.Common.{◌≡◌, take, vec_items}
use Rattle.expressions.specs.Fine.{Grows}
use Rattle.states.specs.Derive.{JoinedTo}
use Rattle.states.proofs.nullable.Expressions.joined_to.Given as goal

abbrev pub invariant-loop-derivative : goal.invariant-loop-derivative
invariant-loop-derivative l = record {
  rules : l.self.rules ≡ l.initial.self.rules;
  nodes : Grows (vec_items l.initial.self.nodes) (vec_items l.self.nodes);
  joined : JoinedTo (vec_items l.initial.self.nodes) (vec_items l.self.nodes) (take l.derivative-index l.derivatives) l.s (vec_items l.list);
}
