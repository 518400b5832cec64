use Rattle.std.proofs.Common.{◌≡◌, vec_items, vec_len}
use Rattle.states.specs.Test.{Filled}
use Rattle.states.proofs.nullable.Expressions.is_lawful.Given as goal

abbrev pub invariant-loop : goal.invariant-loop
invariant-loop l = record {
  count : vec_len l.table ≡ l.counter;
  nodes : l.self.nodes ≡ l.initial.self.nodes;
  rules : l.self.rules ≡ l.initial.self.rules;
  filled : Filled (vec_items l.initial.self.nodes) (vec_items l.initial.self.rules.bodies) l.k (vec_items l.table);
}
