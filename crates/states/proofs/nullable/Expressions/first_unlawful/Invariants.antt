use Rattle.std.proofs.Common.{◌≡◌, vec_items}
use Rattle.theory.specs.Tree.{body_of}
use Rattle.theory.specs.Recursion.{LawfulRules}
use Rattle.states.proofs.nullable.Expressions.first_unlawful.Given as goal

abbrev pub invariant-loop-k : goal.invariant-loop-k
invariant-loop-k l = record {
  nodes : l.self.nodes ≡ l.initial.self.nodes;
  rules : l.self.rules ≡ l.initial.self.rules;
  lawful : LawfulRules (body_of (vec_items l.initial.self.nodes) (vec_items l.initial.self.rules.bodies)) l.k;
}
