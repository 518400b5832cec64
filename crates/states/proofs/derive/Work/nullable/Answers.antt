use Rattle.std.proofs.Common.{vec_items, sym, ap, subst}
use Rattle.expressions.specs.Fine.{Grows}
use Rattle.expressions.proofs.Fine.{grows_same}
use Rattle.states.specs.Derive.{nodes_of, found_of}
use Rattle.states.proofs.derive.Work.nullable.Goals as goal

pub returns-clause-goes : goal.returns-clause-goes
returns-clause-goes c = record {
  rules = c.nullable.ensures.kept.rules;
  nodes = subst (Grows (nodes_of c.args.self.now)) (ap (λ v. vec_items v) (sym c.nullable.ensures.kept.nodes)) (grows_same (nodes_of c.args.self.now));
  found = grows_same (found_of c.args.self.now);
}
