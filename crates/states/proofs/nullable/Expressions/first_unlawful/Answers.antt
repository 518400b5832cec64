use Rattle.std.proofs.Common.{◌≡◌, true, false, vec_items, sym, ◌∙◌, arith}
use Rattle.states.specs.Test.{passes}
use Rattle.states.proofs.Tests.{rules_more, not_passed, same_passes}
use Rattle.states.proofs.nullable.Expressions.first_unlawful.Goals as goal

pub returns-then-not-branch-clause-value : goal.returns-then-not-branch-clause-value
returns-then-not-branch-clause-value c =
    let old = c.args.self.now in
    let inv = c.loop-k.invariant in
    let told : false ≡ passes (vec_items old.nodes) (vec_items old.rules.bodies) c.loop-k.k =
    sym c.if-not-branch.true ∙ c.in_ok-is_lawful.ensures.value ∙ same_passes old c.loop-k.self c.loop-k.k inv.nodes inv.rules in
    (omega arith, inv.lawful, not_passed (vec_items old.nodes) (vec_items old.rules.bodies) c.loop-k.k told)

pub loop-k-preserved : goal.loop-k-preserved
loop-k-preserved c =
    let old = c.args.self.now in
    let inv = c.loop-k.invariant in
    let told : true ≡ passes (vec_items old.nodes) (vec_items old.rules.bodies) c.loop-k.k =
    sym c.if-not-branch.false ∙ c.in_ok-is_lawful.ensures.value ∙ same_passes old c.loop-k.self c.loop-k.k inv.nodes inv.rules in
    record {
      nodes = c.is_lawful.ensures.kept.nodes ∙ inv.nodes;
      rules = c.is_lawful.ensures.kept.rules ∙ inv.rules;
      lawful = rules_more (vec_items old.nodes) (vec_items old.rules.bodies) c.loop-k.k inv.lawful told;
    }
