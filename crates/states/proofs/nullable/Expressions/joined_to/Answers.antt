use Rattle.std.proofs.Common.{length, vec_items, ◌∙◌, refl, arith}
use Rattle.expressions.proofs.Fine.{grows_same, grows_on, grows_long}
use Rattle.states.proofs.Joins.{own_parts, joined_none, joined_more}
use Rattle.states.proofs.nullable.Expressions.joined_to.Goals as goal

pub loop-derivative-init : goal.loop-derivative-init
loop-derivative-init c =
    let nodes = vec_items c.args.self.now.nodes in
    record { rules = refl; nodes = grows_same nodes; joined = joined_none nodes c.args.s (vec_items c.new-list.result) c.new-list.ensures.items }

pub joined-requires : goal.joined-requires
joined-requires c =
    let old = vec_items c.args.self.now.nodes in
    let long = grows_long old (vec_items c.loop-derivative.self.nodes) c.loop-derivative.invariant.nodes in
    let own = own_parts (length old) c.args.derivatives.now c.loop-derivative.derivative-index c.requires.within c.loop-derivative-test.true in
    let rest = own.1 in
    let small = c.requires.s in
    record { rest = omega arith; s = omega arith }

pub loop-derivative-preserved : goal.loop-derivative-preserved
loop-derivative-preserved c =
    let old = vec_items c.args.self.now.nodes in
    let nodes = vec_items c.loop-derivative.self.nodes in
    let new = vec_items c.joined.new.self.nodes in
    let inv = c.loop-derivative.invariant in
    record {
      rules = c.joined.ensures.rules ∙ inv.rules;
      nodes = grows_on old nodes new inv.nodes c.joined.ensures.nodes;
      joined = joined_more old nodes new c.args.derivatives.now (vec_items c.loop-derivative.list) (vec_items c.push.new.self)
          c.loop-derivative.derivative-index c.args.s c.in_ok-tail.tail c.loop-derivative-test.true c.requires.within c.requires.s
          inv.nodes inv.joined c.joined.ensures.nodes c.in_ok-tail.ensures.value c.in_ok-push.ensures.items;
    }

pub returns-in_err-tail-clause-nodes : goal.returns-in_err-tail-clause-nodes
returns-in_err-tail-clause-nodes c =
    grows_on (vec_items c.args.self.now.nodes) (vec_items c.loop-derivative.self.nodes) (vec_items c.joined.new.self.nodes)
    c.loop-derivative.invariant.nodes c.joined.ensures.nodes

pub returns-in_err-push-clause-nodes : goal.returns-in_err-push-clause-nodes
returns-in_err-push-clause-nodes c =
    grows_on (vec_items c.args.self.now.nodes) (vec_items c.loop-derivative.self.nodes) (vec_items c.joined.new.self.nodes)
    c.loop-derivative.invariant.nodes c.joined.ensures.nodes
