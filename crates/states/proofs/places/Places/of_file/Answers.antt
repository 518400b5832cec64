use Rattle.std.proofs.Common.{◌∷◌, ◌++◌, ◌≤◌, [], length, get_or, vec_items, sym, ap, ap₂, ◌∙◌, subst, arith}
use Rattle.std.proofs.lemmas.List.{take_all}
use Rattle.model.specs.declared.nodes.Node.TheVariants.{Nothing}
use Rattle.theory.specs.Tree.{trees, of_node}
use Rattle.expressions.specs.Fine.{Fine, Below, shown}
use Rattle.expressions.proofs.Shown.{below_none, trees_more}
use Rattle.states.proofs.Reading.{fine_none, stand_none}
use Rattle.states.proofs.places.Places.of_file.Goals as goal

pub invariant_of-places : goal.invariant_of-places
invariant_of-places c = record {
  fine = subst Fine (sym c.new.ensures.items) fine_none;
  below = subst (Below (length (vec_items c.new.result))) (sym c.new-2.ensures.items) (below_none (length (vec_items c.new.result)));
}

pub loop-node-init : goal.loop-node-init
loop-node-init c = ap₂ shown c.new.ensures.items c.new-2.ensures.items ∙ (stand_none [] fine_none).2

pub loop-node-preserved : goal.loop-node-preserved
loop-node-preserved c =
    let file = c.args.file.now in
    let k = c.loop-node.node-index in
    c.in_ok-place.ensures
    ∙ ap (λ l. l ++ of_node l (get_or file k Nothing) ∷ []) c.loop-node.invariant
    ∙ sym (trees_more file k c.loop-node-test.true)

pub returns : goal.returns
returns c =
    let past : length c.args.file.now ≤ c.loop-node.node-index = omega arith in
    c.loop-node.invariant ∙ ap trees (take_all c.loop-node.node-index c.args.file.now past)
