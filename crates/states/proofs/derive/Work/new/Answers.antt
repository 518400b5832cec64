use Rattle.std.proofs.Common.{vec_items, sym, length, subst}
use Rattle.expressions.specs.Derived.{AllIn}
use Rattle.expressions.proofs.Ders.{all_none}
use Rattle.states.specs.Spans.{Finds}
use Rattle.states.proofs.Memos.{notes_none}
use Rattle.states.proofs.derive.Work.new.Goals as goal

pub invariant_of-result : goal.invariant_of-result
invariant_of-result c =
    let nodes = vec_items c.args.expressions.nodes in
    record {
      listed = subst (AllIn (length nodes)) (sym c.new-2.ensures.items) (all_none (length nodes));
      known = notes_none (Finds nodes (vec_items c.args.expressions.rules.bodies) (vec_items c.new-2.result)) 16896 _ c.in_ok-spans.ensures;
    }
