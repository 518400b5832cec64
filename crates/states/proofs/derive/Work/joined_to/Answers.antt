use Rattle.std.proofs.Common.{length, sym, subst, ap, ◌∙◌}
use Rattle.expressions.specs.Derived.{part, AllIn}
use Rattle.states.specs.Derive.{nodes_of, found_of}
use Rattle.expressions.proofs.Fine.{grows_same}
use Rattle.states.proofs.Going.{part_in, listed_stays, known_stays}
use Rattle.states.proofs.derive.Work.joined_to.Goals as goal

pub joined_to-requires-clause-within : goal.joined_to-requires-clause-within
joined_to-requires-clause-within c =
    let w = c.args.self.now in
    let s = c.args.span in
    subst (AllIn (length (nodes_of w))) (sym (c.of-derivatives.ensures ∙ ap (λ l. part l s.from s.to) c.as_slice.ensures.value)) (part_in w s)

pub invariant_of-self : goal.invariant_of-self
invariant_of-self c =
    let w = c.args.self.now in
    let e = c.joined_to.new.self in
    record {
      listed = listed_stays w e c.joined_to.ensures.nodes;
      known = known_stays w e (found_of w) c.joined_to.ensures.rules c.joined_to.ensures.nodes (grows_same (found_of w));
    }

pub returns-clause-goes : goal.returns-clause-goes
returns-clause-goes c =
    record { rules = c.joined_to.ensures.rules; nodes = c.joined_to.ensures.nodes; found = grows_same (found_of c.args.self.now) }
