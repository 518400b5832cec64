use Rattle.std.proofs.Common.{length, vec_items, refl, arith}
use Rattle.expressions.proofs.Fine.{grows_same}
use Rattle.states.specs.Derive.{nodes_of, found_of}
use Rattle.states.proofs.Going.{kept_or_not, known_stays, kept_gives}
use Rattle.states.proofs.derive.Work.keep.Goals as goal

pub invariant_of-self : goal.invariant_of-self
invariant_of-self c =
    let w = c.args.self.now in
    let after = vec_items c.extend_from_slice.new.self in
    let held = kept_or_not (length (nodes_of w)) (found_of w) c.args.list.now after _ c.extend_from_slice.ensures.items w.listed c.requires in
    record { listed = held.0; known = known_stays w w.expressions after refl (grows_same (nodes_of w)) held.1 }

pub returns : goal.returns
returns c =
    let ok = c.args.self.now.found.ok.0 in
    let own = c.extend_from_slice.new.self.ok.0 in
    kept_gives c.args.self.now _ c.args.list.now _ refl c.in_ok-extend_from_slice.ensures.items (omega arith) (omega arith)
