use Rattle.std.proofs.Common.{◌≡◌, length, vec_items, sym, refl, subst, ⊎_elim}
use Rattle.model.specs.declared.nodes.Node.{Node}
use Rattle.model.specs.declared.nodes.Node.TheVariants.{Nothing, Empty, Simple, Rule, Union, Seq}
use Rattle.theory.specs.Tree.{of_node}
use Rattle.expressions.specs.Numbers.{tree}
use Rattle.expressions.specs.Fine.{shown, PartsBelow, make}
use Rattle.expressions.proofs.Fine.{grows_same}
use Rattle.states.specs.Read.{Moved}
use Rattle.states.proofs.Reading.{as_node, moved_union, moved_seq, same_places}
use Rattle.states.proofs.places.Places.moved.Goals as goal

pub returns-in_ok-placed-in-Union-clause-node : goal.returns-in_ok-placed-in-Union-clause-node
returns-in_ok-placed-in-Union-clause-node c =
    let p = c.args.self.now in
    let mid = c.placed-in-Union.new.self in
    let new = c.placed-in-Union-2.new.self in
    as_node (vec_items p.nodes) (vec_items new.nodes)
    (Union c.in_ok-left-in-Union.left c.in_ok-placed-in-Union.field-0) c.args.node (Union c.in-Union.a c.in-Union.b)
    (shown (vec_items p.nodes) (vec_items p.places)) c.in-Union.is
    (moved_union (vec_items p.nodes) (vec_items mid.nodes) (vec_items new.nodes)
    (vec_items p.places) c.in-Union.a c.in-Union.b c.in_ok-left-in-Union.left c.in_ok-placed-in-Union.field-0
    p.below c.in_ok-left-in-Union.ensures.number
    (same_places p mid new c.in-Union.b c.in_ok-placed-in-Union.field-0 c.placed-in-Union.ensures.places c.in_ok-placed-in-Union.ensures.number))

pub returns-in_ok-placed-in-Seq-clause-node : goal.returns-in_ok-placed-in-Seq-clause-node
returns-in_ok-placed-in-Seq-clause-node c =
    let p = c.args.self.now in
    let mid = c.placed-in-Seq.new.self in
    let new = c.placed-in-Seq-2.new.self in
    as_node (vec_items p.nodes) (vec_items new.nodes)
    (Seq c.in_ok-left-in-Seq.left c.in_ok-placed-in-Seq.field-0) c.args.node (Seq c.in-Seq.a c.in-Seq.b)
    (shown (vec_items p.nodes) (vec_items p.places)) c.in-Seq.is
    (moved_seq (vec_items p.nodes) (vec_items mid.nodes) (vec_items new.nodes)
    (vec_items p.places) c.in-Seq.a c.in-Seq.b c.in_ok-left-in-Seq.left c.in_ok-placed-in-Seq.field-0
    p.below c.in_ok-left-in-Seq.ensures.number
    (same_places p mid new c.in-Seq.b c.in_ok-placed-in-Seq.field-0 c.placed-in-Seq.ensures.places c.in_ok-placed-in-Seq.ensures.number))

pub returns-in-Nothing-clause-node : goal.returns-in-Nothing-clause-node
returns-in-Nothing-clause-node c =
    let p = c.args.self.now in
    let nodes = vec_items p.nodes in
    let es = shown (vec_items p.nodes) (vec_items p.places) in
    let leaf : (n : Node) → c.args.node ≡ n → PartsBelow (length nodes) n → make (tree nodes) n ≡ of_node es n →
    Moved nodes nodes c.args.node (of_node es c.args.node) =
    λ n e parts m. subst (λ x. Moved nodes nodes x (of_node es x)) (sym e) (p.fine, grows_same nodes, parts, m) in
    ⊎_elim (λ e. leaf Nothing e tt refl) (⊎_elim (λ e. leaf Empty e tt refl)
    (⊎_elim (λ e. leaf (Simple e.0) e.1 tt refl) (λ e. leaf (Rule e.0) e.1 tt refl))) c.in-Nothing.is
