-- Joining something to the rests of derivatives.
use Rattle.std.proofs.Common.{◌≡◌, ℕ, ◌+◌, ◌<◌, List, [], ◌∷◌, ◌++◌, map, length, get_or, take, IfOk, vec_items, Result, sym, ap, ◌∙◌, subst, ap₂, arith}
use Rattle.std.proofs.lemmas.List.{take_more, map_push}
use Rattle.model.specs.declared.nodes.Node.{Node}
use Rattle.model.specs.declared.nodes.Node.TheVariants.{Seq}
use Rattle.model.specs.Machine.{Derivative}
use Rattle.theory.specs.Language.{empty}
use Rattle.theory.specs.Derivative.{join}
use Rattle.meaning.specs.Functions as functions
use Rattle.meaning.proofs.Members.{member_at}
use Rattle.expressions.specs.Numbers.{tree}
use Rattle.expressions.specs.Records.{same_node}
use Rattle.expressions.specs.Fine.{Fine, Below, Grows}
use Rattle.expressions.specs.Derived.{as_trees, InBook, AllIn}
use Rattle.expressions.proofs.Fine.{grows_same, grows_on, grows_tree, grows_long, below_more}
use Rattle.expressions.proofs.Inject.{tree_once}
use Rattle.expressions.proofs.Ders.{all_none, all_one, all_append, all_grows, trees_grow, nulls_grow, join_other}
use Rattle.states.specs.declared.error.Limit.{Limit}
use Rattle.states.specs.declared.nullable.Expressions.{Expressions}
use Rattle.states.specs.Blank.{IsEmpty}
use Rattle.states.specs.Book.{Entered}
use Rattle.states.specs.Memo.{notes, Says, Sound}
use Rattle.states.specs.Read.{Numbered}
use Rattle.states.specs.Derive.{JoinedTo}
use Rattle.states.proofs.Memos.{notes_all}
use Rattle.states.proofs.Reading.{enter_made}

-- what is said of expressions stays as the book grows
pub within_stays : (e : Expressions) (after : List Node) → Grows (vec_items e.nodes) after → Below (length after) (vec_items e.rules.bodies)
within_stays e after g = below_more (vec_items e.nodes) after (vec_items e.rules.bodies) g e.within

pub blank_stays : (e : Expressions) (after : List Node) → Grows (vec_items e.nodes) after → IsEmpty after e.rules.empty
blank_stays e after g =
    let long = grows_long (vec_items e.nodes) after g in
    let p = e.blank.0 in
    (omega arith, grows_tree (vec_items e.nodes) after e.rules.empty g e.blank.0 ∙ e.blank.1)

pub sound_stays : (e : Expressions) (after : List Node) → Grows (vec_items e.nodes) after →
    Sound after (vec_items e.rules.bodies) (notes e.nulls)
sound_stays e after g =
    let old = vec_items e.nodes in
    let bodies = vec_items e.rules.bodies in
    let long = grows_long old after g in
    notes_all (Says old bodies) (Says after bodies) (notes e.nulls)
    (λ r i b p. (let q = p.0 in omega arith, nulls_grow old after bodies r i g e.within p.0 ∙ p.1)) e.sound

pub joined_same : (nodes : List Node) (e rest s : ℕ) → Fine nodes → IsEmpty nodes e → s < length nodes → rest ≡ e →
    Numbered nodes nodes s (join (tree nodes rest) (tree nodes s))
joined_same nodes e rest s fine blank lt is =
    (fine, grows_same nodes, lt, sym (ap (λ x. join x (tree nodes s)) (ap (tree nodes) is ∙ blank.1)))

pub joined_new : (nodes after : List Node) (e rest s : ℕ) (r : Result ℕ Limit) → Fine nodes → IsEmpty nodes e →
    rest < length nodes → s < length nodes → (rest ≡ e → ⊥) → Entered same_node 512 nodes (Seq rest s) r after →
    IfOk r (λ i. Numbered nodes after i (join (tree nodes rest) (tree nodes s)))
joined_new nodes after e rest s r fine blank p q ne entered_as =
    let other : tree nodes rest ≡ empty → ⊥ =
    λ is. ne (tree_once nodes rest e fine p blank.0 (is ∙ sym blank.1)) in
    subst (λ x. IfOk r (λ i. Numbered nodes after i x)) (sym (join_other (tree nodes rest) (tree nodes s) other))
    (enter_made nodes after (Seq rest s) r fine (p, q) entered_as)

-- the derivative at a number
pub own_parts : (n : ℕ) (ds : List Derivative) (k : ℕ) → AllIn n ds → k < length ds → InBook n (get_or ds k (0, 0, 0))
unfolding AllIn
own_parts n ds k ok lt =
    ok (get_or ds k (0, 0, 0)) (member_at ds k (0, 0, 0) lt)

pub joined_none : (nodes : List Node) (s : ℕ) (v : List Derivative) → v ≡ [] → JoinedTo nodes nodes [] s v
joined_none nodes s v e =
    (subst (AllIn (length nodes)) (sym e) (all_none (length nodes)), ap (map (as_trees nodes)) e)

-- one derivative more
pub joined_more : (old nodes new : List Node) (ds v after : List Derivative) (k s t : ℕ) → k < length ds →
    AllIn (length old) ds → s < length old → Grows old nodes → JoinedTo old nodes (take k ds) s v → Grows nodes new →
    Numbered nodes new t (join (tree nodes (get_or ds k (0, 0, 0)).2) (tree nodes s)) →
    after ≡ v ++ ((get_or ds k (0, 0, 0)).0, (get_or ds k (0, 0, 0)).1, t) ∷ [] →
    JoinedTo old new (take (k + 1) ds) s after
joined_more old nodes new ds v after k s t lt ok small grown inv more num pushed =
    let d = get_or ds k (0, 0, 0) in
    let own = own_parts (length old) ds k ok lt in
    let whole = grows_on old nodes new grown more in
    let long = grows_long old new whole in
    let content = own.0 in
    let join_to : functions.Derived → functions.Derived = functions.joined (tree old s) in
    let shown_as : as_trees new (d.0, d.1, t) ≡ join_to (as_trees old d) =
    ap₂ (λ a b. (d.0, a, b)) (grows_tree old new d.1 whole own.0)
    (num.3 ∙ ap₂ join (grows_tree old nodes d.2 grown own.1) (grows_tree old nodes s grown small)) in (
      subst (AllIn (length new)) (sym pushed)
          (all_append (length new) v ((d.0, d.1, t) ∷ []) (all_grows nodes new v more inv.0)
          (all_one (length new) (d.0, d.1, t) (omega arith, num.2))),
      ap (map (as_trees new)) pushed ∙ map_push (as_trees new) v (d.0, d.1, t)
          ∙ ap₂ (λ l y. l ++ y ∷ []) (trees_grow nodes new v more inv.0 ∙ inv.1) shown_as
          ∙ sym (ap (λ l. map join_to (map (as_trees old) l)) (take_more ds k (0, 0, 0) lt)
          ∙ ap (map join_to) (map_push (as_trees old) (take k ds) d)
          ∙ map_push join_to (map (as_trees old) (take k ds)) (as_trees old d)),
    )
