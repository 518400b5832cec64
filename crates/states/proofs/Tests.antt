-- The test of lawful recursion, step by step over the table of ways.
use Rattle.std.proofs.Common.{◌≡◌, ℕ, ◌+◌, ◌<◌, ◌≤◌, Bool, true, false, not, List, [], ◌∷◌, ◌++◌, length, get_or, sym, refl, ap, ◌∙◌, vec_items, subst, ap₂, ⊎_elim, arith}
use Rattle.std.proofs.lemmas.List.{get_or_past, get_or_append_left, get_or_default, get_or_push, length_push}
use Rattle.std.proofs.lemmas.Bool.{cases_lt, cases_eq, lt-ltb, le-ltb, cond-true, cond-false, not-true, not-false}
use Rattle.model.specs.declared.nodes.Node.{Node}
use Rattle.model.specs.declared.nodes.Node.TheVariants.{Nothing, Empty, Simple, Rule, Element, Union, Seq, Star}
use Rattle.theory.specs.Language.{Expr}
use Rattle.theory.specs.Tree.{body_of}
use Rattle.theory.specs.Recursion.{LawfulRule, LawfulRules}
use Rattle.meaning.specs.Functions.{nullable?, nulls_of}
use Rattle.expressions.specs.Numbers.{earlier, body_at, tree, built, null_at}
use Rattle.expressions.specs.Ways.{bent, guarded, open?}
use Rattle.expressions.proofs.Trees.{tree_built, tree_past, body_tree}
use Rattle.expressions.proofs.Lawful.{accepted, refused}
use Rattle.states.specs.declared.grammar.Rules.{Rules}
use Rattle.states.specs.declared.nullable.Expressions.{Expressions}
use Rattle.states.specs.declared.recursion.Ways.{Ways}
use Rattle.states.specs.Test.{no_ways, either_ways, turn_ways, bent_ways, ways_from, ways_node, Filled, passes}

-- the ways from an expression on
ways_of_tree : List Node → List ℕ → ℕ → Expr → Ways
ways_of_tree nodes bodies k e = record {
  free = open? k (nullable? (nulls_of (body_of nodes bodies) k)) e;
  guarded = guarded k e;
  bent = bent k e;
}

pub ways_step : (nodes : List Node) (bodies : List ℕ) (k i : ℕ) → i < length nodes → length nodes ≤ 512 →
    ways_from nodes bodies k i ≡ ways_node nodes bodies k i (get_or nodes i Nothing)
unfolding ways_from ways_of_tree null_at
ways_step nodes bodies k i lt small =
    ap (ways_of_tree nodes bodies k) (tree_built nodes i lt small) ∙ go (get_or nodes i Nothing)
  where
    go : (n : Node) → ways_of_tree nodes bodies k (built nodes i n) ≡ ways_node nodes bodies k i n
    go Nothing = refl
    go Empty = refl
    go (Simple n) = refl
    go (Rule j) = refl
    go (Element n c) = refl
    go (Union a b) = refl
    go (Seq a b) = refl
    go (Star a) = refl

ways_past : (nodes : List Node) (bodies : List ℕ) (k i : ℕ) → length nodes ≤ i → ways_from nodes bodies k i ≡ no_ways
unfolding ways_from ways_of_tree
ways_past nodes bodies k i le = ap (ways_of_tree nodes bodies k) (tree_past nodes i le)

-- a part of the next node by the table
pub part_ways : (nodes : List Node) (bodies : List ℕ) (k : ℕ) (table : List Ways) (c : ℕ) → length nodes ≤ 512 →
    Filled nodes bodies k table → get_or table c no_ways ≡ ways_from nodes bodies k (earlier (length table) c)
unfolding Filled
part_ways nodes bodies k table c small ok = ⊎_elim
    (λ (lt : c < length table). ok c lt
    ∙ ap (ways_from nodes bodies k) (sym (cond-true _ _ _ (lt-ltb c (length table) lt))))
    (λ (le : length table ≤ c). get_or_past table c no_ways le ∙ sym (ways_past nodes bodies k 512 small)
    ∙ ap (ways_from nodes bodies k) (sym (cond-false _ _ _ (le-ltb c (length table) le))))
    (cases_lt c (length table))

pub filled_none : (nodes : List Node) (bodies : List ℕ) (k : ℕ) → Filled nodes bodies k []
unfolding Filled
filled_none nodes bodies k i lt = absurd (omega arith)

pub filled_more : (nodes : List Node) (bodies : List ℕ) (k : ℕ) (table : List Ways) (w : Ways) →
    Filled nodes bodies k table → w ≡ ways_from nodes bodies k (length table) → Filled nodes bodies k (table ++ w ∷ [])
unfolding Filled
filled_more nodes bodies k table w ok is i lt = ⊎_elim
    (λ (less : i < length table). get_or_append_left table (w ∷ []) no_ways i less ∙ ok i less)
    (λ (le : length table ≤ i).
    let at : length table ≡ i = omega (arith, length_push table w) in
    get_or_push table w no_ways i at ∙ is ∙ ap (ways_from nodes bodies k) at)
    (cases_lt i (length table))

-- what the whole table tells of the rule
pub table_tells : (nodes : List Node) (bodies : List ℕ) (k : ℕ) (table : List Ways) → length nodes ≤ 512 →
    length nodes ≤ length table → Filled nodes bodies k table →
    not (get_or table (body_at bodies k) no_ways).free ≡ passes nodes bodies k
unfolding passes ways_from ways_of_tree Filled
table_tells nodes bodies k table small whole ok =
    ap (λ (w : Ways). not w.free) here
    ∙ ap (λ e. not (open? k (nullable? (nulls_of (body_of nodes bodies) k)) e)) (body_tree nodes bodies k small)
  where
    here : get_or table (body_at bodies k) no_ways ≡ ways_of_tree nodes bodies k (tree nodes (body_at bodies k))
    here = ⊎_elim
        (λ (lt : body_at bodies k < length table). ok (body_at bodies k) lt)
        (λ (le : length table ≤ body_at bodies k). get_or_past table (body_at bodies k) no_ways le
        ∙ sym (ways_past nodes bodies k (body_at bodies k) (omega arith)))
        (cases_lt (body_at bodies k) (length table))

-- one rule more
pub rules_more : (nodes : List Node) (bodies : List ℕ) (k : ℕ) → LawfulRules (body_of nodes bodies) k →
    true ≡ passes nodes bodies k → LawfulRules (body_of nodes bodies) (k + 1)
unfolding passes
rules_more nodes bodies k lawful e j lt = ⊎_elim
    (λ (same : j ≡ k). subst (LawfulRule (body_of nodes bodies)) (sym same)
    (accepted (body_of nodes bodies) k lawful (not-true _ (sym e))))
    (λ (other : j ≡ k → ⊥). lawful j (omega arith))
    (cases_eq j k)

pub not_passed : (nodes : List Node) (bodies : List ℕ) (k : ℕ) → false ≡ passes nodes bodies k →
    LawfulRule (body_of nodes bodies) k → ⊥
unfolding passes
not_passed nodes bodies k e lawful = refused (body_of nodes bodies) k (not-false _ (sym e)) lawful

-- the ways of the next node, computed by what it is
pub next_ways : (e : Expressions) (k : ℕ) (table : List Ways) (node n : Node) (w : Ways) →
    length table < length (vec_items e.nodes) → node ≡ get_or (vec_items e.nodes) (length table) node → node ≡ n →
    w ≡ ways_node (vec_items e.nodes) (vec_items e.rules.bodies) k (length table) n →
    w ≡ ways_from (vec_items e.nodes) (vec_items e.rules.bodies) k (length table)
next_ways e k table node n w lt at is own =
    own ∙ ap (ways_node (vec_items e.nodes) (vec_items e.rules.bodies) k (length table))
    (sym is ∙ at ∙ get_or_default (vec_items e.nodes) (length table) node Nothing lt)
    ∙ sym (ways_step (vec_items e.nodes) (vec_items e.rules.bodies) k (length table) lt e.fine.0)

pub union_ways : (nodes : List Node) (bodies : List ℕ) (k : ℕ) (table : List Ways) (a b : ℕ) (x y w : Ways) →
    length nodes ≤ 512 → Filled nodes bodies k table → x ≡ get_or table a no_ways → y ≡ get_or table b no_ways →
    w ≡ either_ways x y → w ≡ ways_node nodes bodies k (length table) (Union a b)
union_ways nodes bodies k table a b x y w small ok p q e =
    e ∙ ap (λ z. either_ways z y) (p ∙ part_ways nodes bodies k table a small ok)
    ∙ ap (either_ways (ways_from nodes bodies k (earlier (length table) a))) (q ∙ part_ways nodes bodies k table b small ok)

pub seq_ways : (nodes : List Node) (bodies : List ℕ) (k : ℕ) (table : List Ways) (a b m : ℕ) (x y w : Ways) (t : Bool) →
    length nodes ≤ 512 → Filled nodes bodies k table → x ≡ get_or table a no_ways → y ≡ get_or table b no_ways →
    m ≡ earlier (length table) a → t ≡ null_at nodes bodies k m →
    w ≡ turn_ways x y t → w ≡ ways_node nodes bodies k (length table) (Seq a b)
seq_ways nodes bodies k table a b m x y w t small ok p q is null e =
    e ∙ ap (λ z. turn_ways z y t) (p ∙ part_ways nodes bodies k table a small ok)
    ∙ ap (λ z. turn_ways (ways_from nodes bodies k (earlier (length table) a)) z t) (q ∙ part_ways nodes bodies k table b small ok)
    ∙ ap (turn_ways (ways_from nodes bodies k (earlier (length table) a)) (ways_from nodes bodies k (earlier (length table) b)))
    (null ∙ ap (null_at nodes bodies k) is)

pub star_ways : (nodes : List Node) (bodies : List ℕ) (k : ℕ) (table : List Ways) (a : ℕ) (x w : Ways) →
    length nodes ≤ 512 → Filled nodes bodies k table → x ≡ get_or table a no_ways → w ≡ bent_ways x →
    w ≡ ways_node nodes bodies k (length table) (Star a)
star_ways nodes bodies k table a x w small ok p e = e ∙ ap bent_ways (p ∙ part_ways nodes bodies k table a small ok)

-- a table is filled, and a rule passes, where book and rules are the same
pub filled_same : (old new : Expressions) (k : ℕ) (table : List Ways) → new.nodes ≡ old.nodes → new.rules ≡ old.rules →
    Filled (vec_items old.nodes) (vec_items old.rules.bodies) k table → Filled (vec_items new.nodes) (vec_items new.rules.bodies) k table
filled_same old new k table p q ok =
    subst (λ n. Filled (vec_items n) (vec_items new.rules.bodies) k table) (sym p)
    (subst (λ (u : Rules). Filled (vec_items old.nodes) (vec_items u.bodies) k table) (sym q) ok)

pub same_ways : (old new : Expressions) (k i : ℕ) → new.nodes ≡ old.nodes → new.rules ≡ old.rules →
    ways_from (vec_items new.nodes) (vec_items new.rules.bodies) k i ≡ ways_from (vec_items old.nodes) (vec_items old.rules.bodies) k i
same_ways old new k i p q = ap₂ (λ n (u : Rules). ways_from (vec_items n) (vec_items u.bodies) k i) p q

pub same_passes : (old new : Expressions) (k : ℕ) → new.nodes ≡ old.nodes → new.rules ≡ old.rules →
    passes (vec_items new.nodes) (vec_items new.rules.bodies) k ≡ passes (vec_items old.nodes) (vec_items old.rules.bodies) k
same_passes old new k p q = ap₂ (λ n (u : Rules). passes (vec_items n) (vec_items u.bodies) k) p q
