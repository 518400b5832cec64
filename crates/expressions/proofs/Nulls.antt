-- Nullability by numbers: what the program computes node by node.
use Rattle.std.proofs.Common.{◌≡◌, ℕ, ◌<◌, ◌≤◌, false, cond, ltb, List, length, get_or, sym, refl, ap, ◌∙◌, ⊎_elim, arith}
use Rattle.std.proofs.lemmas.Bool.{lt-ltb, le-ltb, cond-true, cond-false, cases_lt}
use Rattle.std.proofs.lemmas.List.{get_or_past}
use Rattle.model.specs.declared.nodes.Node.{Node}
use Rattle.model.specs.declared.nodes.Node.TheVariants.{Nothing, Empty, Simple, Rule, Element, Union, Seq, Star}
use Rattle.theory.specs.Language.{Expr}
use Rattle.theory.specs.Tree.{body_of}
use Rattle.meaning.specs.Functions.{nullable?, nulls_of, rule_null, grown}
use Rattle.meaning.proofs.Rules.{grown_at, grown_length}
use Rattle.expressions.specs.Numbers.{built, null_at, null_node}
use Rattle.expressions.proofs.Trees.{tree_built, tree_past, body_tree}

-- a mention of a rule below r is followed into its body, any other is not nullable
nulls_follow : (bodies : ℕ → Expr) (r k : ℕ) →
    nulls_of bodies r k ≡ cond (ltb k r) (nullable? (nulls_of bodies k) (bodies k)) false
unfolding nulls_of
nulls_follow bodies r k = ⊎_elim
    (λ (lt : k < r). grown_at (rule_null bodies) r k false lt ∙ sym (cond-true _ _ _ (lt-ltb k r lt)))
    (λ (le : r ≤ k). get_or_past (grown (rule_null bodies) r) k false (omega (arith, grown_length (rule_null bodies) r))
    ∙ sym (cond-false _ _ _ (le-ltb k r le)))
    (cases_lt k r)

pub null_past : (nodes : List Node) (bodies : List ℕ) (r i : ℕ) → length nodes ≤ i →
    null_at nodes bodies r i ≡ false
unfolding null_at
null_past nodes bodies r i le = ap (nullable? (nulls_of (body_of nodes bodies) r)) (tree_past nodes i le)

pub null_step : (nodes : List Node) (bodies : List ℕ) (r i : ℕ) → i < length nodes → length nodes ≤ 512 →
    null_at nodes bodies r i ≡ null_node nodes bodies r i (get_or nodes i Nothing)
unfolding null_at
null_step nodes bodies r i lt small =
    ap (nullable? (nulls_of (body_of nodes bodies) r)) (tree_built nodes i lt small) ∙ go (get_or nodes i Nothing)
  where
    go : (n : Node) → nullable? (nulls_of (body_of nodes bodies) r) (built nodes i n) ≡ null_node nodes bodies r i n
    go Nothing = refl
    go Empty = refl
    go (Simple n) = refl
    go (Rule k) = nulls_follow (body_of nodes bodies) r k
        ∙ ap (λ e. cond (ltb k r) (nullable? (nulls_of (body_of nodes bodies) k) e) false) (sym (body_tree nodes bodies k small))
    go (Element n c) = refl
    go (Union a b) = refl
    go (Seq a b) = refl
    go (Star a) = refl
