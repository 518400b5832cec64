-- Equal expressions have equal numbers in a book.
use Rattle.std.proofs.Common.{◌≡◌, ℕ, zero, suc, ◌<◌, List, length, get_or, sym, refl, ap, ◌∙◌, ap₂, arith}
use Rattle.model.specs.declared.nodes.Node.{Node}
use Rattle.model.specs.declared.nodes.Node.TheVariants.{Nothing, Empty, Simple, Rule, Element, Union, Seq, Star}
use Rattle.theory.specs.Language.{Expr, none, empty, simple, rule, element, union, seq, star}
use Rattle.expressions.specs.Numbers.{tree}
use Rattle.book.specs.Place.{place}
use Rattle.expressions.specs.Records.{same_node}
use Rattle.expressions.specs.Fine.{PartsBelow, make, Founded, Distinct, Fine}
use Rattle.expressions.proofs.Fine.{tree_made}

-- the number of an expression in a book
abbrev pub number : List Node → Expr → ℕ
number nodes none = place same_node nodes Nothing
number nodes empty = place same_node nodes Empty
number nodes (simple n) = place same_node nodes (Simple n)
number nodes (rule k) = place same_node nodes (Rule k)
number nodes (element n c) = place same_node nodes (Element n (number nodes c))
number nodes (union a b) = place same_node nodes (Union (number nodes a) (number nodes b))
number nodes (seq a b) = place same_node nodes (Seq (number nodes a) (number nodes b))
number nodes (star a) = place same_node nodes (Star (number nodes a))

-- it is the number that it has
number_to : (nodes : List Node) (bound i : ℕ) → i < bound → Fine nodes → i < length nodes → number nodes (tree nodes i) ≡ i
unfolding Founded Distinct
number_to nodes zero i less fine lt = absurd (omega arith)
number_to nodes (suc bound) i less fine lt =
    ap (number nodes) (tree_made nodes i fine lt)
    ∙ go (get_or nodes i Nothing) (fine.1 i lt) (λ j small. number_to nodes bound j (omega arith) fine (omega arith))
    ∙ fine.2 i lt
  where
    go : (n : Node) → PartsBelow i n → ((j : ℕ) → j < i → number nodes (tree nodes j) ≡ j) →
        number nodes (make (tree nodes) n) ≡ place same_node nodes n
    go Nothing ok rec = refl
    go Empty ok rec = refl
    go (Simple n) ok rec = refl
    go (Rule k) ok rec = refl
    go (Element n c) ok rec = ap (λ m. place same_node nodes (Element n m)) (rec c ok)
    go (Union a b) ok rec = ap₂ (λ m o. place same_node nodes (Union m o)) (rec a ok.0) (rec b ok.1)
    go (Seq a b) ok rec = ap₂ (λ m o. place same_node nodes (Seq m o)) (rec a ok.0) (rec b ok.1)
    go (Star a) ok rec = ap (λ m. place same_node nodes (Star m)) (rec a ok)

pub number_tree : (nodes : List Node) (i : ℕ) → Fine nodes → i < length nodes → number nodes (tree nodes i) ≡ i
number_tree nodes i fine lt = number_to nodes (suc i) i (omega arith) fine lt

pub tree_once : (nodes : List Node) (i j : ℕ) → Fine nodes → i < length nodes → j < length nodes →
    tree nodes i ≡ tree nodes j → i ≡ j
tree_once nodes i j fine p q e = sym (number_tree nodes i fine p) ∙ ap (number nodes) e ∙ number_tree nodes j fine q
