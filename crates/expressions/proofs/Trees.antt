-- The expression of a number, from the node that has it and from earlier expressions.
use Rattle.std.proofs.Common.{◌≡◌, ℕ, zero, suc, ◌+◌, ◌<◌, ◌≤◌, List, [], ◌∷◌, ◌++◌, map, length, get_or, take, sym, refl, ap, ◌∙◌, ap₂, ⊎_elim, append_assoc, append-nil, add-zero, arith}
use Rattle.std.proofs.lemmas.List.{length_push, get_or-take, get_or_past, get_or_append_left, length-append, take-append-le, take_at, get_or_at, get_or-map, length-map}
use Rattle.std.proofs.lemmas.Bool.{lt-ltb, le-ltb, cond-true, cond-false, cases_lt}
use Rattle.model.specs.declared.nodes.Node.{Node}
use Rattle.model.specs.declared.nodes.Node.TheVariants.{Nothing, Empty, Simple, Rule, Element, Union, Seq, Star}
use Rattle.theory.specs.Language.{Expr, none, element, union, seq, star}
use Rattle.theory.specs.Tree.{of_node, growing, trees, body_of}
use Rattle.expressions.specs.Numbers.{earlier, body_at, tree, built}

pub growing_append : (before : List Expr) (xs ys : List Node) →
    growing before (xs ++ ys) ≡ growing (growing before xs) ys
growing_append before [] ys = refl
growing_append before (x ∷ xs) ys = growing_append (before ++ of_node before x ∷ []) xs ys

pub growing_length : (before : List Expr) (xs : List Node) →
    length (growing before xs) ≡ length before + length xs
growing_length before [] = sym (add-zero (length before))
growing_length before (x ∷ xs) =
    growing_length (before ++ of_node before x ∷ []) xs
    ∙ ap (λ n. n + length xs) (length_push before (of_node before x)) ∙ omega arith

-- what is there stays
growing_keeps : (before : List Expr) (xs : List Node) →
    (after : List Expr) × (growing before xs ≡ before ++ after)
growing_keeps before [] = ([], sym (append-nil before))
growing_keeps before (x ∷ xs) = go (growing_keeps (before ++ of_node before x ∷ []) xs)
  where
    go : (after : List Expr) × (growing (before ++ of_node before x ∷ []) xs ≡ (before ++ of_node before x ∷ []) ++ after) →
        (after : List Expr) × (growing (before ++ of_node before x ∷ []) xs ≡ before ++ after)
    go found = (of_node before x ∷ found.0, found.1 ∙ append_assoc before (of_node before x ∷ []) found.0)

growing_at : (before : List Expr) (xs : List Node) (i : ℕ) → i < length xs →
    get_or (growing before xs) (length before + i) none
    ≡ of_node (take (length before + i) (growing before xs)) (get_or xs i Nothing)
growing_at before [] i lt = absurd (omega arith)
growing_at before (x ∷ xs) zero lt = go (growing_keeps (before ++ of_node before x ∷ []) xs)
  where
    go : (after : List Expr) × (growing (before ++ of_node before x ∷ []) xs ≡ (before ++ of_node before x ∷ []) ++ after) →
        get_or (growing (before ++ of_node before x ∷ []) xs) (length before + 0) none
        ≡ of_node (take (length before + 0) (growing (before ++ of_node before x ∷ []) xs)) x
    go found =
        let all : growing (before ++ of_node before x ∷ []) xs ≡ before ++ (of_node before x ∷ found.0) =
        found.1 ∙ append_assoc before (of_node before x ∷ []) found.0 in
        ap₂ (λ l n. get_or l n none) all (add-zero (length before))
        ∙ get_or_at before (of_node before x) found.0 none (length before) refl
        ∙ ap (λ l. of_node l x) (sym (take_at before (of_node before x ∷ found.0) (length before) refl))
        ∙ sym (ap₂ (λ l n. of_node (take n l) x) all (add-zero (length before)))
growing_at before (x ∷ xs) (suc i) lt =
    let more : length (before ++ of_node before x ∷ []) + i ≡ length before + suc i =
    ap (λ n. n + i) (length_push before (of_node before x)) ∙ omega arith in
    let found = growing_at (before ++ of_node before x ∷ []) xs i (omega arith) in
    ap (λ n. get_or (growing (before ++ of_node before x ∷ []) xs) n none) (sym more) ∙ found
    ∙ ap (λ n. of_node (take n (growing (before ++ of_node before x ∷ []) xs)) (get_or xs i Nothing)) more

pub trees_length : (xs : List Node) → length (trees xs) ≡ length xs
trees_length xs = growing_length [] xs ∙ omega arith

trees_at : (xs : List Node) (i : ℕ) → i < length xs →
    get_or (trees xs) i none ≡ of_node (take i (trees xs)) (get_or xs i Nothing)
trees_at xs i lt =
    let zeroed : 0 + i ≡ i = omega arith in
    ap (λ n. get_or (trees xs) n none) (sym zeroed) ∙ growing_at [] xs i lt
    ∙ ap (λ n. of_node (take n (trees xs)) (get_or xs i Nothing)) zeroed

-- a missing expression is `none`
pub tree_past : (nodes : List Node) (i : ℕ) → length nodes ≤ i → tree nodes i ≡ none
unfolding tree
tree_past nodes i le = get_or_past (trees nodes) i none (omega (arith, trees_length nodes))

child : (nodes : List Node) (i c : ℕ) → length nodes ≤ 512 → get_or (take i (trees nodes)) c none ≡ tree nodes (earlier i c)
unfolding tree
child nodes i c small = ⊎_elim
    (λ (lt : c < i). get_or-take i (trees nodes) c none lt
    ∙ ap (λ n. get_or (trees nodes) n none) (sym (cond-true _ _ _ (lt-ltb c i lt))))
    (λ (le : i ≤ c). past le ∙ sym (tree_past nodes 512 small)
    ∙ ap (λ n. get_or (trees nodes) n none) (sym (cond-false _ _ _ (le-ltb c i le))))
    (cases_lt c i)
  where
    past : i ≤ c → get_or (take i (trees nodes)) c none ≡ none
    past le = get_or_past (take i (trees nodes)) c none
        (let l = Rattle.std.proofs.lemmas.List.length-take i (trees nodes) in omega arith)

-- an expression is built as its node says
pub tree_built : (nodes : List Node) (i : ℕ) → i < length nodes → length nodes ≤ 512 →
    tree nodes i ≡ built nodes i (get_or nodes i Nothing)
unfolding tree
tree_built nodes i lt small = trees_at nodes i lt ∙ go (get_or nodes i Nothing)
  where
    go : (n : Node) → of_node (take i (trees nodes)) n ≡ built nodes i n
    go Nothing = refl
    go Empty = refl
    go (Simple n) = refl
    go (Rule k) = refl
    go (Element n c) = ap (element n) (child nodes i c small)
    go (Union a b) = ap₂ union (child nodes i a small) (child nodes i b small)
    go (Seq a b) = ap₂ seq (child nodes i a small) (child nodes i b small)
    go (Star a) = ap star (child nodes i a small)

-- more nodes leave the expressions as they are
pub tree_stays : (xs ys : List Node) (i : ℕ) → i < length xs → tree (xs ++ ys) i ≡ tree xs i
unfolding tree
tree_stays xs ys i lt = go (growing_keeps (trees xs) ys)
  where
    go : (after : List Expr) × (growing (trees xs) ys ≡ trees xs ++ after) →
        get_or (trees (xs ++ ys)) i none ≡ get_or (trees xs) i none
    go found =
        ap (λ l. get_or l i none) (growing_append [] xs ys ∙ found.1)
        ∙ get_or_append_left (trees xs) found.0 none i (omega (arith, trees_length xs))

-- the body of a rule
pub body_tree : (nodes : List Node) (bodies : List ℕ) (k : ℕ) → length nodes ≤ 512 →
    tree nodes (body_at bodies k) ≡ body_of nodes bodies k
unfolding tree
body_tree nodes bodies k small = ⊎_elim
    (λ (lt : k < length bodies). sym (get_or-map (λ n. get_or (trees nodes) n none) bodies k 512 none lt))
    (λ (le : length bodies ≤ k).
    ap (tree nodes) (get_or_past bodies k 512 le) ∙ tree_past nodes 512 small
    ∙ sym (get_or_past (map (λ n. get_or (trees nodes) n none) bodies) k none
    (let l = length-map bodies (λ n. get_or (trees nodes) n none) in omega arith)))
    (cases_lt k (length bodies))
