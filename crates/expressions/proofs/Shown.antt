-- Numbers in a book and the expressions that they stand for, while the book is made from a file.
use Rattle.std.proofs.Common.{◌≡◌, ℕ, ◌+◌, ◌<◌, ◌≤◌, List, [], ◌∷◌, ◌++◌, map, length, get_or, take, sym, ap, ◌∙◌, subst, ap₂, ⊎_elim, add-one, arith}
use Rattle.std.proofs.lemmas.List.{length_push, get_or_append_left, get_or_push, get_or_past, get_or-map, get_or_default, length-map, ext_get_or, map_push, take_more}
use Rattle.std.proofs.lemmas.Bool.{cases_lt}
use Rattle.model.specs.declared.nodes.Node.{Node}
use Rattle.model.specs.declared.nodes.Node.TheVariants.{Nothing}
use Rattle.theory.specs.Language.{Expr, none, rule}
use Rattle.theory.specs.Count.{each}
use Rattle.theory.specs.Tree.{body_of, trees, of_node}
use Rattle.expressions.specs.Numbers.{tree}
use Rattle.expressions.specs.Fine.{Below, Grows, shown}
use Rattle.expressions.proofs.Trees.{growing_append}
use Rattle.expressions.proofs.Fine.{grows_tree}

pub below_none : (n : ℕ) → Below n []
unfolding Below
below_none n k lt = absurd (omega arith)

pub below_push : (n : ℕ) (numbers : List ℕ) (i : ℕ) → Below n numbers → i < n → Below n (numbers ++ i ∷ [])
unfolding Below
below_push n numbers i ok lt k within = ⊎_elim
    (λ (less : k < length numbers). subst (λ m. m < n) (sym (get_or_append_left numbers (i ∷ []) 512 k less)) (ok k less))
    (λ (past : length numbers ≤ k).
    let at : length numbers ≡ k = omega (arith, length_push numbers i) in
    subst (λ m. m < n) (sym (get_or_push numbers i 512 k at)) lt)
    (cases_lt k (length numbers))

pub below_at : (n : ℕ) (numbers : List ℕ) (k d : ℕ) → Below n numbers → k < length numbers → get_or numbers k d < n
unfolding Below
below_at n numbers k d ok lt = subst (λ m. m < n) (get_or_default numbers k 512 d lt) (ok k lt)

pub shown_at : (nodes : List Node) (numbers : List ℕ) (k d : ℕ) → k < length numbers →
    get_or (shown nodes numbers) k none ≡ tree nodes (get_or numbers k d)
unfolding shown
shown_at nodes numbers k d lt = get_or-map (tree nodes) numbers k d none lt

pub shown_past : (nodes : List Node) (numbers : List ℕ) (k : ℕ) → length numbers ≤ k → get_or (shown nodes numbers) k none ≡ none
unfolding shown
shown_past nodes numbers k le = get_or_past (map (tree nodes) numbers) k none (let l = length-map numbers (tree nodes) in omega arith)

pub shown_push : (nodes : List Node) (numbers : List ℕ) (i : ℕ) →
    shown nodes (numbers ++ i ∷ []) ≡ shown nodes numbers ++ tree nodes i ∷ []
unfolding shown
shown_push nodes numbers i = map_push (tree nodes) numbers i

pub shown_grows : (old new : List Node) (numbers : List ℕ) → Grows old new → Below (length old) numbers →
    shown new numbers ≡ shown old numbers
unfolding shown
shown_grows old new numbers e ok = ext_get_or none (map (tree new) numbers) (map (tree old) numbers)
    (length-map numbers (tree new) ∙ sym (length-map numbers (tree old)))
    (λ k lt. let within : k < length numbers = omega (arith, length-map numbers (tree new)) in
    get_or-map (tree new) numbers k 512 none within
    ∙ grows_tree old new (get_or numbers k 512) e (below_at (length old) numbers k 512 ok within)
    ∙ sym (get_or-map (tree old) numbers k 512 none within))

-- one number more, that of e, after the book has grown
pub shown_more : (old new : List Node) (numbers : List ℕ) (i : ℕ) (e : Expr) → Grows old new → Below (length old) numbers →
    tree new i ≡ e → shown new (numbers ++ i ∷ []) ≡ shown old numbers ++ e ∷ []
shown_more old new numbers i e g ok is =
    shown_push new numbers i ∙ ap₂ (λ l x. l ++ x ∷ []) (shown_grows old new numbers g ok) is

-- the expressions of one node more of the file
pub trees_more : (file : List Node) (i : ℕ) → i < length file →
    trees (take (i + 1) file) ≡ trees (take i file) ++ of_node (trees (take i file)) (get_or file i Nothing) ∷ []
trees_more file i lt =
    ap trees (take_more file i Nothing lt) ∙ growing_append [] (take i file) (get_or file i Nothing ∷ [])

pub each_more : (n : ℕ) → each (n + 1) (λ k. rule k ∷ []) ≡ each n (λ k. rule k ∷ []) ++ rule n ∷ []
each_more n = ap (λ m. each m (λ k. rule k ∷ [])) (add-one n)

-- the bodies by their numbers in the book
pub same_bodies : (file nodes : List Node) (rules bodies : List ℕ) →
    shown nodes bodies ≡ map (λ c. get_or (trees file) c none) rules → body_of nodes bodies ≡ body_of file rules
unfolding shown tree
same_bodies file nodes rules bodies e = λ i k. get_or (e i) k none
