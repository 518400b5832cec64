-- Books of expressions as they are added to.
use Rattle.std.proofs.Common.{◌≡◌, ℕ, suc, ◌<◌, ◌≤◌, Bool, true, false, cond, List, [], ◌∷◌, ◌++◌, length, get_or, drop, sym, refl, ap, ◌∙◌, subst, ap₂, ⊎_elim, append_assoc, append-nil, rules, arith}
use Rattle.std.proofs.lemmas.List.{length_push, length-append, get_or_append_left, get_or_push, drop_at}
use Rattle.std.proofs.lemmas.Bool.{cases_lt, cond-true, lt-ltb}
use Rattle.model.specs.declared.nodes.Node.{Node}
use Rattle.model.specs.declared.nodes.Node.TheVariants.{Nothing, Empty, Simple, Rule, Element, Union, Seq, Star}
use Rattle.theory.specs.Language.{element, union, seq, star}
use Rattle.theory.specs.Count.{enter}
use Rattle.expressions.specs.Numbers.{tree, built}
use Rattle.book.specs.Place.{place}
use Rattle.expressions.specs.Records.{same_node}
use Rattle.expressions.specs.Fine.{PartsBelow, make, Founded, Distinct, Fine, Below, Grows}
use Rattle.expressions.proofs.Trees.{tree_built, tree_stays}
use Rattle.expressions.proofs.Books.{place_le, enter_old, enter_new}

-- sameness of nodes

same_refl : (a : Node) → same_node a a ≡ true
same_refl a = search rules

pub same_nodes : (a b : Node) → same_node a b ≡ true → a ≡ b
same_nodes a b e = search rules

-- places in a longer book

place_left : {A : Type 0} (same : A → A → Bool) (l m : List A) (x : A) → place same l x < length l →
    place same (l ++ m) x ≡ place same l x
place_left same [] m x lt = absurd (omega arith)
place_left same (y ∷ l) m x lt = go (same x y) lt (place_left same l m x)
  where
    go : (b : Bool) → cond b 0 (suc (place same l x)) < suc (length l) →
        (place same l x < length l → place same (l ++ m) x ≡ place same l x) →
        cond b 0 (suc (place same (l ++ m) x)) ≡ cond b 0 (suc (place same l x))
    go true h rec = refl
    go false h rec = ap suc (rec (omega arith))

place_last : {A : Type 0} (same : A → A → Bool) (l : List A) (x : A) → same x x ≡ true → length l ≤ place same l x →
    place same (l ++ x ∷ []) x ≡ length l
place_last same [] x is le = cond-true _ _ _ is
place_last same (y ∷ l) x is le = go (same x y) le (place_last same l x is)
  where
    go : (b : Bool) → suc (length l) ≤ cond b 0 (suc (place same l x)) →
        (length l ≤ place same l x → place same (l ++ x ∷ []) x ≡ length l) →
        cond b 0 (suc (place same (l ++ x ∷ []) x)) ≡ suc (length l)
    go true h rec = absurd (omega arith)
    go false h rec = ap suc (rec (omega arith))

pub place_is : {A : Type 0} (same : A → A → Bool) → ((a b : A) → same a b ≡ true → a ≡ b) →
    (l : List A) (x d : A) → place same l x < length l → get_or l (place same l x) d ≡ x
place_is same tells [] x d lt = absurd (omega arith)
place_is same tells (y ∷ l) x d lt = go (same x y) refl lt (place_is same tells l x d)
  where
    go : (b : Bool) → same x y ≡ b → cond b 0 (suc (place same l x)) < suc (length l) →
        (place same l x < length l → get_or l (place same l x) d ≡ x) →
        get_or (y ∷ l) (cond b 0 (suc (place same l x))) d ≡ x
    go true is h rec = sym (tells x y is)
    go false is h rec = rec (omega arith)

-- growth

module _ {A : Type 0} where
  pub grows_by : (old more new : List A) → new ≡ old ++ more → Grows old new
  unfolding Grows
  grows_by old more new e =
      e ∙ ap (λ l. old ++ l) (sym (ap (drop (length old)) e ∙ drop_at old more (length old) refl))

  pub grows_same : (l : List A) → Grows l l
  grows_same l = grows_by l [] l (sym (append-nil l))

  pub grows_long : (old new : List A) → Grows old new → length old ≤ length new
  unfolding Grows
  grows_long old new e = let l = ap length e ∙ length-append old (drop (length old) new) in omega arith

  pub grows_on : (a b c : List A) → Grows a b → Grows b c → Grows a c
  unfolding Grows
  grows_on a b c p q = grows_by a (drop (length a) b ++ drop (length b) c) c
      (q ∙ ap (λ l. l ++ drop (length b) c) p ∙ append_assoc a (drop (length a) b) (drop (length b) c))

  pub grows_at : (a b : List A) (k : ℕ) (d : A) → Grows a b → k < length a → get_or b k d ≡ get_or a k d
  unfolding Grows
  grows_at a b k d e lt = ap (λ l. get_or l k d) e ∙ get_or_append_left a (drop (length a) b) d k lt

pub grows_tree : (old new : List Node) (i : ℕ) → Grows old new → i < length old → tree new i ≡ tree old i
unfolding Grows
grows_tree old new i e lt = ap (λ l. tree l i) e ∙ tree_stays old (drop (length old) new) i lt

pub below_more : (old new : List Node) (numbers : List ℕ) → Grows old new → Below (length old) numbers → Below (length new) numbers
unfolding Below
below_more old new numbers e ok k lt = let l = grows_long old new e in let b = ok k lt in omega arith

-- a node of a fine book

make_built : (nodes : List Node) (i : ℕ) (n : Node) → PartsBelow i n → built nodes i n ≡ make (tree nodes) n
make_built nodes i Nothing ok = refl
make_built nodes i Empty ok = refl
make_built nodes i (Simple n) ok = refl
make_built nodes i (Rule k) ok = refl
make_built nodes i (Element n c) ok = ap (λ m. element n (tree nodes m)) (cond-true _ _ _ (lt-ltb c i ok))
make_built nodes i (Union a b) ok =
    ap₂ (λ m o. union (tree nodes m) (tree nodes o)) (cond-true _ _ _ (lt-ltb a i ok.0)) (cond-true _ _ _ (lt-ltb b i ok.1))
make_built nodes i (Seq a b) ok =
    ap₂ (λ m o. seq (tree nodes m) (tree nodes o)) (cond-true _ _ _ (lt-ltb a i ok.0)) (cond-true _ _ _ (lt-ltb b i ok.1))
make_built nodes i (Star a) ok = ap (λ m. star (tree nodes m)) (cond-true _ _ _ (lt-ltb a i ok))

pub tree_made : (nodes : List Node) (i : ℕ) → Fine nodes → i < length nodes →
    tree nodes i ≡ make (tree nodes) (get_or nodes i Nothing)
unfolding Founded
tree_made nodes i fine lt =
    tree_built nodes i lt fine.0 ∙ make_built nodes i (get_or nodes i Nothing) (fine.1 i lt)

pub make_grows : (old new : List Node) (n : Node) → Grows old new → PartsBelow (length old) n →
    make (tree new) n ≡ make (tree old) n
make_grows old new Nothing e ok = refl
make_grows old new Empty e ok = refl
make_grows old new (Simple n) e ok = refl
make_grows old new (Rule k) e ok = refl
make_grows old new (Element n c) e ok = ap (element n) (grows_tree old new c e ok)
make_grows old new (Union a b) e ok = ap₂ union (grows_tree old new a e ok.0) (grows_tree old new b e ok.1)
make_grows old new (Seq a b) e ok = ap₂ seq (grows_tree old new a e ok.0) (grows_tree old new b e ok.1)
make_grows old new (Star a) e ok = ap star (grows_tree old new a e ok)

pub parts_more : (n m : ℕ) (x : Node) → n ≤ m → PartsBelow n x → PartsBelow m x
parts_more n m Nothing le ok = tt
parts_more n m Empty le ok = tt
parts_more n m (Simple b) le ok = tt
parts_more n m (Rule k) le ok = tt
parts_more n m (Element b c) le ok = omega arith
parts_more n m (Union a b) le ok = let p = ok.0 in let q = ok.1 in (omega arith, omega arith)
parts_more n m (Seq a b) le ok = let p = ok.0 in let q = ok.1 in (omega arith, omega arith)
parts_more n m (Star a) le ok = omega arith

-- entering a node

-- the book after an entry: it is fine, has grown, and has the node at the number that was given
abbrev pub Holds : List Node → Node → ℕ → List Node → Type 0
Holds nodes x i after = Fine after × Grows nodes after × (i < length after) × (get_or after i Nothing ≡ x)

pub enter_holds : (nodes : List Node) (x : Node) (i : ℕ) (after : List Node) → Fine nodes → PartsBelow (length nodes) x →
    i ≡ place same_node nodes x → after ≡ enter same_node nodes x → i < length after → length after ≤ 512 →
    Holds nodes x i after
unfolding Founded Distinct
enter_holds nodes x i after fine parts is e within small = ⊎_elim
    (λ (old : place same_node nodes x < length nodes).
    let stays : after ≡ nodes = e ∙ enter_old same_node nodes x old in
    subst (λ l. Holds nodes x i l) (sym stays) (
      fine,
      grows_same nodes,
      subst (λ k. k < length nodes) (sym is) old,
      ap (λ k. get_or nodes k Nothing) is ∙ place_is same_node same_nodes nodes x Nothing old,
    ))
    (λ (new : length nodes ≤ place same_node nodes x).
    let pushed : after ≡ nodes ++ x ∷ [] = e ∙ enter_new same_node nodes x new in
    let le = place_le same_node nodes x in
    let at : length nodes ≡ i = omega arith in
    let long = length_push nodes x in
    subst (λ l. Holds nodes x i l) (sym pushed) (
      (subst (λ l. length l ≤ 512) pushed small, founded, distinct new),
      grows_by nodes (x ∷ []) (nodes ++ x ∷ []) refl,
      omega arith,
      get_or_push nodes x Nothing i at,
    ))
    (cases_lt (place same_node nodes x) (length nodes))
  where
    founded : (k : ℕ) → k < length (nodes ++ x ∷ []) → PartsBelow k (get_or (nodes ++ x ∷ []) k Nothing)
    founded k lt = ⊎_elim
        (λ (less : k < length nodes). subst (PartsBelow k) (sym (get_or_append_left nodes (x ∷ []) Nothing k less)) (fine.1 k less))
        (λ (past : length nodes ≤ k).
        let at : length nodes ≡ k = omega (arith, length_push nodes x) in
        subst (PartsBelow k) (sym (get_or_push nodes x Nothing k at)) (subst (λ n. PartsBelow n x) at parts))
        (cases_lt k (length nodes))

    distinct : length nodes ≤ place same_node nodes x → (k : ℕ) → k < length (nodes ++ x ∷ []) →
        place same_node (nodes ++ x ∷ []) (get_or (nodes ++ x ∷ []) k Nothing) ≡ k
    distinct new k lt = ⊎_elim
        (λ (less : k < length nodes).
        let own = fine.2 k less in
        let within : place same_node nodes (get_or nodes k Nothing) < length nodes = omega arith in
        ap (place same_node (nodes ++ x ∷ [])) (get_or_append_left nodes (x ∷ []) Nothing k less)
        ∙ place_left same_node nodes (x ∷ []) (get_or nodes k Nothing) within ∙ own)
        (λ (past : length nodes ≤ k).
        let at : length nodes ≡ k = omega (arith, length_push nodes x) in
        ap (place same_node (nodes ++ x ∷ [])) (get_or_push nodes x Nothing k at)
        ∙ place_last same_node nodes x (same_refl x) new ∙ at)
        (cases_lt k (length nodes))

-- the expression of what was entered
pub holds_tree : (nodes : List Node) (x : Node) (i : ℕ) (after : List Node) → PartsBelow (length nodes) x →
    Holds nodes x i after → tree after i ≡ make (tree nodes) x
holds_tree nodes x i after parts h =
    tree_made after i h.0 h.2 ∙ ap (make (tree after)) h.3 ∙ make_grows nodes after x h.1 parts
