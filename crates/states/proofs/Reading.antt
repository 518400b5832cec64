-- The steps of reading a file into a book.
use Rattle.std.proofs.Common.{◌≡◌, ℕ, ◌+◌, ◌<◌, ◌≤◌, List, [], ◌∷◌, ◌++◌, map, length, get_or, take, IfOk, Ok, Err, Result, vec_items, sym, refl, ap, ◌∙◌, subst, ap₂, arith, Bool, true, false, cond}
use Rattle.std.proofs.lemmas.List.{take_more, map_push}
use Rattle.model.specs.declared.nodes.Node.{Node}
use Rattle.model.specs.declared.nodes.Node.TheVariants.{Union, Seq}
use Rattle.theory.specs.Language.{Expr, none, rule, union, seq}
use Rattle.theory.specs.Tree.{of_node}
use Rattle.expressions.specs.Numbers.{tree}
use Rattle.expressions.specs.Records.{same_node}
use Rattle.expressions.specs.Fine.{PartsBelow, make, Founded, Distinct, Fine, Below, Grows, shown}
use Rattle.expressions.proofs.Fine.{enter_holds, holds_tree, grows_tree, grows_same, grows_on, grows_long, below_more}
use Rattle.expressions.proofs.Shown.{below_none, below_push, below_at, shown_at, shown_past, shown_more, shown_grows, each_more}
use Rattle.states.specs.declared.error.Limit.{Limit}
use Rattle.states.specs.declared.places.Places.{Places}
use Rattle.states.specs.Book.{Entered}
use Rattle.states.specs.Read.{Numbered, Moved, StandFor, mentions}

pub fine_none : Fine []
unfolding Founded Distinct
fine_none = (omega arith, λ i lt. absurd (omega arith), λ i lt. absurd (omega arith))

-- a node that was entered
pub enter_numbered : (nodes after : List Node) (x : Node) (i : ℕ) → Fine nodes → PartsBelow (length nodes) x →
    Entered same_node 512 nodes x (Ok i) after → Numbered nodes after i (make (tree nodes) x)
enter_numbered nodes after x i fine parts e =
    let held = enter_holds nodes x i after fine parts e.0 e.1 e.2 (e.3 fine.0) in
    (held.0, held.1, held.2, holds_tree nodes x i after parts held)

-- a book after a node was entered or was not
pub entered_fine : (nodes after : List Node) (x : Node) (r : Result ℕ Limit) → Fine nodes → PartsBelow (length nodes) x →
    Entered same_node 512 nodes x r after → Fine after × Grows nodes after
entered_fine nodes after x (Ok i) fine parts e = let n = enter_numbered nodes after x i fine parts e in (n.0, n.1)
entered_fine nodes after x (Err f) fine parts e = (subst Fine (sym e.0) fine, subst (Grows nodes) (sym e.0) (grows_same nodes))

pub enter_made : (nodes after : List Node) (x : Node) (r : Result ℕ Limit) → Fine nodes → PartsBelow (length nodes) x →
    Entered same_node 512 nodes x r after → IfOk r (λ i. Numbered nodes after i (make (tree nodes) x))
enter_made nodes after x (Ok i) fine parts e = enter_numbered nodes after x i fine parts e
enter_made nodes after x (Err f) fine parts e = tt

-- a number of the file's node c that is known already
pub placed_old : (nodes : List Node) (places : List ℕ) (c i : ℕ) → Fine nodes → Below (length nodes) places →
    c < length places → i ≡ get_or places c i → Numbered nodes nodes i (get_or (shown nodes places) c none)
placed_old nodes places c i fine below lt e = (
  fine,
  grows_same nodes,
  subst (λ n. n < length nodes) (sym e) (below_at (length nodes) places c i below lt),
  ap (tree nodes) e ∙ sym (shown_at nodes places c i lt),
)

-- a missing node
pub placed_new : (nodes after : List Node) (places : List ℕ) (c : ℕ) (r : Result ℕ Limit) → length places ≤ c →
    IfOk r (λ i. Numbered nodes after i none) → IfOk r (λ i. Numbered nodes after i (get_or (shown nodes places) c none))
placed_new nodes after places c r past n =
    subst (λ x. IfOk r (λ i. Numbered nodes after i x)) (sym (shown_past nodes places c past)) n

-- nodes of two parts
two : (old mid new : List Node) (places : List ℕ) (a b i j : ℕ) → Below (length old) places →
    Numbered old mid i (get_or (shown old places) a none) → Numbered mid new j (get_or (shown mid places) b none) →
    Fine new × Grows old new × ((i < length new) × (j < length new)) ×
    (tree new i ≡ get_or (shown old places) a none) × (tree new j ≡ get_or (shown old places) b none)
two old mid new places a b i j ok p q =
    let long = grows_long mid new q.1 in
    let first = p.2 in (
      q.0,
      grows_on old mid new p.1 q.1,
      (omega arith, q.2),
      grows_tree mid new i q.1 p.2 ∙ p.3,
      q.3 ∙ ap (λ l. get_or l b none) (shown_grows old mid places p.1 ok),
    )

pub moved_union : (old mid new : List Node) (places : List ℕ) (a b i j : ℕ) → Below (length old) places →
    Numbered old mid i (get_or (shown old places) a none) → Numbered mid new j (get_or (shown mid places) b none) →
    Moved old new (Union i j) (of_node (shown old places) (Union a b))
moved_union old mid new places a b i j ok p q =
    let t = two old mid new places a b i j ok p q in (t.0, t.1, t.2, ap₂ union t.3 t.4)

pub moved_seq : (old mid new : List Node) (places : List ℕ) (a b i j : ℕ) → Below (length old) places →
    Numbered old mid i (get_or (shown old places) a none) → Numbered mid new j (get_or (shown mid places) b none) →
    Moved old new (Seq i j) (of_node (shown old places) (Seq a b))
moved_seq old mid new places a b i j ok p q =
    let t = two old mid new places a b i j ok p q in (t.0, t.1, t.2, ap₂ seq t.3 t.4)

-- one number more
pub stand_more : (old new : List Node) (numbers : List ℕ) (i : ℕ) (es : List Expr) (e : Expr) →
    StandFor old numbers es → Numbered old new i e → StandFor new (numbers ++ i ∷ []) (es ++ e ∷ [])
stand_more old new numbers i es e s n = (
  n.0,
  below_push (length new) numbers i (below_more old new numbers n.1 s.1) n.2,
  shown_more old new numbers i e n.1 s.1 n.3 ∙ ap (λ l. l ++ e ∷ []) s.2,
)

pub stand_none : (nodes : List Node) → Fine nodes → StandFor nodes [] []
unfolding shown
stand_none nodes fine = (fine, below_none (length nodes), refl)

-- the next node of the file
pub next_node : (old mid new : Places) (x node : Node) (i : ℕ) (after : List ℕ) → mid.places ≡ old.places → new.places ≡ mid.places →
    Moved (vec_items old.nodes) (vec_items mid.nodes) x (of_node (shown (vec_items old.nodes) (vec_items old.places)) node) →
    Numbered (vec_items mid.nodes) (vec_items new.nodes) i (make (tree (vec_items mid.nodes)) x) →
    after ≡ vec_items new.places ++ i ∷ [] →
    shown (vec_items new.nodes) after ≡
    shown (vec_items old.nodes) (vec_items old.places) ++ of_node (shown (vec_items old.nodes) (vec_items old.places)) node ∷ []
next_node old mid new x node i after p q m n pushed =
    let places = ap (λ v. vec_items v) (q ∙ p) in
    ap (shown (vec_items new.nodes)) (pushed ∙ ap (λ l. l ++ i ∷ []) places)
    ∙ shown_more (vec_items old.nodes) (vec_items new.nodes) (vec_items old.places) i _
    (grows_on (vec_items old.nodes) (vec_items mid.nodes) (vec_items new.nodes) m.1 n.1) old.below (n.3 ∙ m.3)

-- a number more or not
pub below_or_not : (n : ℕ) (numbers after : List ℕ) (i : ℕ) (b : Bool) → after ≡ cond b (numbers ++ i ∷ []) numbers → Below n numbers → i < n → Below n after
below_or_not n numbers after i true e ok lt = subst (Below n) (sym e) (below_push n numbers i ok lt)
below_or_not n numbers after i false e ok lt = subst (Below n) (sym e) ok

-- the next body
pub next_body : (first old new : List Node) (places bodies file : List ℕ) (k i : ℕ) → k < length file →
    Below (length first) places → Grows first old →
    StandFor old bodies (map (λ c. get_or (shown first places) c none) (take k file)) →
    Numbered old new i (get_or (shown old places) (get_or file k 0) none) →
    Grows first new × StandFor new (bodies ++ i ∷ []) (map (λ c. get_or (shown first places) c none) (take (k + 1) file))
next_body first old new places bodies file k i lt below g s n =
    let f : ℕ → Expr = λ c. get_or (shown first places) c none in
    let whole : Numbered old new i (f (get_or file k 0)) =
    (n.0, n.1, n.2, n.3 ∙ ap (λ l. get_or l (get_or file k 0) none) (shown_grows first old places g below)) in (
      grows_on first old new g n.1,
      subst (StandFor new (bodies ++ i ∷ []))
          (sym (ap (map f) (take_more file k 0 lt) ∙ map_push f (take k file) (get_or file k 0)))
          (stand_more old new bodies i (map f (take k file)) (f (get_or file k 0)) s whole),
    )

-- the next mention
pub next_mention : (first old new : List Node) (numbers : List ℕ) (k i : ℕ) → Grows first old →
    StandFor old numbers (mentions k) → Numbered old new i (rule k) →
    Grows first new × StandFor new (numbers ++ i ∷ []) (mentions (k + 1))
next_mention first old new numbers k i g s n = (
  grows_on first old new g n.1,
  subst (StandFor new (numbers ++ i ∷ [])) (sym (each_more k)) (stand_more old new numbers i (mentions k) (rule k) s n),
)

-- what holds of the node that it is
pub as_node : (old new : List Node) (x node n : Node) (es : List Expr) → node ≡ n → Moved old new x (of_node es n) →
    Moved old new x (of_node es node)
as_node old new x node n es e m = subst (λ y. Moved old new x (of_node es y)) (sym e) m

-- the numbers of the file's nodes stay below the length of the book
pub places_stay : (p : Places) (after : List Node) → Grows (vec_items p.nodes) after → Below (length after) (vec_items p.places)
places_stay p after g = below_more (vec_items p.nodes) after (vec_items p.places) g p.below

-- a number by the places before
pub same_places : (old mid new : Places) (c i : ℕ) → mid.places ≡ old.places →
    Numbered (vec_items mid.nodes) (vec_items new.nodes) i (get_or (shown (vec_items mid.nodes) (vec_items mid.places)) c none) →
    Numbered (vec_items mid.nodes) (vec_items new.nodes) i (get_or (shown (vec_items mid.nodes) (vec_items old.places)) c none)
same_places old mid new c i same n =
    subst (λ l. Numbered (vec_items mid.nodes) (vec_items new.nodes) i (get_or (shown (vec_items mid.nodes) l) c none)) (ap (λ v. vec_items v) same) n
