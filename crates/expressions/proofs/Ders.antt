-- Derivatives by numbers: lists of them, and what the program computes node by node.
use Rattle.std.proofs.Common.{◌≡◌, ℕ, suc, ◌-◌, ◌<◌, ◌≤◌, Bool, true, false, cond, ◌&&◌, eqb, ltb, List, [], ◌∷◌, ◌++◌, map, length, get_or, take, drop, sym, refl, ap, ◌∙◌, subst, ap₂, ⊎_elim, arith}
use native.Mathlib.Nat.{sub_self}
use Rattle.std.proofs.Math.Bool.{and_assoc}
use Rattle.std.proofs.lemmas.Bool.{cases_lt, cond-true, cond-false, lt-ltb, le-ltb, eq-eqb, eqb-true}
use Rattle.std.proofs.lemmas.List.{get_or_past, length-append, drop-append-le, take-append-le, length-drop, drop_at, take_all}
use Rattle.model.specs.declared.nodes.Node.{Node}
use Rattle.model.specs.declared.nodes.Node.TheVariants.{Nothing, Empty, Simple, Rule, Element, Union, Seq, Star}
use Rattle.model.specs.Machine.{Derivative}
use Rattle.theory.specs.Language.{Expr, none, empty, simple, rule, element, union, seq, star}
use Rattle.theory.specs.Derivative.{join}
use Rattle.theory.specs.Tree.{body_of}
use Rattle.theory.specs.Count.{entered}
use Rattle.theory.specs.Inequality.{Member, here, there}
use Rattle.meaning.specs.Functions.{nullable?, nulls_of, rule_ders, grown, once, joined, same_derived, same_expr}
use Rattle.meaning.proofs.Functions.{same_expr_equal, equal_same_expr}
use Rattle.meaning.proofs.Members.{entered_member, entered_map, member_either, member_one}
use Rattle.meaning.proofs.Rules.{grown_at, grown_length}
use Rattle.expressions.specs.Numbers.{earlier, tree, built, null_at}
use Rattle.expressions.specs.Records.{same_derivative}
use Rattle.expressions.specs.Fine.{Fine, Below, Grows, shown}
use Rattle.expressions.specs.Derived.{part, as_trees, InBook, AllIn, ders_below, ders_at, ders_node}
use Rattle.expressions.proofs.Trees.{tree_built, tree_past, body_tree}
use Rattle.expressions.proofs.Fine.{grows_tree, grows_long}
use Rattle.expressions.proofs.Inject.{tree_once}

-- parts of lists

pub part_none : {A : Type 0} (xs : List A) (i : ℕ) → part xs i i ≡ []
unfolding part
part_none xs i = ap (λ n. take n (drop i xs)) (sub_self i)

-- a part of what was there before
pub part_old : {A : Type 0} (xs ys : List A) (from to : ℕ) → from ≤ to → to ≤ length xs →
    part (xs ++ ys) from to ≡ part xs from to
unfolding part
part_old xs ys from to le within =
    let inside : from ≤ length xs = omega arith in
    let size : to - from ≤ length (drop from xs) = omega (arith, length-drop from xs) in
    ap (take (to - from)) (drop-append-le from xs ys inside) ∙ take-append-le (to - from) (drop from xs) ys size

-- what was added
pub part_new : {A : Type 0} (xs ys : List A) → part (xs ++ ys) (length xs) (length (xs ++ ys)) ≡ ys
unfolding part
part_new xs ys =
    ap (take (length (xs ++ ys) - length xs)) (drop_at xs ys (length xs) refl)
    ∙ take_all (length (xs ++ ys) - length xs) ys (omega (arith, length-append xs ys))

-- members

take_member : {A : Type 0} {x : A} (n : ℕ) (xs : List A) → Member x (take n xs) → Member x xs
take_member Prim.Native.Nat.zero xs m = elim m [ ]
take_member (suc n) [] m = elim m [ ]
take_member (suc n) (y ∷ xs) here = here
take_member (suc n) (y ∷ xs) (there m) = there (take_member n xs m)

drop_member : {A : Type 0} {x : A} (n : ℕ) (xs : List A) → Member x (drop n xs) → Member x xs
drop_member Prim.Native.Nat.zero xs m = m
drop_member (suc n) [] m = elim m [ ]
drop_member (suc n) (y ∷ xs) m = there (drop_member n xs m)

pub all_part : (n : ℕ) (ds : List Derivative) (from to : ℕ) → AllIn n ds → AllIn n (part ds from to)
unfolding AllIn part
all_part n ds from to ok d m = ok d (drop_member from ds (take_member (to - from) (drop from ds) m))

pub all_none : (n : ℕ) → AllIn n []
unfolding AllIn
all_none n d m = elim m [ ]

pub all_append : (n : ℕ) (xs ys : List Derivative) → AllIn n xs → AllIn n ys → AllIn n (xs ++ ys)
unfolding AllIn
all_append n xs ys p q d m = ⊎_elim (p d) (q d) (member_either xs ys m)

pub all_one : (n : ℕ) (d : Derivative) → InBook n d → AllIn n (d ∷ [])
unfolding AllIn
all_one n d ok e m = subst (InBook n) (sym (member_one m)) ok

pub all_entered : (n : ℕ) (list ds : List Derivative) → AllIn n list → AllIn n ds → AllIn n (entered same_derivative list ds)
unfolding AllIn
all_entered n list ds p q d m = ⊎_elim (p d) (q d) (entered_member same_derivative list ds m)

pub all_grows : (old new : List Node) (ds : List Derivative) → Grows old new → AllIn (length old) ds → AllIn (length new) ds
unfolding AllIn
all_grows old new ds g ok d m =
    let l = grows_long old new g in let p = (ok d m).0 in let q = (ok d m).1 in (omega arith, omega arith)

pub trees_grow : (old new : List Node) (ds : List Derivative) → Grows old new → AllIn (length old) ds →
    map (as_trees new) ds ≡ map (as_trees old) ds
unfolding AllIn
trees_grow old new [] g ok = refl
trees_grow old new (d ∷ ds) g ok =
    ap₂ (λ x l. x ∷ l)
    (ap₂ (λ a b. (d.0, a, b)) (grows_tree old new d.1 g (ok d here).0) (grows_tree old new d.2 g (ok d here).1))
    (trees_grow old new ds g (λ e m. ok e (there m)))

-- sameness of derivatives by numbers is that by expressions

same_bool : (a b : Bool) → (a ≡ true → b ≡ true) → (b ≡ true → a ≡ true) → a ≡ b
same_bool true b p q = sym (p refl)
same_bool false true p q = q refl
same_bool false false p q = refl

same_number_tree : (nodes : List Node) (i j : ℕ) → Fine nodes → i < length nodes → j < length nodes →
    eqb i j ≡ same_expr (tree nodes i) (tree nodes j)
same_number_tree nodes i j fine p q = same_bool (eqb i j) (same_expr (tree nodes i) (tree nodes j))
    (λ e. equal_same_expr (tree nodes i) (tree nodes j) (ap (tree nodes) (eqb-true i j e)))
    (λ e. eq-eqb i j (tree_once nodes i j fine p q (same_expr_equal (tree nodes i) (tree nodes j) e)))

pub same_told : (nodes : List Node) → Fine nodes → (x y : Derivative) → InBook (length nodes) x → InBook (length nodes) y →
    same_derivative x y ≡ same_derived (as_trees nodes x) (as_trees nodes y)
same_told nodes fine x y p q =
    and_assoc (eqb x.0 y.0) (eqb x.1 y.1) (eqb x.2 y.2)
    ∙ ap₂ (λ a b. eqb x.0 y.0 && (a && b))
    (same_number_tree nodes x.1 y.1 fine p.0 q.0)
    (same_number_tree nodes x.2 y.2 fine p.1 q.1)

-- books of derivatives by numbers are those by expressions
pub entered_trees : (nodes : List Node) → Fine nodes → (list ds : List Derivative) → AllIn (length nodes) list →
    AllIn (length nodes) ds →
    map (as_trees nodes) (entered same_derivative list ds) ≡ entered same_derived (map (as_trees nodes) list) (map (as_trees nodes) ds)
unfolding AllIn
entered_trees nodes fine list ds p q =
    entered_map (as_trees nodes) same_derivative same_derived (InBook (length nodes)) (same_told nodes fine) list ds p q

-- the derivatives of a number

ders_follow : (bodies : ℕ → Expr) (n r k : ℕ) →
    get_or (grown (rule_ders bodies (nulls_of bodies n)) r) k [] ≡ cond (ltb k r) (ders_below bodies n k (bodies k)) []
ders_follow bodies n r k = ⊎_elim
    (λ (lt : k < r). grown_at (rule_ders bodies (nulls_of bodies n)) r k [] lt ∙ sym (cond-true _ _ _ (lt-ltb k r lt)))
    (λ (le : r ≤ k). get_or_past (grown (rule_ders bodies (nulls_of bodies n)) r) k []
    (omega (arith, grown_length (rule_ders bodies (nulls_of bodies n)) r))
    ∙ sym (cond-false _ _ _ (le-ltb k r le)))
    (cases_lt k r)

pub ders_past : (nodes : List Node) (bodies : List ℕ) (r i : ℕ) → length nodes ≤ i → ders_at nodes bodies r i ≡ []
unfolding ders_at
ders_past nodes bodies r i le = ap (ders_below (body_of nodes bodies) (length bodies) r) (tree_past nodes i le)

pub ders_step : (nodes : List Node) (bodies : List ℕ) (r i : ℕ) → i < length nodes → length nodes ≤ 512 →
    ders_at nodes bodies r i ≡ ders_node nodes bodies r i (get_or nodes i Nothing)
unfolding ders_at null_at
ders_step nodes bodies r i lt small =
    ap (ders_below (body_of nodes bodies) (length bodies) r) (tree_built nodes i lt small) ∙ go (get_or nodes i Nothing) refl
  where
    go : (n : Node) → get_or nodes i Nothing ≡ n → ders_below (body_of nodes bodies) (length bodies) r (built nodes i n) ≡ ders_node nodes bodies r i n
    go Nothing is = refl
    go Empty is = refl
    go (Simple n) is = refl
    go (Rule k) is = ders_follow (body_of nodes bodies) (length bodies) r k
        ∙ ap (λ e. cond (ltb k r) (ders_below (body_of nodes bodies) (length bodies) k e) []) (sym (body_tree nodes bodies k small))
    go (Element n c) is = refl
    go (Union a b) is = refl
    go (Seq a b) is = refl
    go (Star a) is = ap (λ e. once (map (joined e) (ders_below (body_of nodes bodies) (length bodies) r (tree nodes (earlier i a)))))
        (sym (tree_built nodes i lt small ∙ ap (built nodes i) is))

-- growth leaves bodies, nullability and derivatives as they are
pub bodies_grow : (old new : List Node) (bodies : List ℕ) → Grows old new → Below (length old) bodies →
    body_of new bodies ≡ body_of old bodies
unfolding shown tree
bodies_grow old new bodies g ok = λ i k. get_or (Rattle.expressions.proofs.Shown.shown_grows old new bodies g ok i) k none

pub nulls_grow : (old new : List Node) (bodies : List ℕ) (r i : ℕ) → Grows old new → Below (length old) bodies → i < length old →
    null_at new bodies r i ≡ null_at old bodies r i
unfolding null_at
nulls_grow old new bodies r i g ok lt =
    ap₂ (λ b e. nullable? (nulls_of b r) e) (bodies_grow old new bodies g ok) (grows_tree old new i g lt)

pub ders_grow : (old new : List Node) (bodies : List ℕ) (r i : ℕ) → Grows old new → Below (length old) bodies → i < length old →
    ders_at new bodies r i ≡ ders_at old bodies r i
unfolding ders_at
ders_grow old new bodies r i g ok lt =
    ap₂ (λ b e. ders_below b (length bodies) r e) (bodies_grow old new bodies g ok) (grows_tree old new i g lt)

-- joining

pub join_other : (e s : Expr) → (e ≡ empty → ⊥) → join e s ≡ seq e s
join_other none s ne = refl
join_other empty s ne = elim (ne refl) [ ]
join_other (simple b) s ne = refl
join_other (rule k) s ne = refl
join_other (element n c) s ne = refl
join_other (union a b) s ne = refl
join_other (seq a b) s ne = refl
join_other (star a) s ne = refl
