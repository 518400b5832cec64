-- The expressions of a loaded grammar have names of their kinds, and so have those of its states that are
-- reached from a rule.
use Rattle.std.proofs.Common.{◌≡◌, ℕ, zero, suc, ◌+◌, ◌<◌, ◌≤◌, true, ltb, List, [], ◌∷◌, ◌++◌, map, length, get_or, sym, refl, subst, ⊎_elim, arith}
use Rattle.std.proofs.lemmas.List.{get_or_past, get_or_append_left, get_or_at, length-append}
use Rattle.std.proofs.lemmas.Bool.{cases_lt, cases_eq, and_parts, false≢true}
use Rattle.model.specs.declared.names.Kind.{Kind}
use Rattle.model.specs.declared.names.Kind.TheVariants as kind
use Rattle.model.specs.declared.names.Name.{Name}
use Rattle.model.specs.declared.nodes.Node.{Node}
use Rattle.model.specs.declared.nodes.Node.TheVariants.{Nothing, Empty, Simple, Rule, Element, Union, Seq, Star}
use Rattle.model.specs.declared.rows.Row.{Row}
use Rattle.model.specs.Machine.{Plain as State, derivatives_at}
use Rattle.theory.specs.Language.{Expr, none, empty, simple, rule, element, union, seq, star}
use Rattle.theory.specs.Derivative.{join, Der, der_simple, der_element, der_rule, der_left, der_right, der_first, der_second, der_star}
use Rattle.theory.specs.Tree.{of_node, growing, trees}
use Rattle.theory.specs.Machine.{Machine}
use Rattle.theory.specs.Inequality.{derivative, derivative_count, no_derivative, EitherOr, either_or, Reachable, at_root, by_content, by_rest}
use Rattle.meaning.specs.Names.{Kinded}
use Rattle.meaning.proofs.Members.{member_at}
use Rattle.inequality.proofs.Sides.{either_or_found}
use Rattle.search.specs.Answered.{root_of}
use Rattle.tables.specs.Checks.{same_kind, kind_at, may_stand, is_kind}
use Rattle.tables.specs.Plain.{Plain}
use Rattle.load.specs.Loaded.{Loaded, bodies_of, rules_of}

kinds : (k l : Kind) → same_kind k l ≡ true → k ≡ l
kinds kind.Simple kind.Simple e = refl
kinds kind.Simple kind.Element e = absurd (false≢true e)
kinds kind.Element kind.Simple e = absurd (false≢true e)
kinds kind.Element kind.Element e = refl

-- a node that may stand is an expression with names of their kinds
of_node_kinded : (names : List Name) (n : ℕ) (before : List Expr) → ((i : ℕ) → Kinded names (get_or before i none)) → (x : Node) → may_stand names n x ≡ true → Kinded names (of_node before x)
of_node_kinded names n before all Nothing e = tt
of_node_kinded names n before all Empty e = tt
of_node_kinded names n before all (Simple b) e = kinds (kind_at names b) kind.Simple (and_parts (ltb b (length names)) _ e).1
of_node_kinded names n before all (Rule k) e = tt
of_node_kinded names n before all (Element b c) e =
    (kinds (kind_at names b) kind.Element (and_parts (ltb b (length names)) _ (and_parts (is_kind kind.Element names b) _ e).0).1, all c)
of_node_kinded names n before all (Union a b) e = (all a, all b)
of_node_kinded names n before all (Seq a b) e = (all a, all b)
of_node_kinded names n before all (Star a) e = all a

-- one more
push_kinded : (names : List Name) (before : List Expr) (x : Expr) → ((i : ℕ) → Kinded names (get_or before i none)) → Kinded names x →
    (i : ℕ) → Kinded names (get_or (before ++ x ∷ []) i none)
push_kinded names before x all is i = ⊎_elim
    (λ (lt : i < length before). subst (Kinded names) (sym (get_or_append_left before (x ∷ []) none i lt)) (all i))
    (λ (past : length before ≤ i). ⊎_elim
    (λ (e : i ≡ length before). subst (Kinded names) (sym (get_or_at before x [] none i (sym e))) is)
    (λ (ne : i ≡ length before → ⊥). subst (Kinded names) (sym (get_or_past (before ++ x ∷ []) i none (omega (arith, length-append before (x ∷ []))))) tt)
    (cases_eq i (length before)))
    (cases_lt i (length before))

growing_kinded : (names : List Name) (before : List Expr) (nodes : List Node) → ((i : ℕ) → Kinded names (get_or before i none)) →
    ((j : ℕ) → j < length nodes → may_stand names (length before + j) (get_or nodes j Nothing) ≡ true) →
    (i : ℕ) → Kinded names (get_or (growing before nodes) i none)
growing_kinded names before [] all stands = all
growing_kinded names before (x ∷ nodes) all stands =
    growing_kinded names (before ++ of_node before x ∷ []) nodes
    (push_kinded names before (of_node before x) all (of_node_kinded names (length before + 0) before all x (stands 0 (omega arith))))
    (λ j lt. subst (λ k. may_stand names k (get_or nodes j Nothing) ≡ true) (omega (arith, length-append before (of_node before x ∷ []))) (stands (suc j) (omega arith)))

trees_kinded : (t : Plain) (states : List State) → Loaded t states → (i : ℕ) → Kinded t.names (get_or (trees t.nodes) i none)
trees_kinded t states l = growing_kinded t.names [] t.nodes (λ i. tt)
    (λ j lt. subst (λ k. may_stand t.names k (get_or t.nodes j Nothing) ≡ true) (omega arith) (l.tables.standing j lt))

pub bodies_kinded : (t : Plain) (states : List State) → Loaded t states → (k : ℕ) → Kinded t.names (bodies_of t k)
bodies_kinded t states l k = go t.bodies k
  where
    go : (bs : List ℕ) (k : ℕ) → Kinded t.names (get_or (map (λ n. get_or (trees t.nodes) n none) bs) k none)
    go [] k = tt
    go (b ∷ bs) zero = trees_kinded t states l b
    go (b ∷ bs) (suc k) = go bs k

join_kinded : (names : List Name) (r s : Expr) → Kinded names r → Kinded names s → Kinded names (join r s)
join_kinded names none s a b = (a, b)
join_kinded names empty s a b = b
join_kinded names (simple x) s a b = (a, b)
join_kinded names (rule k) s a b = (a, b)
join_kinded names (element e c) s a b = (a, b)
join_kinded names (union x y) s a b = (a, b)
join_kinded names (seq x y) s a b = (a, b)
join_kinded names (star x) s a b = (a, b)

-- contents and rests of derivatives keep it
pub der_kinded : (names : List Name) (bodies : ℕ → Expr) → ((k : ℕ) → Kinded names (bodies k)) →
    {e : Expr} {h : ℕ} {c r : Expr} → Kinded names e → Der bodies e h c r → Kinded names c × Kinded names r
der_kinded names bodies all is der_simple = (tt, tt)
der_kinded names bodies all is der_element = (is.1, tt)
der_kinded names bodies all is (der_rule {k = k} d) = der_kinded names bodies all (all k) d
der_kinded names bodies all is (der_left d) = der_kinded names bodies all is.0 d
der_kinded names bodies all is (der_right d) = der_kinded names bodies all is.1 d
der_kinded names bodies all is (der_first {b = b} {r = r} d e) =
    let k = der_kinded names bodies all is.0 d in (k.0, subst (Kinded names) (sym e) (join_kinded names r b k.1 is.1))
der_kinded names bodies all is (der_second n d) = der_kinded names bodies all is.1 d
der_kinded names bodies all is (der_star {a = a} {r = r} d e) =
    let k = der_kinded names bodies all is d in (k.0, subst (Kinded names) (sym e) (join_kinded names r (star a) k.1 is))

-- a state whose expression has names of their kinds
abbrev pub KindedState : (t : Plain) (states : List State) → Loaded t states → ℕ → Type 0
KindedState t states l q = (q < length states) × Kinded t.names (get_or l.exprs q none)

derivative_kinded : (t : Plain) (m : Machine) (l : Loaded t m.states) (q i : ℕ) → i < derivative_count m q → KindedState t m.states l q →
    KindedState t m.states l (derivative m q i).1 × KindedState t m.states l (derivative m q i).2
derivative_kinded t m l q i lt is =
    let d = l.stand.der_sound q (derivative m q i) is.0 (member_at (derivatives_at m.states q) i no_derivative lt) in
    let k = der_kinded t.names (bodies_of t) (bodies_kinded t m.states l) is.1 d.2 in
    ((d.0, k.0), (d.1, k.1))

-- so has the left of every inequality that is reachable from a question's root
pub reachable_kinded : (t : Plain) (m : Machine) (l : Loaded t m.states) (a b : ℕ) → a < rules_of t → {r : Row} → Reachable m (root_of a b) r →
    KindedState t m.states l r.left
unfolding either_or
reachable_kinded t m l a b la at_root =
    let is = l.stand.rule_states a la in (is.0, subst (Kinded t.names) (sym is.1) tt)
reachable_kinded t m l a b la (by_content {r = r} {e = e} reach narrow mem) =
    let found = either_or_found m r e mem in
    let P : EitherOr → Type 0 = λ x. KindedState t m.states l x.content.left in
    subst P (sym found.7) (derivative_kinded t m l r.left found.1 found.4 (reachable_kinded t m l a b la reach)).0
reachable_kinded t m l a b la (by_rest {r = r} {e = e} reach narrow mem) =
    let found = either_or_found m r e mem in
    let P : EitherOr → Type 0 = λ x. KindedState t m.states l x.rest.left in
    subst P (sym found.7) (derivative_kinded t m l r.left found.1 found.4 (reachable_kinded t m l a b la reach)).1
