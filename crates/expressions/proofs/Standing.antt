-- States as they are numbered, and what they stand for.
use Rattle.std.proofs.Common.{◌≡◌, ℕ, zero, suc, ◌+◌, ◌<◌, ◌≤◌, Bool, true, false, cond, eqb, List, [], ◌∷◌, ◌++◌, map, length, get_or, sym, refl, ap, ◌∙◌, subst, ap₂, ⊎_elim, arith}
use Rattle.std.proofs.lemmas.List.{length_push, length-map, get_or_append_left, get_or_push, get_or_past}
use Rattle.std.proofs.lemmas.Bool.{cases_lt, cases_eq, false≢true, eq-eqb, eqb-true}
use Rattle.model.specs.declared.nodes.Node.{Node}
use Rattle.model.specs.Machine.{Derivative, Plain, no_state, nullable_at, derivatives_at}
use Rattle.theory.specs.Language.{Expr, none, empty, simple, rule, element, union, seq, star}
use Rattle.theory.specs.Derivative.{Null, null_rule, Der, der_rule}
use Rattle.theory.specs.Recursion.{LawfulRules}
use Rattle.theory.specs.Count.{each, enter}
use Rattle.theory.specs.Tree.{body_of}
use Rattle.theory.specs.Inequality.{Member, here, there}
use Rattle.theory.specs.Stands.{Stands}
use Rattle.meaning.specs.Functions.{Derived, nullable?, derivatives?, nulls_of, ders_of}
use Rattle.meaning.proofs.Functions.{nullable_sound, nullable_complete, derivatives_sound, derivatives_complete}
use Rattle.meaning.proofs.Rules.{nulls_sound, nulls_complete, ders_sound, ders_complete}
use Rattle.meaning.proofs.Members.{member_map, map_member}
use Rattle.expressions.specs.Numbers.{tree, null_at}
use Rattle.book.specs.Place.{place}
use Rattle.expressions.specs.Records.{same_number}
use Rattle.expressions.specs.Fine.{Fine, Below, Grows, shown}
use Rattle.expressions.specs.Derived.{as_trees, InBook, AllIn, ders_below, ders_at}
use Rattle.expressions.specs.States.{named, Separate, Stated, AllStated, total}
use Rattle.expressions.proofs.Fine.{grows_same, grows_by, grows_long, grows_at, place_is}
use Rattle.expressions.proofs.Shown.{shown_at, below_at}
use Rattle.expressions.proofs.Inject.{tree_once}
use Rattle.expressions.proofs.Books.{place_le, enter_old, enter_new}
use Rattle.expressions.proofs.Ders.{trees_grow, nulls_grow, ders_grow}

-- numbers of states

place_found : (l : List ℕ) (x k : ℕ) → k < length l → get_or l k 512 ≡ x → place same_number l x ≤ k
place_found [] x k lt e = absurd (omega arith)
place_found (y ∷ l) x zero lt e = go (eqb x y) (eq-eqb x y (sym e))
  where
    go : (b : Bool) → b ≡ true → cond b 0 (suc (place same_number l x)) ≤ 0
    go true is = omega arith
    go false is = elim (false≢true is) [ ]
place_found (y ∷ l) x (suc k) lt e = go (eqb x y) (place_found l x k (omega arith) e)
  where
    go : (b : Bool) → place same_number l x ≤ k → cond b 0 (suc (place same_number l x)) ≤ suc k
    go true le = omega arith
    go false le = omega arith

-- the book of numbers after an entry
abbrev pub Has : List ℕ → ℕ → ℕ → List ℕ → Type 0
Has numbers x i after = Separate after × Grows numbers after × (i < length after) × (get_or after i 512 ≡ x)

pub enter_has : (numbers : List ℕ) (x i : ℕ) (after : List ℕ) → Separate numbers → i ≡ place same_number numbers x →
    after ≡ enter same_number numbers x → i < length after → Has numbers x i after
unfolding Separate
enter_has numbers x i after ok is e within = ⊎_elim
    (λ (old : place same_number numbers x < length numbers).
    let stays : after ≡ numbers = e ∙ enter_old same_number numbers x old in
    subst (λ l. Has numbers x i l) (sym stays) (
      ok,
      grows_same numbers,
      subst (λ k. k < length numbers) (sym is) old,
      ap (λ k. get_or numbers k 512) is ∙ place_is same_number eqb-true numbers x 512 old,
    ))
    (λ (new : length numbers ≤ place same_number numbers x).
    let pushed : after ≡ numbers ++ x ∷ [] = e ∙ enter_new same_number numbers x new in
    let le = place_le same_number numbers x in
    let at : length numbers ≡ i = omega arith in
    let long = length_push numbers x in
    subst (λ l. Has numbers x i l) (sym pushed)
    (separate new, grows_by numbers (x ∷ []) (numbers ++ x ∷ []) refl, omega arith, get_or_push numbers x 512 i at))
    (cases_lt (place same_number numbers x) (length numbers))
  where
    apart : length numbers ≤ place same_number numbers x → (k : ℕ) → k < length numbers → get_or numbers k 512 ≡ x → ⊥
    apart new k lt same = let l = place_found numbers x k lt same in omega arith

    separate : length numbers ≤ place same_number numbers x → (j k : ℕ) → j < length (numbers ++ x ∷ []) → k < length (numbers ++ x ∷ []) →
        get_or (numbers ++ x ∷ []) j 512 ≡ get_or (numbers ++ x ∷ []) k 512 → j ≡ k
    separate new j k lj lk same = ⊎_elim
        (λ (a : j < length numbers). ⊎_elim
        (λ (b : k < length numbers). ok j k a b
        (sym (get_or_append_left numbers (x ∷ []) 512 j a) ∙ same ∙ get_or_append_left numbers (x ∷ []) 512 k b))
        (λ (b : length numbers ≤ k).
        let at : length numbers ≡ k = omega (arith, length_push numbers x) in
        absurd (apart new j a (sym (get_or_append_left numbers (x ∷ []) 512 j a) ∙ same ∙ get_or_push numbers x 512 k at)))
        (cases_lt k (length numbers)))
        (λ (a : length numbers ≤ j).
        let at : length numbers ≡ j = omega (arith, length_push numbers x) in
        ⊎_elim
        (λ (b : k < length numbers).
        absurd (apart new k b (sym (get_or_append_left numbers (x ∷ []) 512 k b) ∙ sym same ∙ get_or_push numbers x 512 j at)))
        (λ (b : length numbers ≤ k). let l = length_push numbers x in omega arith)
        (cases_lt k (length numbers)))
        (cases_lt j (length numbers))

-- derivatives by states, as numbers are added
pub named_stay : (a b : List ℕ) (ds : List Derivative) → Grows a b → AllIn (length a) ds → map (named b) ds ≡ map (named a) ds
unfolding AllIn
named_stay a b [] e ok = refl
named_stay a b (d ∷ ds) e ok = ap₂ (λ x l. x ∷ l)
    (ap₂ (λ x y. (d.0, x, y)) (grows_at a b d.1 512 e (ok d here).0) (grows_at a b d.2 512 e (ok d here).1))
    (named_stay a b ds e (λ y m. ok y (there m)))

pub all_extends : (a b : List ℕ) (ds : List Derivative) → Grows a b → AllIn (length a) ds → AllIn (length b) ds
unfolding AllIn
all_extends a b ds e ok d m =
    let l = grows_long a b e in let p = (ok d m).0 in let q = (ok d m).1 in (omega arith, omega arith)

pub map_map : {A B C : Type 0} (f : B → C) (g : A → B) (xs : List A) → map f (map g xs) ≡ map (λ x. f (g x)) xs
map_map f g [] = refl
map_map f g (x ∷ xs) = ap (λ l. f (g x) ∷ l) (map_map f g xs)

-- what holds of a state stays when nodes and numbers are added
pub stated_stays : (old new : List Node) (bodies a b : List ℕ) (i : ℕ) (p : Plain) → Grows old new → Grows a b →
    Below (length old) bodies → Below (length old) a → i < length old → Stated old bodies a i p → Stated new bodies b i p
unfolding AllIn
stated_stays old new bodies a b i p g e below numbers_in lt s = record {
  null = s.null ∙ sym (nulls_grow old new bodies (length bodies) i g below lt);
  within = all_extends a b p.derivatives e s.within;
  ders = sym (map_map (as_trees new) (named b) p.derivatives)
      ∙ ap (map (as_trees new)) (named_stay a b p.derivatives e s.within)
      ∙ trees_grow old new (map (named a) p.derivatives) g in_book
      ∙ map_map (as_trees old) (named a) p.derivatives ∙ s.ders
      ∙ sym (ders_grow old new bodies (length bodies) i g below lt);
}
  where
    in_book : (d : Derivative) → Member d (map (named a) p.derivatives) → InBook (length old) d
    in_book d m = go (map_member (named a) p.derivatives m)
      where
        go : (x : Derivative) × Member x p.derivatives × (d ≡ named a x) → InBook (length old) d
        go found = subst (InBook (length old)) (sym found.2) (
          below_at (length old) a found.0.1 512 numbers_in (s.within found.0 found.1).0,
          below_at (length old) a found.0.2 512 numbers_in (s.within found.0 found.1).1,
        )

pub all_stated_stays : (old new : List Node) (bodies a b : List ℕ) (states : List Plain) → Grows old new → Grows a b →
    Below (length old) bodies → Below (length old) a → length states ≤ length a →
    AllStated old bodies a states → AllStated new bodies b states
unfolding AllStated
all_stated_stays old new bodies a b states g e below numbers_in le ok q lt =
    let inside : q < length a = omega arith in
    subst (λ i. Stated new bodies b i (get_or states q no_state)) (sym (grows_at a b q 512 e inside))
    (stated_stays old new bodies a b (get_or a q 512) (get_or states q no_state) g e below numbers_in
    (below_at (length old) a q 512 numbers_in inside) (ok q lt))

pub all_stated_none : (nodes : List Node) (bodies numbers : List ℕ) → AllStated nodes bodies numbers []
unfolding AllStated
all_stated_none nodes bodies numbers q lt = absurd (omega arith)

pub all_stated_more : (nodes : List Node) (bodies numbers : List ℕ) (states : List Plain) (p : Plain) →
    AllStated nodes bodies numbers states → Stated nodes bodies numbers (get_or numbers (length states) 512) p →
    AllStated nodes bodies numbers (states ++ p ∷ [])
unfolding AllStated
all_stated_more nodes bodies numbers states p ok s q lt = ⊎_elim
    (λ (less : q < length states). subst (Stated nodes bodies numbers (get_or numbers q 512))
    (sym (get_or_append_left states (p ∷ []) no_state q less)) (ok q less))
    (λ (past : length states ≤ q).
    let at : length states ≡ q = omega (arith, length_push states p) in
    subst (Stated nodes bodies numbers (get_or numbers q 512)) (sym (get_or_push states p no_state q at))
    (subst (λ n. Stated nodes bodies numbers (get_or numbers n 512) p) at s))
    (cases_lt q (length states))

pub total_more : (states : List Plain) (p : Plain) → total (states ++ p ∷ []) ≡ total states + length p.derivatives
total_more [] p = omega arith
total_more (x ∷ states) p = let e = total_more states p in omega arith

pub shown_length : (nodes : List Node) (numbers : List ℕ) → length (shown nodes numbers) ≡ length numbers
unfolding shown
shown_length nodes numbers = length-map numbers (tree nodes)

-- mentions of rules

each_length : (n : ℕ) → length (each n (λ k. rule k ∷ [])) ≡ n
each_length zero = refl
each_length (suc n) = let e = each_length n in omega (arith, length_push (each n (λ k. rule k ∷ [])) (rule n))

each_at : (n k : ℕ) → k < n → get_or (each n (λ j. rule j ∷ [])) k none ≡ rule k
each_at zero k lt = absurd (omega arith)
each_at (suc n) k lt = ⊎_elim
    (λ (same : k ≡ n). get_or_push (each n (λ j. rule j ∷ [])) (rule n) none k (each_length n ∙ sym same) ∙ ap rule (sym same))
    (λ (other : k ≡ n → ⊥). get_or_append_left (each n (λ j. rule j ∷ [])) (rule n ∷ []) none k (omega (arith, each_length n))
    ∙ each_at n k (omega arith))
    (cases_eq k n)

rule_number : Expr → ℕ
rule_number none = 0
rule_number empty = 0
rule_number (simple b) = 0
rule_number (rule k) = k
rule_number (element e c) = 0
rule_number (union a b) = 0
rule_number (seq a b) = 0
rule_number (star a) = 0

pub mention_count : (nodes : List Node) (numbers : List ℕ) (n : ℕ) → shown nodes numbers ≡ each n (λ k. rule k ∷ []) → length numbers ≡ n
unfolding shown
mention_count nodes numbers n e = sym (length-map numbers (tree nodes)) ∙ ap length e ∙ each_length n

pub mention_at : (nodes : List Node) (numbers : List ℕ) (n k : ℕ) → shown nodes numbers ≡ each n (λ j. rule j ∷ []) → k < n →
    tree nodes (get_or numbers k 512) ≡ rule k
mention_at nodes numbers n k e lt =
    let count = mention_count nodes numbers n e in
    sym (shown_at nodes numbers k 512 (omega arith)) ∙ ap (λ l. get_or l k none) e ∙ each_at n k lt

-- mentions of distinct rules are distinct
pub mentions_separate : (nodes : List Node) (numbers : List ℕ) (n : ℕ) → shown nodes numbers ≡ each n (λ k. rule k ∷ []) → Separate numbers
unfolding Separate rule_number
mentions_separate nodes numbers n e j k lj lk same =
    let count = mention_count nodes numbers n e in
    ap rule_number (sym (mention_at nodes numbers n j e (omega arith)) ∙ ap (tree nodes) same ∙ mention_at nodes numbers n k e (omega arith))

-- the machine stands for its expressions

module _ (nodes : List Node) (bodies numbers : List ℕ) (states : List Plain) (rules : ℕ)
    (fine : Fine nodes) (numbers_in : Below (length nodes) numbers) (apart : Separate numbers)
    (count : length states ≡ length numbers) (stated : AllStated nodes bodies numbers states)
    (all_rules : rules ≡ length bodies) (lawful : LawfulRules (body_of nodes bodies) rules)
    (mentioned : (k : ℕ) → k < rules → (k < length numbers) × (tree nodes (get_or numbers k 512) ≡ rule k)) where
  B : ℕ → Expr
  B = body_of nodes bodies

  missing : (k : ℕ) → rules ≤ k → body_of nodes bodies k ≡ none
  missing k le = get_or_past (map (λ n. get_or (Rattle.theory.specs.Tree.trees nodes) n none) bodies) k none
      (let l = length-map bodies (λ n. get_or (Rattle.theory.specs.Tree.trees nodes) n none) in omega arith)

  no_null : Null (body_of nodes bodies) none → ⊥
  no_null p = elim p [ ]

  un_null : {k : ℕ} → Null (body_of nodes bodies) (rule k) → Null (body_of nodes bodies) (body_of nodes bodies k)
  un_null (null_rule p) = p

  no_der : {h : ℕ} {c r : Expr} → Der (body_of nodes bodies) none h c r → ⊥
  no_der p = elim p [ ]

  un_der : {k h : ℕ} {c r : Expr} → Der (body_of nodes bodies) (rule k) h c r → Der (body_of nodes bodies) (body_of nodes bodies k) h c r
  un_der (der_rule d) = d

  nulls_all : (k : ℕ) → Null (body_of nodes bodies) (rule k) → nulls_of (body_of nodes bodies) rules k ≡ true
  nulls_all k p = ⊎_elim
      (λ (lt : k < rules). nulls_complete (body_of nodes bodies) rules lawful k lt p)
      (λ (le : rules ≤ k). absurd (no_null (subst (Null (body_of nodes bodies)) (missing k le) (un_null p))))
      (cases_lt k rules)

  ders_all : (k h : ℕ) (c r : Expr) → Der (body_of nodes bodies) (rule k) h c r → Member (h, c, r) (ders_of (body_of nodes bodies) rules k)
  ders_all k h c r p = ⊎_elim
      (λ (lt : k < rules). ders_complete (body_of nodes bodies) rules lawful k lt h c r p)
      (λ (le : rules ≤ k). absurd (no_der (subst (λ e. Der (body_of nodes bodies) e h c r) (missing k le) (un_der p))))
      (cases_lt k rules)

  expr_at : (q : ℕ) → q < length states → get_or (shown nodes numbers) q none ≡ tree nodes (get_or numbers q 512)
  expr_at q lt = shown_at nodes numbers q 512 (omega arith)

  null_is : (q : ℕ) → q < length states → nullable_at states q ≡ nullable? (nulls_of (body_of nodes bodies) rules) (get_or (shown nodes numbers) q none)
  unfolding AllStated null_at
  null_is q lt = (stated q lt).null
      ∙ ap₂ (λ n e. nullable? (nulls_of (body_of nodes bodies) n) e) (sym all_rules) (sym (expr_at q lt))

  ders_are : (q : ℕ) → q < length states →
      map (λ d. as_trees nodes (named numbers d)) (derivatives_at states q)
      ≡ derivatives? (nulls_of (body_of nodes bodies) rules) (ders_of (body_of nodes bodies) rules) (get_or (shown nodes numbers) q none)
  unfolding AllStated ders_at ders_of
  ders_are q lt = (stated q lt).ders
      ∙ ap₂ (λ n e. ders_below (body_of nodes bodies) n n e) (sym all_rules) (sym (expr_at q lt))

  bounds : (q : ℕ) (d : Derivative) → q < length states → Member d (derivatives_at states q) → (d.1 < length states) × (d.2 < length states)
  unfolding AllStated AllIn
  bounds q d lt m = let p = (stated q lt).within d m in let a = p.0 in let b = p.1 in (omega arith, omega arith)

  pub stands : Stands (body_of nodes bodies) rules states (shown nodes numbers)
  unfolding Separate
  stands = record {
    count = shown_count ∙ sym count;
    rule_states = λ k lt. let p = (mentioned k lt).0 in (omega arith, shown_at nodes numbers k 512 (mentioned k lt).0 ∙ (mentioned k lt).1);
    distinct = λ p q lp lq same. apart p q (omega arith) (omega arith)
        (tree_once nodes (get_or numbers p 512) (get_or numbers q 512) fine
        (below_at (length nodes) numbers p 512 numbers_in (omega arith)) (below_at (length nodes) numbers q 512 numbers_in (omega arith))
        (sym (expr_at p lp) ∙ same ∙ expr_at q lq));
    null_sound = λ q lt e. nullable_sound (body_of nodes bodies) (nulls_of (body_of nodes bodies) rules) (nulls_sound (body_of nodes bodies) rules)
        (get_or (shown nodes numbers) q none) (sym (null_is q lt) ∙ e);
    null_complete = λ q lt p. null_is q lt ∙ nullable_complete (body_of nodes bodies) (nulls_of (body_of nodes bodies) rules) p (λ k s m. nulls_all k);
    der_sound = λ q d lt m. let b = bounds q d lt m in
        (b.0, b.1, sound q d lt m);
    der_complete = λ q h c r lt p. complete q h c r lt p;
  }
    where
      shown_count : length (shown nodes numbers) ≡ length numbers
      shown_count = shown_length nodes numbers

      sound : (q : ℕ) (d : Derivative) → q < length states → Member d (derivatives_at states q) →
          Der (body_of nodes bodies) (get_or (shown nodes numbers) q none) d.0 (get_or (shown nodes numbers) d.1 none) (get_or (shown nodes numbers) d.2 none)
      sound q d lt m =
          let b = bounds q d lt m in
          let found = derivatives_sound (body_of nodes bodies) (nulls_of (body_of nodes bodies) rules) (ders_of (body_of nodes bodies) rules)
          (nulls_sound (body_of nodes bodies) rules) (ders_sound (body_of nodes bodies) rules) (get_or (shown nodes numbers) q none)
          (as_trees nodes (named numbers d))
          (subst (λ (ds : List Derived). Member (as_trees nodes (named numbers d)) ds) (ders_are q lt) (member_map (λ x. as_trees nodes (named numbers x)) m)) in
          subst (λ x. Der (body_of nodes bodies) (get_or (shown nodes numbers) q none) d.0 x (get_or (shown nodes numbers) d.2 none)) (sym (expr_at d.1 b.0))
          (subst (λ x. Der (body_of nodes bodies) (get_or (shown nodes numbers) q none) d.0 (tree nodes (get_or numbers d.1 512)) x) (sym (expr_at d.2 b.1)) found)

      complete : (q h : ℕ) (c r : Expr) → q < length states → Der (body_of nodes bodies) (get_or (shown nodes numbers) q none) h c r →
          (d : Derivative) × Member d (derivatives_at states q) × (d.0 ≡ h) ×
          (get_or (shown nodes numbers) d.1 none ≡ c) × (get_or (shown nodes numbers) d.2 none ≡ r)
      complete q h c r lt p =
          let listed = derivatives_complete (body_of nodes bodies) (nulls_of (body_of nodes bodies) rules) (ders_of (body_of nodes bodies) rules) p
          (λ k s m. nulls_all k) (λ k s m. ders_all k) in
          let found = map_member (λ x. as_trees nodes (named numbers x)) (derivatives_at states q)
          (subst (λ (ds : List Derived). Member (h, c, r) ds) (sym (ders_are q lt)) listed) in
          let b = bounds q found.0 lt found.1 in (
            found.0,
            found.1,
            ap (λ (x : Derived). x.0) (sym found.2),
            expr_at found.0.1 b.0 ∙ ap (λ (x : Derived). x.1) (sym found.2),
            expr_at found.0.2 b.1 ∙ ap (λ (x : Derived). x.2) (sym found.2),
          )
