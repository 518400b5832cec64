-- The functions tell nullability and list the derivatives of a lawful grammar's expressions.
use Rattle.std.proofs.Common.{◌≡◌, ℕ, Bool, true, false, cond, ◌&&◌, ◌||◌, ◌⊎◌, List, [], ◌++◌, map, sym, refl, ap, ◌∙◌, subst, ap₂, inl, inr, ⊎_elim}
use native.Mathlib.Decide.{ℕ_discrete}
use Rattle.std.proofs.lemmas.Bool.{and_parts, and_from, and_left, or_cases, or_left, or_right, cases_Bool, cond-true, eqb-true, false≢true}
use Rattle.theory.specs.Language.{Expr, ExprDiscrete, none, empty, simple, rule, element, union, seq, star}
use Rattle.theory.specs.Derivative.{Null, null_empty, null_rule, null_left, null_right, null_seq, null_star, Der, der_simple, der_element, der_rule, der_left, der_right, der_first, der_second, der_star}
use Rattle.theory.specs.Recursion.{Mentions, mention, of_left, of_right, of_first, of_second, of_star}
use Rattle.theory.specs.Inequality.{Member, here}
use Rattle.meaning.specs.Functions.{nullable?, Derived, same_expr, same_derived, once, joined, derivatives?}
use Rattle.meaning.proofs.Members.{member_left, member_right, member_either, member_one, member_map, map_member, entered_member, entered_new}

-- same means equal

pub same_expr_equal : (a b : Expr) → same_expr a b ≡ true → a ≡ b
same_expr_equal a b = go (ExprDiscrete ℕ_discrete a b)
  where
    go : (d : Dec (a ≡ b)) → (elim d [ yes e ↦ true | no e ↦ false ]) ≡ true → a ≡ b
    go (yes e) ok = e
    go (no e) ok = elim (false≢true ok) [ ]

pub equal_same_expr : (a b : Expr) → a ≡ b → same_expr a b ≡ true
equal_same_expr a b same = go (ExprDiscrete ℕ_discrete a b)
  where
    go : (d : Dec (a ≡ b)) → (elim d [ yes e ↦ true | no e ↦ false ]) ≡ true
    go (yes e) = refl
    go (no e) = elim (e same) [ ]

pub same_derived_equal : (a b : Derived) → same_derived a b ≡ true → a ≡ b
same_derived_equal a b ok =
    let (h, more) = and_parts _ _ ok in
    let (c, r) = and_parts _ _ more in
    let eh = eqb-true a.0 b.0 h in
    let ec = same_expr_equal a.1 b.1 c in
    let er = same_expr_equal a.2 b.2 r in
    λ i. (eh i, ec i, er i)

once_from : {d : Derived} {ds : List Derived} → Member d ds → Member d (once ds)
once_from {ds = ds} m = entered_new same_derived same_derived_equal [] ds m

of_once : {d : Derived} (ds : List Derived) → Member d (once ds) → Member d ds
of_once {d} ds m = go (entered_member same_derived [] ds m)
  where
    go : Member d [] ⊎ Member d ds → Member d ds
    go (inl bad) = elim bad [ ]
    go (inr ok) = ok

-- nullability

abbrev pub SoundNulls : (ℕ → Expr) → (ℕ → Bool) → Type 0
SoundNulls bodies nulls = (k : ℕ) → nulls k ≡ true → Null bodies (rule k)

pub nullable_sound : (bodies : ℕ → Expr) (nulls : ℕ → Bool) → SoundNulls bodies nulls →
    (e : Expr) → nullable? nulls e ≡ true → Null bodies e
nullable_sound bodies nulls ok none e = elim (false≢true e) [ ]
nullable_sound bodies nulls ok empty e = null_empty
nullable_sound bodies nulls ok (simple b) e = elim (false≢true e) [ ]
nullable_sound bodies nulls ok (rule k) e = ok k e
nullable_sound bodies nulls ok (element n c) e = elim (false≢true e) [ ]
nullable_sound bodies nulls ok (union a b) e = ⊎_elim
    (λ l. null_left (nullable_sound bodies nulls ok a l))
    (λ r. null_right (nullable_sound bodies nulls ok b r))
    (or_cases (nullable? nulls a) (nullable? nulls b) e)
nullable_sound bodies nulls ok (seq a b) e =
    let (l, r) = and_parts (nullable? nulls a) (nullable? nulls b) e in
    null_seq (nullable_sound bodies nulls ok a l) (nullable_sound bodies nulls ok b r)
nullable_sound bodies nulls ok (star a) e = null_star

-- The table need only be right at the mentions that nullability reaches: those that come after no
-- left side that is not nullable.
pub nullable_complete : (bodies : ℕ → Expr) (nulls : ℕ → Bool) {e : Expr} → Null bodies e →
    ((k : ℕ) (s : Bool) → Mentions bodies e k s false → Null bodies (rule k) → nulls k ≡ true) →
    nullable? nulls e ≡ true
nullable_complete bodies nulls null_empty ok = refl
nullable_complete bodies nulls (null_rule {k = k} n) ok = ok k true mention (null_rule n)
nullable_complete bodies nulls (null_left n) ok =
    or_left _ _ (nullable_complete bodies nulls n (λ k s m. ok k s (of_left m)))
nullable_complete bodies nulls (null_right n) ok =
    or_right _ _ (nullable_complete bodies nulls n (λ k s m. ok k s (of_right m)))
nullable_complete bodies nulls (null_seq n m) ok =
    and_from _ _ (nullable_complete bodies nulls n (λ k s w. ok k false (of_first w)))
    (nullable_complete bodies nulls m (λ k s w. ok k s (of_second n w)))
nullable_complete bodies nulls null_star ok = refl

-- two tables that agree at those mentions
pub nullable_agree : (bodies : ℕ → Expr) (nulls others : ℕ → Bool) → SoundNulls bodies nulls →
    (e : Expr) → ((k : ℕ) (s : Bool) → Mentions bodies e k s false → nulls k ≡ others k) →
    nullable? nulls e ≡ nullable? others e
nullable_agree bodies nulls others ok none same = refl
nullable_agree bodies nulls others ok empty same = refl
nullable_agree bodies nulls others ok (simple b) same = refl
nullable_agree bodies nulls others ok (rule k) same = same k true mention
nullable_agree bodies nulls others ok (element n c) same = refl
nullable_agree bodies nulls others ok (union a b) same = ap₂ ◌||◌
    (nullable_agree bodies nulls others ok a (λ k s m. same k s (of_left m)))
    (nullable_agree bodies nulls others ok b (λ k s m. same k s (of_right m)))
nullable_agree bodies nulls others ok (seq a b) same =
    go (cases_Bool (nullable? nulls a))
    (nullable_agree bodies nulls others ok a (λ k s m. same k false (of_first m)))
    (λ n. nullable_agree bodies nulls others ok b (λ k s m. same k s (of_second n m)))
  where
    go : (nullable? nulls a ≡ true) ⊎ (nullable? nulls a ≡ false) →
        nullable? nulls a ≡ nullable? others a →
        (Null bodies a → nullable? nulls b ≡ nullable? others b) →
        (nullable? nulls a && nullable? nulls b) ≡ (nullable? others a && nullable? others b)
    go (inl t) l r = ap₂ ◌&&◌ l (r (nullable_sound bodies nulls ok a t))
    go (inr f) l r = and_left _ _ f ∙ sym (and_left _ _ (sym l ∙ f))
nullable_agree bodies nulls others ok (star a) same = refl

-- derivatives

abbrev pub SoundDers : (ℕ → Expr) → (ℕ → List Derived) → Type 0
SoundDers bodies ders = (k : ℕ) (d : Derived) → Member d (ders k) → Der bodies (rule k) d.0 d.1 d.2

when_member : {d : Derived} (b : Bool) (ds : List Derived) → Member d (cond b ds []) →
    (b ≡ true) × Member d ds
when_member true ds m = (refl, m)
when_member false ds m = elim m [ ]

pub derivatives_sound : (bodies : ℕ → Expr) (nulls : ℕ → Bool) (ders : ℕ → List Derived) →
    SoundNulls bodies nulls → SoundDers bodies ders →
    (e : Expr) (d : Derived) → Member d (derivatives? nulls ders e) → Der bodies e d.0 d.1 d.2
derivatives_sound bodies nulls ders okn okd none d m = elim m [ ]
derivatives_sound bodies nulls ders okn okd empty d m = elim m [ ]
derivatives_sound bodies nulls ders okn okd (simple b) d m =
    subst (λ (x : Derived). Der bodies (simple b) x.0 x.1 x.2) (sym (member_one m)) der_simple
derivatives_sound bodies nulls ders okn okd (rule k) d m = okd k d m
derivatives_sound bodies nulls ders okn okd (element n c) d m =
    subst (λ (x : Derived). Der bodies (element n c) x.0 x.1 x.2) (sym (member_one m)) der_element
derivatives_sound bodies nulls ders okn okd (union a b) d m = ⊎_elim
    (λ l. der_left (derivatives_sound bodies nulls ders okn okd a d l))
    (λ r. der_right (derivatives_sound bodies nulls ders okn okd b d r))
    (member_either (derivatives? nulls ders a) (derivatives? nulls ders b) (of_once _ m))
derivatives_sound bodies nulls ders okn okd (seq a b) d m = ⊎_elim
    (λ l. let (x, in_a, e) = map_member (joined b) (derivatives? nulls ders a) l in
    subst (λ (y : Derived). Der bodies (seq a b) y.0 y.1 y.2) (sym e)
    (der_first (derivatives_sound bodies nulls ders okn okd a x in_a) refl))
    (λ r. let (n, in_b) = when_member (nullable? nulls a) (derivatives? nulls ders b) r in
    der_second (nullable_sound bodies nulls okn a n) (derivatives_sound bodies nulls ders okn okd b d in_b))
    (member_either (map (joined b) (derivatives? nulls ders a)) _ (of_once _ m))
derivatives_sound bodies nulls ders okn okd (star a) d m =
    let (x, in_a, e) = map_member (joined (star a)) (derivatives? nulls ders a) (of_once _ m) in
    subst (λ (y : Derived). Der bodies (star a) y.0 y.1 y.2) (sym e)
    (der_star (derivatives_sound bodies nulls ders okn okd a x in_a) refl)

-- Here too the tables need only be right at the mentions that derivatives reach.
pub derivatives_complete : (bodies : ℕ → Expr) (nulls : ℕ → Bool) (ders : ℕ → List Derived)
    {e : Expr} {h : ℕ} {c r : Expr} → Der bodies e h c r →
    ((k : ℕ) (s : Bool) → Mentions bodies e k s false → Null bodies (rule k) → nulls k ≡ true) →
    ((k : ℕ) (s : Bool) → Mentions bodies e k s false → (h : ℕ) (c r : Expr) → Der bodies (rule k) h c r →
    Member (h, c, r) (ders k)) →
    Member (h, c, r) (derivatives? nulls ders e)
derivatives_complete bodies nulls ders der_simple okn okd = here
derivatives_complete bodies nulls ders der_element okn okd = here
derivatives_complete bodies nulls ders (der_rule {k = k} {h = h} {c = c} {r = r} d) okn okd =
    okd k true mention h c r (der_rule d)
derivatives_complete bodies nulls ders (der_left d) okn okd =
    once_from (member_left _ (derivatives_complete bodies nulls ders d
    (λ k s m. okn k s (of_left m)) (λ k s m. okd k s (of_left m))))
derivatives_complete bodies nulls ders (der_right {a = a} d) okn okd =
    once_from (member_right (derivatives? nulls ders a) (derivatives_complete bodies nulls ders d
    (λ k s m. okn k s (of_right m)) (λ k s m. okd k s (of_right m))))
derivatives_complete bodies nulls ders (der_first {a = a} {b = b} {h = h} {c = c} {r = r} {s = s} d e) okn okd =
    subst (λ x. Member {A = Derived} (h, c, x) (derivatives? nulls ders (seq a b))) (sym e)
    (once_from (member_left (cond (nullable? nulls a) (derivatives? nulls ders b) [])
    (member_map (joined b) (derivatives_complete bodies nulls ders d
    (λ k t m. okn k false (of_first m)) (λ k t m. okd k false (of_first m))))))
derivatives_complete bodies nulls ders (der_second {a = a} {b = b} {h = h} {c = c} {r = r} n d) okn okd =
    once_from (member_right (map (joined b) (derivatives? nulls ders a))
    (subst (λ (ds : List Derived). Member (h, c, r) ds)
    (sym (cond-true (nullable? nulls a) (derivatives? nulls ders b) []
    (nullable_complete bodies nulls n (λ k s m. okn k false (of_first m)))))
    (derivatives_complete bodies nulls ders d
    (λ k s m. okn k s (of_second n m)) (λ k s m. okd k s (of_second n m)))))
derivatives_complete bodies nulls ders (der_star {a = a} {h = h} {c = c} {r = r} {s = s} d e) okn okd =
    subst (λ x. Member {A = Derived} (h, c, x) (derivatives? nulls ders (star a))) (sym e)
    (once_from (member_map (joined (star a)) (derivatives_complete bodies nulls ders d
    (λ k t m. okn k false (of_star m)) (λ k t m. okd k false (of_star m)))))

pub derivatives_agree : (bodies : ℕ → Expr) (nulls : ℕ → Bool) (ders others : ℕ → List Derived) →
    SoundNulls bodies nulls →
    (e : Expr) → ((k : ℕ) (s : Bool) → Mentions bodies e k s false → ders k ≡ others k) →
    derivatives? nulls ders e ≡ derivatives? nulls others e
derivatives_agree bodies nulls ders others ok none same = refl
derivatives_agree bodies nulls ders others ok empty same = refl
derivatives_agree bodies nulls ders others ok (simple b) same = refl
derivatives_agree bodies nulls ders others ok (rule k) same = same k true mention
derivatives_agree bodies nulls ders others ok (element n c) same = refl
derivatives_agree bodies nulls ders others ok (union a b) same = ap₂ (λ x y. once (x ++ y))
    (derivatives_agree bodies nulls ders others ok a (λ k s m. same k s (of_left m)))
    (derivatives_agree bodies nulls ders others ok b (λ k s m. same k s (of_right m)))
derivatives_agree bodies nulls ders others ok (seq a b) same =
    ap₂ (λ x y. once (map (joined b) x ++ y))
    (derivatives_agree bodies nulls ders others ok a (λ k s m. same k false (of_first m)))
    (go (nullable? nulls a) refl
    (λ n. derivatives_agree bodies nulls ders others ok b (λ k s m. same k s (of_second n m))))
  where
    go : (t : Bool) → nullable? nulls a ≡ t →
        (Null bodies a → derivatives? nulls ders b ≡ derivatives? nulls others b) →
        cond t (derivatives? nulls ders b) [] ≡ cond t (derivatives? nulls others b) []
    go true e later = later (nullable_sound bodies nulls ok a e)
    go false e later = refl
derivatives_agree bodies nulls ders others ok (star a) same =
    ap (λ x. once (map (joined (star a)) x))
    (derivatives_agree bodies nulls ders others ok a (λ k s m. same k false (of_star m)))
