-- The tables of a lawful grammar's rules are right, so the functions are.
use Rattle.std.proofs.Common.{◌≡◌, ℕ, zero, suc, ◌<◌, ◌≤◌, Bool, true, false, List, [], ◌∷◌, length, get_or, sym, refl, ap, ◌∙◌, subst, ⊎_elim, arith}
use Rattle.std.proofs.lemmas.List.{get_or_append_left, get_or_past, get_or_push, length_push}
use Rattle.std.proofs.lemmas.Bool.{cases_eq, cases_lt, false≢true}
use Rattle.theory.specs.Language.{Expr, none, empty, simple, rule, element, union, seq, star}
use Rattle.theory.specs.Derivative.{join, Null, null_rule, Der, der_simple, der_element, der_rule, der_left, der_right, der_first, der_second, der_star}
use Rattle.theory.specs.Recursion.{Mentions, mention, of_left, of_right, of_first, of_second, of_guarded, of_star, LawfulRules}
use Rattle.theory.specs.Inequality.{Member}
use Rattle.meaning.specs.Functions.{nullable?, Derived, derivatives?, grown, rule_null, nulls_of, rule_ders, ders_of, nullable_of, derivatives_of, OfRules, Within, NullableLaw, DerivativesLaw, FollowedLaw, WithinLaw}
use Rattle.meaning.proofs.Functions.{nullable_sound, nullable_complete, nullable_agree, derivatives_sound, derivatives_complete, derivatives_agree}

-- a grown table has n entries
pub grown_length : {A : Type 0} (next : List A → ℕ → A) (n : ℕ) → length (grown next n) ≡ n
grown_length next zero = refl
grown_length next (suc n) =
    let before = grown_length next n in
    omega (arith, length_push (grown next n) (next (grown next n) n), before)

-- each of them is made from those before it
pub grown_at : {A : Type 0} (next : List A → ℕ → A) (n k : ℕ) (d : A) → k < n →
    get_or (grown next n) k d ≡ next (grown next k) k
grown_at next zero k d lt = absurd (omega arith)
grown_at next (suc n) k d lt = ⊎_elim
    (λ (same : k ≡ n). ap (λ j. get_or (grown next (suc n)) j d) same
    ∙ get_or_push (grown next n) (next (grown next n) n) d n (grown_length next n)
    ∙ ap (λ j. next (grown next j) j) (sym same))
    (λ (other : k ≡ n → ⊥).
    get_or_append_left (grown next n) (next (grown next n) n ∷ []) d k (omega (arith, grown_length next n))
    ∙ grown_at next n k d (omega arith))
    (cases_eq k n)

-- nullability of the rules

nulls_at : (bodies : ℕ → Expr) (n k : ℕ) → k < n → nulls_of bodies n k ≡ nullable? (nulls_of bodies k) (bodies k)
unfolding nulls_of
nulls_at bodies n k lt = grown_at (rule_null bodies) n k false lt

nulls_past : (bodies : ℕ → Expr) (n k : ℕ) → n ≤ k → nulls_of bodies n k ≡ false
unfolding nulls_of
nulls_past bodies n k le =
    get_or_past (grown (rule_null bodies) n) k false (omega (arith, grown_length (rule_null bodies) n))

nulls_sound_to : (bodies : ℕ → Expr) (bound n k : ℕ) → n ≤ bound → nulls_of bodies n k ≡ true →
    Null bodies (rule k)
nulls_sound_to bodies zero n k le e =
    elim (false≢true (sym (nulls_past bodies n k (omega arith)) ∙ e)) [ ]
nulls_sound_to bodies (suc bound) n k le e = ⊎_elim
    (λ (lt : k < n). null_rule (nullable_sound bodies (nulls_of bodies k)
    (λ j. nulls_sound_to bodies bound k j (omega arith)) (bodies k) (sym (nulls_at bodies n k lt) ∙ e)))
    (λ (past : n ≤ k). elim (false≢true (sym (nulls_past bodies n k past) ∙ e)) [ ])
    (cases_lt k n)

pub nulls_sound : (bodies : ℕ → Expr) (n k : ℕ) → nulls_of bodies n k ≡ true → Null bodies (rule k)
nulls_sound bodies n k e = nulls_sound_to bodies n n k (omega arith) e

-- a mention that comes after no left side that is not nullable is of an earlier rule
earlier : (bodies : ℕ → Expr) (n : ℕ) → LawfulRules bodies n → (k j : ℕ) (s : Bool) → k < n →
    Mentions bodies (bodies k) j s false → j < k
earlier bodies n lawful k j s lt m = ⊎_elim
    (λ (lower : j < k). lower)
    (λ (self : (j ≡ k) × (s ≡ true) × (false ≡ true)). elim (false≢true self.2) [ ])
    (lawful k lt j s false m)

-- the table holds at a rule what its body is
pub nulls_follow : (bodies : ℕ → Expr) (n : ℕ) → LawfulRules bodies n → (k : ℕ) → k < n →
    nulls_of bodies n k ≡ nullable? (nulls_of bodies n) (bodies k)
nulls_follow bodies n lawful k lt =
    nulls_at bodies n k lt
    ∙ nullable_agree bodies (nulls_of bodies k) (nulls_of bodies n) (nulls_sound bodies k) (bodies k)
    (λ j s m. let lower : j < k = earlier bodies n lawful k j s lt m in
    nulls_at bodies k j lower ∙ sym (nulls_at bodies n j (omega arith)))

un_rule : {bodies : ℕ → Expr} {k : ℕ} → Null bodies (rule k) → Null bodies (bodies k)
un_rule (null_rule p) = p

nulls_complete_to : (bodies : ℕ → Expr) (n : ℕ) → LawfulRules bodies n → (bound k : ℕ) →
    k < bound → k < n → Null bodies (rule k) → nulls_of bodies n k ≡ true
nulls_complete_to bodies n lawful zero k small lt p = absurd (omega arith)
nulls_complete_to bodies n lawful (suc bound) k small lt p =
    nulls_follow bodies n lawful k lt
    ∙ nullable_complete bodies (nulls_of bodies n) (un_rule p)
    (λ j s m. let lower : j < k = earlier bodies n lawful k j s lt m in
    nulls_complete_to bodies n lawful bound j (omega arith) (omega arith))

pub nulls_complete : (bodies : ℕ → Expr) (n : ℕ) → LawfulRules bodies n → (k : ℕ) →
    k < n → Null bodies (rule k) → nulls_of bodies n k ≡ true
nulls_complete bodies n lawful k lt p = nulls_complete_to bodies n lawful (suc k) k (omega arith) lt p

pub nullable_law : NullableLaw
unfolding nullable_of
nullable_law bodies n lawful e of_rules = (
  nullable_sound bodies (nulls_of bodies n) (nulls_sound bodies n) e,
  λ p. nullable_complete bodies (nulls_of bodies n) p
      (λ k s m. nulls_complete bodies n lawful k (of_rules k s false m)),
)

-- derivatives of the rules

-- those of the first k rules, with the nullability of all n
before : (ℕ → Expr) → ℕ → ℕ → ℕ → List Derived
before bodies n k j = get_or (grown (rule_ders bodies (nulls_of bodies n)) k) j []

before_at : (bodies : ℕ → Expr) (n k j : ℕ) → j < k →
    before bodies n k j ≡ derivatives? (nulls_of bodies n) (before bodies n j) (bodies j)
unfolding before
before_at bodies n k j lt = grown_at (rule_ders bodies (nulls_of bodies n)) k j [] lt

before_past : (bodies : ℕ → Expr) (n k j : ℕ) → k ≤ j → before bodies n k j ≡ []
unfolding before
before_past bodies n k j le =
    get_or_past (grown next k) j [] (omega (arith, grown_length next k))
  where
    next : List (List Derived) → ℕ → List Derived
    next = rule_ders bodies (nulls_of bodies n)

before_sound_to : (bodies : ℕ → Expr) (n bound k j : ℕ) (d : Derived) → k ≤ bound →
    Member d (before bodies n k j) → Der bodies (rule j) d.0 d.1 d.2
before_sound_to bodies n zero k j d le m =
    elim (subst (λ (ds : List Derived). Member d ds) (before_past bodies n k j (omega arith)) m) [ ]
before_sound_to bodies n (suc bound) k j d le m = ⊎_elim
    (λ (lt : j < k). der_rule (derivatives_sound bodies (nulls_of bodies n) (before bodies n j)
    (nulls_sound bodies n) (λ i x. before_sound_to bodies n bound j i x (omega arith))
    (bodies j) d (subst (λ (ds : List Derived). Member d ds) (before_at bodies n k j lt) m)))
    (λ (past : k ≤ j). elim (subst (λ (ds : List Derived). Member d ds) (before_past bodies n k j past) m) [ ])
    (cases_lt j k)

ders_before : (bodies : ℕ → Expr) (n k : ℕ) → ders_of bodies n k ≡ before bodies n n k
unfolding ders_of before
ders_before bodies n k = refl

pub ders_sound : (bodies : ℕ → Expr) (n k : ℕ) (d : Derived) → Member d (ders_of bodies n k) →
    Der bodies (rule k) d.0 d.1 d.2
ders_sound bodies n k d m = before_sound_to bodies n n n k d (omega arith)
    (subst (λ (ds : List Derived). Member d ds) (ders_before bodies n k) m)

pub ders_follow : (bodies : ℕ → Expr) (n : ℕ) → LawfulRules bodies n → (k : ℕ) → k < n →
    ders_of bodies n k ≡ derivatives? (nulls_of bodies n) (ders_of bodies n) (bodies k)
ders_follow bodies n lawful k lt =
    ders_before bodies n k ∙ before_at bodies n n k lt
    ∙ derivatives_agree bodies (nulls_of bodies n) (before bodies n k) (ders_of bodies n)
    (nulls_sound bodies n) (bodies k)
    (λ j s m. let lower : j < k = earlier bodies n lawful k j s lt m in
    before_at bodies n k j lower ∙ sym (before_at bodies n n j (omega arith)) ∙ sym (ders_before bodies n j))

un_der_rule : {bodies : ℕ → Expr} {k h : ℕ} {c r : Expr} → Der bodies (rule k) h c r → Der bodies (bodies k) h c r
un_der_rule (der_rule d) = d

ders_complete_to : (bodies : ℕ → Expr) (n : ℕ) → LawfulRules bodies n → (bound k : ℕ) →
    k < bound → k < n → (h : ℕ) (c r : Expr) → Der bodies (rule k) h c r →
    Member (h, c, r) (ders_of bodies n k)
ders_complete_to bodies n lawful zero k small lt h c r d = absurd (omega arith)
ders_complete_to bodies n lawful (suc bound) k small lt h c r d =
    subst (λ (ds : List Derived). Member (h, c, r) ds) (sym (ders_follow bodies n lawful k lt))
    (derivatives_complete bodies (nulls_of bodies n) (ders_of bodies n) (un_der_rule d)
    (λ j s m. let lower : j < k = earlier bodies n lawful k j s lt m in
    nulls_complete bodies n lawful j (omega arith))
    (λ j s m. let lower : j < k = earlier bodies n lawful k j s lt m in
    ders_complete_to bodies n lawful bound j (omega arith) (omega arith)))

pub ders_complete : (bodies : ℕ → Expr) (n : ℕ) → LawfulRules bodies n → (k : ℕ) → k < n →
    (h : ℕ) (c r : Expr) → Der bodies (rule k) h c r → Member (h, c, r) (ders_of bodies n k)
ders_complete bodies n lawful k lt = ders_complete_to bodies n lawful (suc k) k (omega arith) lt

pub derivatives_law : DerivativesLaw
unfolding derivatives_of
derivatives_law bodies n lawful e of_rules h c r = (
  derivatives_sound bodies (nulls_of bodies n) (ders_of bodies n) (nulls_sound bodies n)
      (ders_sound bodies n) e (h, c, r),
  λ d. derivatives_complete bodies (nulls_of bodies n) (ders_of bodies n) d
      (λ k s m. nulls_complete bodies n lawful k (of_rules k s false m))
      (λ k s m. ders_complete bodies n lawful k (of_rules k s false m)),
)

pub followed_law : FollowedLaw
unfolding nullable_of derivatives_of
followed_law bodies n lawful k lt = (nulls_follow bodies n lawful k lt, ders_follow bodies n lawful k lt)

-- mentions of n rules

pub within_of_rules : (bodies : ℕ → Expr) (n : ℕ) (e : Expr) → Within n e → OfRules bodies n e
within_of_rules bodies n e w k s g m = go m w
  where
    go : {e : Expr} {s g : Bool} → Mentions bodies e k s g → Within n e → k < n
    go mention w = w
    go (of_left m) w = go m w.0
    go (of_right m) w = go m w.1
    go (of_first m) w = go m w.0
    go (of_second p m) w = go m w.1
    go (of_guarded p m) w = go m w.1
    go (of_star m) w = go m w

within_join : (n : ℕ) (r s : Expr) → Within n r → Within n s → Within n (join r s)
within_join n none s p q = (p, q)
within_join n empty s p q = q
within_join n (simple b) s p q = (p, q)
within_join n (rule k) s p q = (p, q)
within_join n (element e c) s p q = (p, q)
within_join n (union a b) s p q = (p, q)
within_join n (seq a b) s p q = (p, q)
within_join n (star a) s p q = (p, q)

within_der : (bodies : ℕ → Expr) (n : ℕ) → ((k : ℕ) → Within n (bodies k)) →
    {e : Expr} {h : ℕ} {c r : Expr} → Within n e → Der bodies e h c r → Within n c × Within n r
within_der bodies n all w der_simple = (tt, tt)
within_der bodies n all w der_element = (w, tt)
within_der bodies n all w (der_rule {k = k} d) = within_der bodies n all (all k) d
within_der bodies n all w (der_left d) = within_der bodies n all w.0 d
within_der bodies n all w (der_right d) = within_der bodies n all w.1 d
within_der bodies n all w (der_first {b = b} {r = r} d e) =
    let (c, x) = within_der bodies n all w.0 d in
    (c, subst (Within n) (sym e) (within_join n r b x w.1))
within_der bodies n all w (der_second p d) = within_der bodies n all w.1 d
within_der bodies n all w (der_star {a = a} {r = r} d e) =
    let (c, x) = within_der bodies n all w d in
    (c, subst (Within n) (sym e) (within_join n r (star a) x w))

pub within_law : WithinLaw
within_law bodies n all e h c r w d = within_der bodies n all w d
