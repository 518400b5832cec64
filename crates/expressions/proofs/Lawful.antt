-- The test of lawful recursion accepts a rule exactly when it is lawful.
use Rattle.std.proofs.Common.{◌≡◌, ℕ, ◌<◌, ◌≤◌, Bool, true, false, cond, ◌||◌, ◌⊎◌, sym, refl, ap, ◌∙◌, inl, inr, ⊎_elim, arith}
use Rattle.std.proofs.lemmas.Bool.{false≢true, or_cases, leb-true, leb-false, ltb-true, ltb-false, cases_lt, cases_eq}
use Rattle.theory.specs.Language.{Expr, none, empty, simple, rule, element, union, seq, star}
use Rattle.theory.specs.Derivative.{Null}
use Rattle.theory.specs.Recursion.{Mentions, mention, of_left, of_right, of_first, of_second, of_guarded, of_star, LawfulRule, LawfulRules}
use Rattle.meaning.specs.Functions.{nullable?, nulls_of, nullable_of}
use Rattle.meaning.proofs.Functions.{nullable_sound}
use Rattle.meaning.proofs.Rules.{nulls_sound, nullable_law}
use Rattle.expressions.specs.Ways.{bent, guarded, open?}

or_none : (a b : Bool) → (a || b) ≡ false → (a ≡ false) × (b ≡ false)
or_none true b e = elim (false≢true (sym e)) [ ]
or_none false b e = (refl, e)

-- what the test passes is lawful

pub bent_sound : {bodies : ℕ → Expr} {e : Expr} {j : ℕ} {s g : Bool} (k : ℕ) → Mentions bodies e j s g →
    bent k e ≡ false → j < k
bent_sound {j = j} k mention e = leb-false k j e
bent_sound k (of_left m) e = bent_sound k m (or_none _ _ e).0
bent_sound k (of_right m) e = bent_sound k m (or_none _ _ e).1
bent_sound k (of_first m) e = bent_sound k m (or_none _ _ e).0
bent_sound k (of_second p m) e = bent_sound k m (or_none _ _ e).1
bent_sound k (of_guarded p m) e = bent_sound k m (or_none _ _ e).1
bent_sound k (of_star m) e = bent_sound k m e

guarded_sound : {bodies : ℕ → Expr} {e : Expr} {j : ℕ} {s g : Bool} (k : ℕ) → Mentions bodies e j s g →
    guarded k e ≡ false → (j < k) ⊎ ((j ≡ k) × (s ≡ true))
guarded_sound {j = j} k mention e =
    let le : j ≤ k = ltb-false k j e in
    ⊎_elim (λ (same : j ≡ k). inr (same, refl)) (λ (other : j ≡ k → ⊥). inl (omega arith)) (cases_eq j k)
guarded_sound k (of_left m) e = guarded_sound k m (or_none _ _ e).0
guarded_sound k (of_right m) e = guarded_sound k m (or_none _ _ e).1
guarded_sound k (of_first m) e = inl (bent_sound k m (or_none _ _ e).0)
guarded_sound k (of_second p m) e = guarded_sound k m (or_none _ _ e).1
guarded_sound k (of_guarded p m) e = guarded_sound k m (or_none _ _ e).1
guarded_sound k (of_star m) e = inl (bent_sound k m e)

open_sound : {bodies : ℕ → Expr} {e : Expr} {j : ℕ} {s g : Bool} (k : ℕ) (null : Expr → Bool) →
    ((a : Expr) → bent k a ≡ false → Null bodies a → null a ≡ true) →
    ((a : Expr) → null a ≡ true → Null bodies a) →
    Mentions bodies e j s g → open? k null e ≡ false → (j < k) ⊎ ((j ≡ k) × (s ≡ true) × (g ≡ true))
open_sound {j = j} k null all ok mention e = inl (leb-false k j e)
open_sound k null all ok (of_left m) e = open_sound k null all ok m (or_none _ _ e).0
open_sound k null all ok (of_right m) e = open_sound k null all ok m (or_none _ _ e).1
open_sound k null all ok (of_first m) e = inl (bent_sound k m (or_none _ _ e).0)
open_sound {j = j} {s = s} {g = g} k null all ok (of_second {a = a} {b = b} p m) e =
    let parts = or_none (bent k a) _ e in
    open_sound k null all ok m
    (sym (ap (λ t. cond t (open? k null b) (guarded k b)) (all a parts.0 p)) ∙ parts.1)
open_sound {j = j} {s = s} k null all ok (of_guarded {a = a} {b = b} {g = g} p m) e =
    go (null a) refl (or_none (bent k a) _ e).1
  where
    go : (t : Bool) → null a ≡ t → cond t (open? k null b) (guarded k b) ≡ false →
        (j < k) ⊎ ((j ≡ k) × (s ≡ true) × (true ≡ true))
    go true is rest = elim (p (ok a is)) [ ]
    go false is rest = ⊎_elim (λ lt. inl lt) (λ last. inr (last.0, last.1, refl)) (guarded_sound k m rest)
open_sound k null all ok (of_star m) e = inl (bent_sound k m e)

-- what the test refuses is not lawful

stuck : {bodies : ℕ → Expr} {a b : Expr} {j : ℕ} {s g : Bool} (P : ℕ → Bool → Bool → Type 0) →
    ((i : ℕ) (t h : Bool) → Mentions bodies (seq a b) i t h → P i t h) → Mentions bodies b j s g →
    (P j s g → ⊥) → (P j s true → ⊥) → ⊥
stuck P all m one two =
    two (all _ _ _ (of_guarded (λ p. one (all _ _ _ (of_second p m))) m))

below_or_not : (j k : ℕ) → ((j < k → ⊥) → ⊥) → j < k
below_or_not j k no_way = ⊎_elim (λ (lt : j < k). lt)
    (λ (le : k ≤ j). absurd (no_way (λ (lt : j < k). let z : ⊥ = omega arith in z))) (cases_lt j k)

bent_complete : {bodies : ℕ → Expr} (k : ℕ) (e : Expr) → bent k e ≡ true →
    ((j : ℕ) (s g : Bool) → Mentions bodies e j s g → j < k) → ⊥
bent_complete k none e all = false≢true e
bent_complete k empty e all = false≢true e
bent_complete k (simple b) e all = false≢true e
bent_complete k (rule j) e all =
    let le : k ≤ j = leb-true k j e in let lt : j < k = all j true false mention in omega arith
bent_complete k (element n c) e all = false≢true e
bent_complete k (union a b) e all = ⊎_elim
    (λ left. bent_complete k a left (λ j s g m. all j s g (of_left m)))
    (λ right. bent_complete k b right (λ j s g m. all j s g (of_right m)))
    (or_cases _ _ e)
bent_complete k (seq a b) e all = ⊎_elim
    (λ left. bent_complete k a left (λ j s g m. all j false g (of_first m)))
    (λ right. bent_complete k b right (λ j s g m.
    below_or_not j k (λ not_below. stuck (λ i t h. i < k) all m not_below not_below)))
    (or_cases _ _ e)
bent_complete k (star a) e all = bent_complete k a e (λ j s g m. all j false g (of_star m))

-- a mention of an earlier rule, or of rule k itself by a straight way
abbrev Straight : ℕ → ℕ → Bool → Type 0
Straight k j s = (j < k) ⊎ ((j ≡ k) × (s ≡ true))

straight_or_not : (k j : ℕ) (s : Bool) → ((Straight k j s → ⊥) → ⊥) → Straight k j s
straight_or_not k j true no_way = ⊎_elim (λ (lt : j < k). inl lt)
    (λ (le : k ≤ j). ⊎_elim (λ (same : j ≡ k). inr (same, refl))
    (λ (other : j ≡ k → ⊥). absurd (no_way (λ found. ⊎_elim
    (λ (lt : j < k). let z : ⊥ = omega arith in z) (λ at. other at.0) found))) (cases_eq j k))
    (cases_lt j k)
straight_or_not k j false no_way = inl (below_or_not j k (λ not_below.
    no_way (λ found. ⊎_elim not_below (λ at. false≢true at.1) found)))

guarded_complete : {bodies : ℕ → Expr} (k : ℕ) (e : Expr) → guarded k e ≡ true →
    ((j : ℕ) (s g : Bool) → Mentions bodies e j s g → Straight k j s) → ⊥
guarded_complete k none e all = false≢true e
guarded_complete k empty e all = false≢true e
guarded_complete k (simple b) e all = false≢true e
guarded_complete k (rule j) e all =
    let lt : k < j = ltb-true k j e in
    ⊎_elim (λ (less : j < k). let z : ⊥ = omega arith in z) (λ at. let same : j ≡ k = at.0 in let z : ⊥ = omega arith in z)
    (all j true false mention)
guarded_complete k (element n c) e all = false≢true e
guarded_complete k (union a b) e all = ⊎_elim
    (λ left. guarded_complete k a left (λ j s g m. all j s g (of_left m)))
    (λ right. guarded_complete k b right (λ j s g m. all j s g (of_right m)))
    (or_cases _ _ e)
guarded_complete k (seq a b) e all = ⊎_elim
    (λ left. bent_complete k a left (λ j s g m.
    ⊎_elim (λ lt. lt) (λ at. elim (false≢true at.1) [ ]) (all j false g (of_first m))))
    (λ right. guarded_complete k b right (λ j s g m.
    straight_or_not k j s (λ not_straight. stuck (λ i t h. Straight k i t) all m not_straight not_straight)))
    (or_cases _ _ e)
guarded_complete k (star a) e all = bent_complete k a e (λ j s g m.
    ⊎_elim (λ lt. lt) (λ at. elim (false≢true at.1) [ ]) (all j false g (of_star m)))

abbrev Last : ℕ → ℕ → Bool → Bool → Type 0
Last k j s g = (j < k) ⊎ ((j ≡ k) × (s ≡ true) × (g ≡ true))

last_straight : (k j : ℕ) (s g : Bool) → Last k j s g → Straight k j s
last_straight k j s g (inl lt) = inl lt
last_straight k j s g (inr at) = inr (at.0, at.1)

open_complete : {bodies : ℕ → Expr} (k : ℕ) (null : Expr → Bool) →
    ((a : Expr) → null a ≡ true → Null bodies a) → (e : Expr) → open? k null e ≡ true →
    ((j : ℕ) (s g : Bool) → Mentions bodies e j s g → Last k j s g) → ⊥
open_complete k null ok none e all = false≢true e
open_complete k null ok empty e all = false≢true e
open_complete k null ok (simple b) e all = false≢true e
open_complete k null ok (rule j) e all =
    let le : k ≤ j = leb-true k j e in
    ⊎_elim (λ (less : j < k). let z : ⊥ = omega arith in z) (λ at. false≢true at.2) (all j true false mention)
open_complete k null ok (element n c) e all = false≢true e
open_complete k null ok (union a b) e all = ⊎_elim
    (λ left. open_complete k null ok a left (λ j s g m. all j s g (of_left m)))
    (λ right. open_complete k null ok b right (λ j s g m. all j s g (of_right m)))
    (or_cases _ _ e)
open_complete {bodies} k null ok (seq a b) e all = ⊎_elim
    (λ left. bent_complete k a left (λ j s g m.
    ⊎_elim (λ lt. lt) (λ at. elim (false≢true at.1) [ ]) (all j false g (of_first m))))
    (λ right. go (null a) refl right (open_complete k null ok b))
    (or_cases _ _ e)
  where
    go : (t : Bool) → null a ≡ t → cond t (open? k null b) (guarded k b) ≡ true →
        (open? k null b ≡ true → ((j : ℕ) (s g : Bool) → Mentions bodies b j s g → Last k j s g) → ⊥) → ⊥
    go true is right rec = rec right (λ j s g m. all j s g (of_second (ok a is) m))
    go false is right rec = guarded_complete k b right (λ j s g m.
        straight_or_not k j s (λ not_straight. stuck (λ i t h. Last k i t h) all m
        (λ found. not_straight (last_straight k j s g found))
        (λ found. not_straight (last_straight k j s true found))))
open_complete k null ok (star a) e all = bent_complete k a e (λ j s g m.
    ⊎_elim (λ lt. lt) (λ at. elim (false≢true at.1) [ ]) (all j false g (of_star m)))

-- the nullability that the test of rule k uses: only earlier rules are known
below_null : (bodies : ℕ → Expr) (k : ℕ) → LawfulRules bodies k → (a : Expr) → bent k a ≡ false →
    Null bodies a → nullable? (nulls_of bodies k) a ≡ true
unfolding nullable_of
below_null bodies k lawful a within p =
    (nullable_law bodies k lawful a (λ j s g m. bent_sound k m within)).1 p

pub accepted : (bodies : ℕ → Expr) (k : ℕ) → LawfulRules bodies k →
    open? k (nullable? (nulls_of bodies k)) (bodies k) ≡ false → LawfulRule bodies k
accepted bodies k lawful e j s g m =
    open_sound k (nullable? (nulls_of bodies k)) (below_null bodies k lawful)
    (nullable_sound bodies (nulls_of bodies k) (nulls_sound bodies k)) m e

pub refused : (bodies : ℕ → Expr) (k : ℕ) →
    open? k (nullable? (nulls_of bodies k)) (bodies k) ≡ true → LawfulRule bodies k → ⊥
refused bodies k e lawful =
    open_complete k (nullable? (nulls_of bodies k))
    (nullable_sound bodies (nulls_of bodies k) (nulls_sound bodies k)) (bodies k) e lawful
