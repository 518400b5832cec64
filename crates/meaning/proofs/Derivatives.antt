-- Nullability and derivatives describe the language of an expression.
use Rattle.std.proofs.Common.{◌≡◌, ℕ, Bool, true, refl, subst}
use Rattle.theory.specs.Hedge.{Hedge, nothing, item, Follows, at_once, after}
use Rattle.theory.specs.Language.{Expr, none, empty, simple, rule, element, union, seq, star, In, in_empty, in_simple, in_element, in_rule, in_left, in_right, in_seq, in_none_of, in_more_of}
use Rattle.theory.specs.Derivative.{join, Null, null_empty, null_rule, null_left, null_right, null_seq, null_star, Der, der_simple, der_element, der_rule, der_left, der_right, der_first, der_second, der_star}
use Rattle.meaning.specs.Laws.{Nullability, ByDerivative, DerivativeLaw}

pub null_has_nothing : {bodies : ℕ → Expr} {e : Expr} (covers : ℕ → ℕ → Bool) → Null bodies e →
    In bodies covers e nothing
null_has_nothing covers null_empty = in_empty
null_has_nothing covers (null_rule n) = in_rule (null_has_nothing covers n)
null_has_nothing covers (null_left n) = in_left (null_has_nothing covers n)
null_has_nothing covers (null_right n) = in_right (null_has_nothing covers n)
null_has_nothing covers (null_seq n m) =
    in_seq at_once (null_has_nothing covers n) (null_has_nothing covers m)
null_has_nothing covers null_star = in_none_of

pub nothing_is_null : {bodies : ℕ → Expr} {covers : ℕ → ℕ → Bool} {e : Expr} →
    In bodies covers e nothing → Null bodies e
nothing_is_null in_empty = null_empty
nothing_is_null (in_rule p) = null_rule (nothing_is_null p)
nothing_is_null (in_left p) = null_left (nothing_is_null p)
nothing_is_null (in_right p) = null_right (nothing_is_null p)
nothing_is_null (in_seq at_once p q) = null_seq (nothing_is_null p) (nothing_is_null q)
nothing_is_null in_none_of = null_star
nothing_is_null (in_more_of f p q) = null_star

pub nullability : Nullability
nullability bodies covers e = (null_has_nothing covers, nothing_is_null)

-- a hedge of a joined rest is one of the rest followed by one of what is joined
pub of_join : {bodies : ℕ → Expr} {covers : ℕ → ℕ → Bool} (r : Expr) {s : Expr} {w : Hedge} →
    In bodies covers (join r s) w →
    (u : Hedge) × (v : Hedge) × Follows u v w × In bodies covers r u × In bodies covers s v
of_join none (in_seq f p q) = (_, _, f, p, q)
of_join empty p = (nothing, _, at_once, in_empty, p)
of_join (simple b) (in_seq f p q) = (_, _, f, p, q)
of_join (rule k) (in_seq f p q) = (_, _, f, p, q)
of_join (element e c) (in_seq f p q) = (_, _, f, p, q)
of_join (union a b) (in_seq f p q) = (_, _, f, p, q)
of_join (seq a b) (in_seq f p q) = (_, _, f, p, q)
of_join (star a) (in_seq f p q) = (_, _, f, p, q)

-- and the other way round
pub to_join : {bodies : ℕ → Expr} {covers : ℕ → ℕ → Bool} (r : Expr) {s : Expr} {u v w : Hedge} →
    Follows u v w → In bodies covers r u → In bodies covers s v → In bodies covers (join r s) w
to_join none f p q = in_seq f p q
to_join empty at_once in_empty q = q
to_join empty (after f) p q = elim p [ ]
to_join (simple b) f p q = in_seq f p q
to_join (rule k) f p q = in_seq f p q
to_join (element e c) f p q = in_seq f p q
to_join (union a b) f p q = in_seq f p q
to_join (seq a b) f p q = in_seq f p q
to_join (star a) f p q = in_seq f p q

-- what a derivative allows, the expression has
pub der_sound : {bodies : ℕ → Expr} {covers : ℕ → ℕ → Bool} {e : Expr} {h : ℕ} {c r : Expr} {t : ℕ} {v w : Hedge} →
    Der bodies e h c r → covers h t ≡ true → In bodies covers c v → In bodies covers r w →
    In bodies covers e (item t v w)
der_sound der_simple k in_empty in_empty = in_simple k
der_sound der_element k p in_empty = in_element k p
der_sound (der_rule d) k p q = in_rule (der_sound d k p q)
der_sound (der_left d) k p q = in_left (der_sound d k p q)
der_sound (der_right d) k p q = in_right (der_sound d k p q)
der_sound {bodies} {covers} {w = w} (der_first {r = r} d e) k p q =
    let parts = of_join r (subst (λ x. In bodies covers x w) e q) in
    in_seq (after parts.2) (der_sound d k p parts.3) parts.4
der_sound {bodies} {covers} (der_second n d) k p q =
    in_seq at_once (null_has_nothing covers n) (der_sound d k p q)
der_sound {bodies} {covers} {w = w} (der_star {r = r} d e) k p q =
    let parts = of_join r (subst (λ x. In bodies covers x w) e q) in
    in_more_of (after parts.2) (der_sound d k p parts.3) parts.4

-- each item that an expression has comes by a derivative
pub der_complete : {bodies : ℕ → Expr} {covers : ℕ → ℕ → Bool} {e : Expr} {t : ℕ} {v w : Hedge} →
    In bodies covers e (item t v w) → ByDerivative bodies covers e t v w
der_complete (in_simple k) = (_, empty, empty, der_simple, k, in_empty, in_empty)
der_complete (in_element k p) = (_, _, empty, der_element, k, p, in_empty)
der_complete (in_rule p) =
    let (h, c, r, d, k, i, o) = der_complete p in (h, c, r, der_rule d, k, i, o)
der_complete (in_left p) =
    let (h, c, r, d, k, i, o) = der_complete p in (h, c, r, der_left d, k, i, o)
der_complete (in_right p) =
    let (h, c, r, d, k, i, o) = der_complete p in (h, c, r, der_right d, k, i, o)
der_complete (in_seq at_once p q) =
    let (h, c, r, d, k, i, o) = der_complete q in (h, c, r, der_second (nothing_is_null p) d, k, i, o)
der_complete (in_seq {b = b} (after f) p q) =
    let (h, c, r, d, k, i, o) = der_complete p in
    (h, c, join r b, der_first d refl, k, i, to_join r f o q)
der_complete (in_more_of at_once p q) = der_complete q
der_complete (in_more_of {a = a} (after f) p q) =
    let (h, c, r, d, k, i, o) = der_complete p in
    (h, c, join r (star a), der_star d refl, k, i, to_join r f o q)

pub derivative_law : DerivativeLaw
derivative_law bodies covers e t v w =
    (der_complete, λ by. der_sound by.3 by.4 by.5 by.6)
