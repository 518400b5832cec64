-- Nullability and derivatives of expressions, as least relations: they follow a mention of a rule
-- into its body.
use Rattle.std.specs.Prelude.{ℕ, ◌≡◌}
use Rattle.theory.specs.Language.{Expr, none, empty, simple, rule, element, union, seq, star}

-- To join s to a rest: `empty` vanishes, any other rest is followed by s.
abbrev pub join : Expr → Expr → Expr
join empty s = s
join none s = seq none s
join (simple b) s = seq (simple b) s
join (rule k) s = seq (rule k) s
join (element e c) s = seq (element e c) s
join (union a b) s = seq (union a b) s
join (seq a b) s = seq (seq a b) s
join (star a) s = seq (star a) s

-- `Null bodies e`: e is nullable.
pub data Null (bodies : ℕ → Expr) : Expr → Type 0 where
  null_empty : Null bodies empty
  null_rule : {k : ℕ} → Null bodies (bodies k) → Null bodies (rule k)
  null_left : {a b : Expr} → Null bodies a → Null bodies (union a b)
  null_right : {a b : Expr} → Null bodies b → Null bodies (union a b)
  null_seq : {a b : Expr} → Null bodies a → Null bodies b → Null bodies (seq a b)
  null_star : {a : Expr} → Null bodies (star a)

-- `Der bodies e h c r`: e has the derivative with label h, content c and rest r.
pub data Der (bodies : ℕ → Expr) : Expr → ℕ → Expr → Expr → Type 0 where
  der_simple : {b : ℕ} → Der bodies (simple b) b empty empty
  der_element : {e : ℕ} {c : Expr} → Der bodies (element e c) e c empty
  der_rule : {k h : ℕ} {c r : Expr} → Der bodies (bodies k) h c r → Der bodies (rule k) h c r
  der_left : {a b : Expr} {h : ℕ} {c r : Expr} → Der bodies a h c r → Der bodies (union a b) h c r
  der_right : {a b : Expr} {h : ℕ} {c r : Expr} → Der bodies b h c r → Der bodies (union a b) h c r
  der_first : {a b : Expr} {h : ℕ} {c r s : Expr} → Der bodies a h c r → s ≡ join r b →
      Der bodies (seq a b) h c s
  der_second : {a b : Expr} {h : ℕ} {c r : Expr} → Null bodies a → Der bodies b h c r →
      Der bodies (seq a b) h c r
  der_star : {a : Expr} {h : ℕ} {c r s : Expr} → Der bodies a h c r → s ≡ join r (star a) →
      Der bodies (star a) h c s
