-- Lawful recursion of a grammar's rules.
use Rattle.std.specs.Prelude.{ℕ, ◌<◌, Bool, true, false, ◌≡◌, ◌⊎◌}
use Rattle.theory.specs.Language.{Expr, rule, union, seq, star}
use Rattle.theory.specs.Derivative.{Null}

-- `Mentions bodies e k straight guarded`: a way from e to a mention of rule k outside brackets (no
-- way enters an element). `straight` says that the way takes only unions and right sides of
-- sequences, `guarded` that one of these right sides comes after a left side that is not nullable.
pub data Mentions (bodies : ℕ → Expr) : Expr → ℕ → Bool → Bool → Type 0 where
  mention : {k : ℕ} → Mentions bodies (rule k) k true false
  of_left : {a b : Expr} {k : ℕ} {s g : Bool} → Mentions bodies a k s g → Mentions bodies (union a b) k s g
  of_right : {a b : Expr} {k : ℕ} {s g : Bool} → Mentions bodies b k s g → Mentions bodies (union a b) k s g
  of_first : {a b : Expr} {k : ℕ} {s g : Bool} → Mentions bodies a k s g → Mentions bodies (seq a b) k false g
  of_second : {a b : Expr} {k : ℕ} {s g : Bool} → Null bodies a → Mentions bodies b k s g →
      Mentions bodies (seq a b) k s g
  of_guarded : {a b : Expr} {k : ℕ} {s g : Bool} → (Null bodies a → ⊥) → Mentions bodies b k s g →
      Mentions bodies (seq a b) k s true
  of_star : {a : Expr} {k : ℕ} {s g : Bool} → Mentions bodies a k s g → Mentions bodies (star a) k false g

-- Rule k is lawful: outside brackets it mentions rules below k, and itself in last place. Each way
-- from the body counts.
abbrev pub LawfulRule : (ℕ → Expr) → ℕ → Type 0
LawfulRule bodies k = (j : ℕ) (s g : Bool) → Mentions bodies (bodies k) j s g →
    (j < k) ⊎ ((j ≡ k) × (s ≡ true) × (g ≡ true))

-- all rules of a grammar with that many rules are lawful
abbrev pub LawfulRules : (ℕ → Expr) → ℕ → Type 0
LawfulRules bodies count = (k : ℕ) → k < count → LawfulRule bodies k
