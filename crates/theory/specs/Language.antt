-- Message expressions and their languages: which hedges an expression has.
use Rattle.std.specs.Prelude.{ℕ, Bool, true, ◌≡◌}
use Rattle.theory.specs.Hedge.{Hedge, nothing, item, Follows}

-- An expression over names and rules, both by their numbers.
pub data Expr : Type 0 where
  none : Expr
  empty : Expr
  simple : (name : ℕ) → Expr
  rule : (number : ℕ) → Expr
  element : (name : ℕ) (content : Expr) → Expr
  union : (left right : Expr) → Expr
  seq : (left right : Expr) → Expr
  star : (body : Expr) → Expr
  deriving Discrete as ExprDiscrete

-- `In bodies covers e h`: the language of e has the hedge h. `bodies k` is the body of rule k,
-- and `covers b t` tells whether the name b stands for the name t. These are the least sets that
-- are closed under the rules below.
pub data In (bodies : ℕ → Expr) (covers : ℕ → ℕ → Bool) : Expr → Hedge → Type 0 where
  in_empty : In bodies covers empty nothing
  in_simple : {b t : ℕ} → covers b t ≡ true → In bodies covers (simple b) (item t nothing nothing)
  in_element : {e t : ℕ} {r : Expr} {v : Hedge} → covers e t ≡ true → In bodies covers r v →
      In bodies covers (element e r) (item t v nothing)
  in_rule : {k : ℕ} {w : Hedge} → In bodies covers (bodies k) w → In bodies covers (rule k) w
  in_left : {a b : Expr} {w : Hedge} → In bodies covers a w → In bodies covers (union a b) w
  in_right : {a b : Expr} {w : Hedge} → In bodies covers b w → In bodies covers (union a b) w
  in_seq : {a b : Expr} {u v w : Hedge} → Follows u v w → In bodies covers a u →
      In bodies covers b v → In bodies covers (seq a b) w
  in_none_of : {a : Expr} → In bodies covers (star a) nothing
  in_more_of : {a : Expr} {u v w : Hedge} → Follows u v w → In bodies covers a u →
      In bodies covers (star a) v → In bodies covers (star a) w
