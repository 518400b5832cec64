-- States stand for expressions.
use Rattle.std.specs.Prelude.{ℕ, ◌<◌, true, ◌≡◌, List, length, get_or}
use Rattle.model.specs.Machine.{Derivative, Plain, nullable_at, derivatives_at}
use Rattle.theory.specs.Language.{Expr, none, rule}
use Rattle.theory.specs.Derivative.{Null, Der}
use Rattle.theory.specs.Inequality.{Member}

-- `Stands bodies rules states exprs`: state q stands for the expression number q of `exprs`. Its
-- nullability and its derivatives are those of that expression, distinct states stand for distinct
-- expressions, and rule k is state k.
pub record Stands (bodies : ℕ → Expr) (rules : ℕ) (states : List Plain) (exprs : List Expr) : Type 0 where
  pub count : length exprs ≡ length states
  pub rule_states : (k : ℕ) → k < rules → (k < length states) × (get_or exprs k none ≡ rule k)
  pub distinct : (p q : ℕ) → p < length states → q < length states →
      get_or exprs p none ≡ get_or exprs q none → p ≡ q
  pub null_sound : (q : ℕ) → q < length states → nullable_at states q ≡ true →
      Null bodies (get_or exprs q none)
  pub null_complete : (q : ℕ) → q < length states → Null bodies (get_or exprs q none) →
      nullable_at states q ≡ true
  pub der_sound : (q : ℕ) (d : Derivative) → q < length states → Member d (derivatives_at states q) →
      (d.1 < length states) × (d.2 < length states) ×
      Der bodies (get_or exprs q none) d.0 (get_or exprs d.1 none) (get_or exprs d.2 none)
  pub der_complete : (q h : ℕ) (c r : Expr) → q < length states →
      Der bodies (get_or exprs q none) h c r →
      (d : Derivative) × Member d (derivatives_at states q) × (d.0 ≡ h) ×
      (get_or exprs d.1 none ≡ c) × (get_or exprs d.2 none ≡ r)
