-- What is said of books of expressions has one proof at most.
use std.HLevel.{hedberg}
use mathlib.Core.List.{List-discrete}
use Rattle.std.specs.Prelude.{◌≡◌, ℕ, List}
use Rattle.std.specs.Coded.{×_prop, Unit-prop, le_prop}
use Rattle.std.proofs.Math.Nat.{ℕ_set}
use Rattle.std.proofs.Math.Decide.{ℕ_discrete}
use Rattle.model.specs.declared.nodes.Node.{Node}
use Rattle.model.specs.declared.nodes.Node.TheVariants.{Nothing, Empty, Simple, Rule, Element, Union, Seq, Star}
use Rattle.theory.specs.Language.{Expr, ExprDiscrete}
use Rattle.meaning.specs.Functions.{Derived}
use Rattle.model.specs.Machine.{Derivative}
use Rattle.expressions.specs.Derived.{AllIn}
use Rattle.expressions.specs.Fine.{PartsBelow, Founded, Distinct, Fine, Below}

pub Expr-set : IsSet Expr
Expr-set = hedberg (ExprDiscrete ℕ_discrete)

PartsBelow-prop : (n : ℕ) (x : Node) → IsProp (PartsBelow n x)
PartsBelow-prop n Nothing = Unit-prop
PartsBelow-prop n Empty = Unit-prop
PartsBelow-prop n (Simple b) = Unit-prop
PartsBelow-prop n (Rule k) = Unit-prop
PartsBelow-prop n (Element b c) = le_prop
PartsBelow-prop n (Union a b) = ×_prop le_prop le_prop
PartsBelow-prop n (Seq a b) = ×_prop le_prop le_prop
PartsBelow-prop n (Star a) = le_prop

Founded-prop : (nodes : List Node) → IsProp (Founded nodes)
unfolding Founded
Founded-prop nodes f g = λ j i lt. PartsBelow-prop i _ (f i lt) (g i lt) j

Distinct-prop : (nodes : List Node) → IsProp (Distinct nodes)
unfolding Distinct
Distinct-prop nodes f g = λ j i lt. ℕ_set _ _ (f i lt) (g i lt) j

pub Fine-prop : (nodes : List Node) → IsProp (Fine nodes)
Fine-prop nodes f g = λ j. (le_prop f.0 g.0 j, Founded-prop nodes f.1 g.1 j, Distinct-prop nodes f.2 g.2 j)

pub Below-prop : (n : ℕ) (numbers : List ℕ) → IsProp (Below n numbers)
unfolding Below
Below-prop n numbers f g = λ j k lt. le_prop (f k lt) (g k lt) j

Derived-discrete : Discrete Derived
Derived-discrete a b = go (ℕ_discrete a.0 b.0) (ExprDiscrete ℕ_discrete a.1 b.1) (ExprDiscrete ℕ_discrete a.2 b.2)
  where
    go : Dec (a.0 ≡ b.0) → Dec (a.1 ≡ b.1) → Dec (a.2 ≡ b.2) → Dec (a ≡ b)
    go (yes p) (yes q) (yes r) = yes (λ i. (p i, q i, r i))
    go (no n) q r = no (λ e. n (λ i. (e i).0))
    go (yes p) (no n) r = no (λ e. n (λ i. (e i).1))
    go (yes p) (yes q) (no n) = no (λ e. n (λ i. (e i).2))

pub Deriveds-set : IsSet (List Derived)
Deriveds-set = hedberg (List-discrete Derived-discrete)

pub AllIn-prop : (n : ℕ) (ds : List Derivative) → IsProp (AllIn n ds)
unfolding AllIn
AllIn-prop n ds f g = λ j d m. (le_prop (f d m).0 (g d m).0 j, le_prop (f d m).1 (g d m).1 j)
