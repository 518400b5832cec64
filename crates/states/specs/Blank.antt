-- The number of `empty` in a book.
use Rattle.std.specs.Prelude.{◌≡◌, ℕ, suc, ◌<◌, List, length}
use Rattle.std.specs.Coded.{×_prop, le_prop}
use Rattle.model.specs.declared.nodes.Node.{Node}
use Rattle.theory.specs.Language.{empty}
use Rattle.expressions.specs.Numbers.{tree}
use Rattle.expressions.specs.Props.{Expr-set}

-- the number of `empty`
abbrev pub IsEmpty : List Node → ℕ → Type 0
IsEmpty nodes e = (e < length nodes) × (tree nodes e ≡ empty)

pub IsEmpty-prop : (nodes : List Node) (e : ℕ) → IsProp (IsEmpty nodes e)
IsEmpty-prop nodes e = ×_prop (le_prop {n = suc e} {m = length nodes}) (Expr-set _ _)
