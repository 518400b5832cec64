-- What is found of derivatives while a machine is built.
use Rattle.std.specs.Prelude.{◌≡◌, ℕ, List, ◌++◌, map, length, vec_items}
use Rattle.model.specs.declared.nodes.Node.{Node}
use Rattle.model.specs.Machine.{Derivative}
use Rattle.meaning.specs.Functions.{Derived, once, joined}
use Rattle.expressions.specs.Numbers.{tree}
use Rattle.expressions.specs.Fine.{Grows}
use Rattle.expressions.specs.Derived.{as_trees, AllIn, ders_at}
use Rattle.states.specs.declared.derive.Span.{Span}
use Rattle.states.specs.declared.derive.Work.{Work}
use Rattle.states.specs.Spans.{Inside, told}

-- the parts of the work
abbrev pub nodes_of : Work → List Node
nodes_of w = vec_items w.expressions.nodes

abbrev pub bodies_of : Work → List ℕ
bodies_of w = vec_items w.expressions.rules.bodies

abbrev pub found_of : Work → List Derivative
found_of w = vec_items w.found

-- the work has gone on
pub record Goes (old new : Work) : Type 0 where
  pub rules : new.expressions.rules ≡ old.expressions.rules
  pub nodes : Grows (nodes_of old) (nodes_of new)
  pub found : Grows (found_of old) (found_of new)

-- and the span has these derivatives
pub record Gives (old new : Work) (ds : List Derived) (s : Span) : Type 0 where
  pub goes : Goes old new
  pub inside : Inside (found_of new) s
  pub value : told (nodes_of new) (found_of new) s ≡ ds

-- and the span has the derivatives of the expression number i below the rule r
abbrev pub Went : Work → Work → ℕ → ℕ → Span → Type 0
Went old new r i s = Gives old new (ders_at (nodes_of old) (bodies_of old) r i) s

-- the derivatives of two lists, each once
abbrev pub both : Work → Span → Span → List Derived
both w left right =
    once (told (nodes_of w) (found_of w) left ++ told (nodes_of w) (found_of w) right)

-- those of a first part with s joined to each rest, and others after them
abbrev pub in_turn : Work → Span → ℕ → Span → List Derived
in_turn w first s then =
    once (map (joined (tree (nodes_of w) s)) (told (nodes_of w) (found_of w) first) ++ told (nodes_of w) (found_of w) then)

-- derivatives with s joined to each rest
abbrev pub JoinedTo : List Node → List Node → List Derivative → ℕ → List Derivative → Type 0
JoinedTo old new ds s v =
    AllIn (length new) v × (map (as_trees new) v ≡ map (joined (tree old s)) (map (as_trees old) ds))
