-- Records of books: nodes, numbers and derivatives.
use Rattle.std.specs.Prelude.{ℕ, Bool, ◌&&◌, ◌==◌}
use Rattle.model.specs.declared.nodes.Node.{Node}
use Rattle.model.specs.contracts.nodes.NodePartialEq.TheImpl as nodes
use Rattle.model.specs.Machine.{Derivative}

abbrev pub same_number : ℕ → ℕ → Bool
same_number a b = a == b

abbrev pub same_derivative : Derivative → Derivative → Bool
same_derivative a b = (a.0 == b.0 && a.1 == b.1) && a.2 == b.2

-- whether two nodes are built alike: they are of one kind with the same fields
abbrev pub same_node : Node → Node → Bool
same_node = nodes.ghosts.eq
