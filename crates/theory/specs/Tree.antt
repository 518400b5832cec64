-- The expressions of a grammar's nodes, and of its rules.
use Rattle.std.specs.Prelude.{ℕ, List, [], ◌∷◌, ◌++◌, map, get_or}
use Rattle.model.specs.declared.nodes.Node.{Node}
use Rattle.model.specs.declared.nodes.Node.TheVariants.{Nothing, Empty, Simple, Rule, Element, Union, Seq, Star}
use Rattle.theory.specs.Language.{Expr, none, empty, simple, rule, element, union, seq, star}

-- the expression of a node, given those of the nodes before it
abbrev pub of_node : List Expr → Node → Expr
of_node before Nothing = none
of_node before Empty = empty
of_node before (Simple n) = simple n
of_node before (Rule k) = rule k
of_node before (Element n c) = element n (get_or before c none)
of_node before (Union a b) = union (get_or before a none) (get_or before b none)
of_node before (Seq a b) = seq (get_or before a none) (get_or before b none)
of_node before (Star a) = star (get_or before a none)

-- the expressions so far, and of each node after them
abbrev pub growing : List Expr → List Node → List Expr
growing before [] = before
growing before (n ∷ nodes) = growing (before ++ of_node before n ∷ []) nodes

-- the expressions of all nodes
abbrev pub trees : List Node → List Expr
trees nodes = growing [] nodes

-- the expression of rule k's body; a number that is no rule's has no hedge
abbrev pub body_of : List Node → List ℕ → ℕ → Expr
body_of nodes rules k = get_or (map (λ n. get_or (trees nodes) n none) rules) k none
