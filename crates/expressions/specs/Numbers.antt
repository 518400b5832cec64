-- Expressions by their numbers in a list of nodes, each built of earlier ones.
use Rattle.std.specs.Prelude.{ℕ, suc, ◌+◌, ◌*◌, Bool, true, false, cond, ◌&&◌, ◌||◌, List, nat_lt, slice_index_or}
use Rattle.model.specs.declared.nodes.Node.{Node}
use Rattle.model.specs.declared.nodes.Node.TheVariants.{Nothing, Empty, Simple, Rule, Element, Union, Seq, Star}
use Rattle.theory.specs.Language.{Expr, none, empty, simple, rule, element, union, seq, star}
use Rattle.theory.specs.Tree.{trees, body_of}
use Rattle.meaning.specs.Functions.{nullable?, nulls_of}

-- the number c if it is earlier than the node, else 512, which stands for a missing expression
abbrev pub earlier : ℕ → ℕ → ℕ
earlier node c = cond (nat_lt c node) c 512

-- the number of rule k's body
abbrev pub body_at : List ℕ → ℕ → ℕ
body_at bodies k = slice_index_or bodies k 512

-- Where a node below a rule stands in the order by rules and then by nodes, missing nodes first.
unfoldable pub rank : ℕ → ℕ → ℕ
rank r node = r * 514 + cond (nat_lt node 512) (suc node) 0

-- the expression number i
unfoldable pub tree : List Node → ℕ → Expr
tree nodes i = slice_index_or (trees nodes) i none

-- what a node is as the expression number i
abbrev pub built : List Node → ℕ → Node → Expr
built nodes i Nothing = none
built nodes i Empty = empty
built nodes i (Simple n) = simple n
built nodes i (Rule k) = rule k
built nodes i (Element n c) = element n (tree nodes (earlier i c))
built nodes i (Union a b) = union (tree nodes (earlier i a)) (tree nodes (earlier i b))
built nodes i (Seq a b) = seq (tree nodes (earlier i a)) (tree nodes (earlier i b))
built nodes i (Star a) = star (tree nodes (earlier i a))

-- whether the expression number i is nullable, where only the rules below r are known
unfoldable pub null_at : List Node → List ℕ → ℕ → ℕ → Bool
null_at nodes bodies r i = nullable? (nulls_of (body_of nodes bodies) r) (tree nodes i)

-- the same by what the node is
abbrev pub null_node : List Node → List ℕ → ℕ → ℕ → Node → Bool
null_node nodes bodies r i Nothing = false
null_node nodes bodies r i Empty = true
null_node nodes bodies r i (Simple n) = false
null_node nodes bodies r i (Rule k) = cond (nat_lt k r) (null_at nodes bodies k (body_at bodies k)) false
null_node nodes bodies r i (Element n c) = false
null_node nodes bodies r i (Union a b) =
    null_at nodes bodies r (earlier i a) || null_at nodes bodies r (earlier i b)
null_node nodes bodies r i (Seq a b) =
    null_at nodes bodies r (earlier i a) && null_at nodes bodies r (earlier i b)
null_node nodes bodies r i (Star a) = true
