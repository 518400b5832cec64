-- Derivatives by numbers of expressions.
use Rattle.std.specs.Prelude.{ℕ, ◌<◌, cond, List, [], ◌∷◌, ◌++◌, map, length, nat_lt, slice_index_or, slice_range}
use Rattle.model.specs.declared.nodes.Node.{Node}
use Rattle.model.specs.declared.nodes.Node.TheVariants.{Nothing, Empty, Simple, Rule, Element, Union, Seq, Star}
use Rattle.model.specs.Machine.{Derivative}
use Rattle.theory.specs.Language.{Expr, empty}
use Rattle.theory.specs.Tree.{body_of}
use Rattle.theory.specs.Inequality.{Member}
use Rattle.meaning.specs.Functions.{Derived, derivatives?, nulls_of, rule_ders, grown, once, joined}
use Rattle.expressions.specs.Numbers.{earlier, body_at, tree, null_at}

-- the part of a list from one number up to another
unfoldable pub part : {A : Type 0} → List A → ℕ → ℕ → List A
part xs from to = slice_range xs from to

-- a derivative by the expressions of its numbers
abbrev pub as_trees : List Node → Derivative → Derived
as_trees nodes d = (d.0, tree nodes d.1, tree nodes d.2)

-- the content and the rest have numbers below n
abbrev pub InBook : ℕ → Derivative → Type 0
InBook n d = (d.1 < n) × (d.2 < n)

-- those of all derivatives of a list have
unfoldable pub AllIn : ℕ → List Derivative → Type 0
AllIn n ds = (d : Derivative) → Member d ds → InBook n d

-- the derivatives of an expression, where only the rules below r are followed
abbrev pub ders_below : (ℕ → Expr) → ℕ → ℕ → Expr → List Derived
ders_below bodies n r e =
    derivatives? (nulls_of bodies n) (λ j. slice_index_or (grown (rule_ders bodies (nulls_of bodies n)) r) j []) e

-- those of the expression number i
unfoldable pub ders_at : List Node → List ℕ → ℕ → ℕ → List Derived
ders_at nodes bodies r i = ders_below (body_of nodes bodies) (length bodies) r (tree nodes i)

-- the same by what the node is
abbrev pub ders_node : List Node → List ℕ → ℕ → ℕ → Node → List Derived
ders_node nodes bodies r i Nothing = []
ders_node nodes bodies r i Empty = []
ders_node nodes bodies r i (Simple n) = (n, empty, empty) ∷ []
ders_node nodes bodies r i (Rule k) = cond (nat_lt k r) (ders_at nodes bodies k (body_at bodies k)) []
ders_node nodes bodies r i (Element n c) = (n, tree nodes (earlier i c), empty) ∷ []
ders_node nodes bodies r i (Union a b) =
    once (ders_at nodes bodies r (earlier i a) ++ ders_at nodes bodies r (earlier i b))
ders_node nodes bodies r i (Seq a b) = once
    (map (joined (tree nodes (earlier i b))) (ders_at nodes bodies r (earlier i a)) ++
    cond (null_at nodes bodies (length bodies) (earlier i a)) (ders_at nodes bodies r (earlier i b)) [])
ders_node nodes bodies r i (Star a) = once (map (joined (tree nodes i)) (ders_at nodes bodies r (earlier i a)))
