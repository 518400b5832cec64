-- The test of lawful recursion by numbers of expressions.
use Rattle.std.specs.Prelude.{◌≡◌, ℕ, ◌<◌, Bool, false, cond, not, ◌||◌, List, length, Some, None, Option, nat_le, nat_lt, slice_index_or}
use Rattle.model.specs.declared.nodes.Node.{Node}
use Rattle.model.specs.declared.nodes.Node.TheVariants.{Nothing, Empty, Simple, Rule, Element, Union, Seq, Star}
use Rattle.theory.specs.Language.{Expr}
use Rattle.theory.specs.Tree.{body_of}
use Rattle.theory.specs.Recursion.{LawfulRule, LawfulRules}
use Rattle.meaning.specs.Functions.{nullable?, nulls_of}
use Rattle.expressions.specs.Numbers.{earlier, tree, null_at}
use Rattle.expressions.specs.Ways.{bent, guarded, open?}
use Rattle.states.specs.declared.recursion.Ways.{Ways}

-- no unlawful mention
abbrev pub no_ways : Ways
no_ways = record { free = false; guarded = false; bent = false }

abbrev pub either_ways : Ways → Ways → Ways
either_ways a b = record { free = a.free || b.free; guarded = a.guarded || b.guarded; bent = a.bent || b.bent }

abbrev pub turn_ways : Ways → Ways → Bool → Ways
turn_ways a b null = record {
  free = a.bent || cond null b.free b.guarded;
  guarded = a.bent || b.guarded;
  bent = a.bent || b.bent;
}

abbrev pub bent_ways : Ways → Ways
bent_ways a = record { free = a.bent; guarded = a.bent; bent = a.bent }

-- the ways of rule k from the expression number i on
unfoldable pub ways_from : List Node → List ℕ → ℕ → ℕ → Ways
ways_from nodes bodies k i = record {
  free = open? k (nullable? (nulls_of (body_of nodes bodies) k)) (tree nodes i);
  guarded = guarded k (tree nodes i);
  bent = bent k (tree nodes i);
}

-- the same by what the node is
abbrev pub ways_node : List Node → List ℕ → ℕ → ℕ → Node → Ways
ways_node nodes bodies k i Nothing = no_ways
ways_node nodes bodies k i Empty = no_ways
ways_node nodes bodies k i (Simple n) = no_ways
ways_node nodes bodies k i (Rule j) = record { free = nat_le k j; guarded = nat_lt k j; bent = nat_le k j }
ways_node nodes bodies k i (Element n c) = no_ways
ways_node nodes bodies k i (Union a b) =
    either_ways (ways_from nodes bodies k (earlier i a)) (ways_from nodes bodies k (earlier i b))
ways_node nodes bodies k i (Seq a b) =
    turn_ways (ways_from nodes bodies k (earlier i a)) (ways_from nodes bodies k (earlier i b))
    (null_at nodes bodies k (earlier i a))
ways_node nodes bodies k i (Star a) = bent_ways (ways_from nodes bodies k (earlier i a))

-- the entries of a table are the ways from the first expressions on
unfoldable pub Filled : List Node → List ℕ → ℕ → List Ways → Type 0
Filled nodes bodies k table = (i : ℕ) → i < length table → slice_index_or table i no_ways ≡ ways_from nodes bodies k i

-- whether rule k passes the test
unfoldable pub passes : List Node → List ℕ → ℕ → Bool
passes nodes bodies k =
    not (open? k (nullable? (nulls_of (body_of nodes bodies) k)) (body_of nodes bodies k))

-- all rules are lawful, or the first that is not
abbrev pub FirstUnlawful : (ℕ → Expr) → ℕ → Option ℕ → Type 0
FirstUnlawful bodies n None = LawfulRules bodies n
FirstUnlawful bodies n (Some k) = (k < n) × LawfulRules bodies k × (LawfulRule bodies k → ⊥)
