-- States by the numbers of their expressions.
use Rattle.std.specs.Prelude.{◌≡◌, ℕ, ◌+◌, ◌<◌, List, [], ◌∷◌, map, length, slice_index_or}
use Rattle.model.specs.declared.nodes.Node.{Node}
use Rattle.model.specs.Machine.{Derivative, Plain, no_state}
use Rattle.expressions.specs.Numbers.{null_at}
use Rattle.expressions.specs.Derived.{as_trees, AllIn, ders_at}

-- a derivative by states as one by expressions: `numbers` has the expression of each state
abbrev pub named : List ℕ → Derivative → Derivative
named numbers d = (d.0, slice_index_or numbers d.1 512, slice_index_or numbers d.2 512)

-- no number stands twice
unfoldable pub Separate : List ℕ → Type 0
Separate numbers = (j k : ℕ) → j < length numbers → k < length numbers →
    slice_index_or numbers j 512 ≡ slice_index_or numbers k 512 → j ≡ k

-- the state has the nullability and the derivatives of the expression number i
pub record Stated (nodes : List Node) (bodies numbers : List ℕ) (i : ℕ) (p : Plain) : Type 0 where
  pub null : p.nullable ≡ null_at nodes bodies (length bodies) i
  pub within : AllIn (length numbers) p.derivatives
  pub ders : map (λ d. as_trees nodes (named numbers d)) p.derivatives ≡ ders_at nodes bodies (length bodies) i

-- every state has those of its expression
unfoldable pub AllStated : List Node → List ℕ → List ℕ → List Plain → Type 0
AllStated nodes bodies numbers states = (q : ℕ) → q < length states →
    Stated nodes bodies numbers (slice_index_or numbers q 512) (slice_index_or states q no_state)

-- how many derivatives all states have
abbrev pub total : List Plain → ℕ
total [] = 0
total (p ∷ states) = length p.derivatives + total states
