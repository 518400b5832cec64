-- Derivatives that stand in spans of a list.
use Rattle.std.specs.Prelude.{◌≡◌, ℕ, ◌<◌, ◌≤◌, List, map, length, Option}
use Rattle.std.specs.Coded.{le_prop}
use Rattle.model.specs.declared.nodes.Node.{Node}
use Rattle.model.specs.Machine.{Derivative}
use Rattle.meaning.specs.Functions.{Derived}
use Rattle.expressions.specs.Derived.{part, as_trees, ders_at}
use Rattle.expressions.specs.Props.{Deriveds-set}
use Rattle.states.specs.declared.derive.Span.{Span}
use Rattle.states.specs.Memo.{AllNotes, AllNotes-prop}

-- a span lies within a list
abbrev pub Inside : List Derivative → Span → Type 0
Inside found s = (s.from ≤ s.to) × (s.to ≤ length found)

-- the derivatives of a span, by expressions
abbrev pub told : List Node → List Derivative → Span → List Derived
told nodes found s = map (as_trees nodes) (part found s.from s.to)

-- the span has the derivatives of the expression number i below the rule r
abbrev pub Lists : List Node → List ℕ → List Derivative → ℕ → ℕ → Span → Type 0
Lists nodes bodies found r i s = Inside found s × (told nodes found s ≡ ders_at nodes bodies r i)

-- a note of the expression number i below the rule r tells the span of its derivatives
abbrev pub Finds : List Node → List ℕ → List Derivative → ℕ → ℕ → Span → Type 0
Finds nodes bodies found r i s = (i < length nodes) × Lists nodes bodies found r i s

-- every note tells the truth
abbrev pub Spans : List Node → List ℕ → List Derivative → List (Option Span) → Type 0
Spans nodes bodies found spans = AllNotes (Finds nodes bodies found) spans

pub Spans-prop : (nodes : List Node) (bodies : List ℕ) (found : List Derivative) (spans : List (Option Span)) →
    IsProp (Spans nodes bodies found spans)
Spans-prop nodes bodies found spans = AllNotes-prop (Finds nodes bodies found) spans
    (λ r i s f g. λ j. (
      le_prop f.0 g.0 j,
      ((le_prop f.1.0.0 g.1.0.0 j, le_prop f.1.0.1 g.1.0.1 j), Deriveds-set _ _ f.1.1 g.1.1 j),
    ))
