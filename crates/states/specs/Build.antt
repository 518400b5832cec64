-- The states of a grammar while they are numbered, and the outcome of building.
use Rattle.std.specs.Prelude.{◌≡◌, ℕ, ◌<◌, ◌≤◌, List, map, length, Ok, Err, Result}
use Rattle.model.specs.declared.nodes.Node.{Node}
use Rattle.model.specs.declared.machine.State.{State}
use Rattle.model.specs.declared.machine.Machine.{Machine}
use Rattle.model.specs.Machine.{Derivative, Plain, plain, states_of}
use Rattle.theory.specs.Language.{Expr}
use Rattle.theory.specs.Recursion.{LawfulRule, LawfulRules}
use Rattle.theory.specs.Stands.{Stands}
use Rattle.theory.specs.Tree.{body_of}
use Rattle.expressions.specs.Fine.{Below, Grows}
use Rattle.expressions.specs.Derived.{AllIn}
use Rattle.expressions.specs.States.{named, Separate, Stated, AllStated, total}
use Rattle.states.specs.declared.error.BuildError.{BuildError}
use Rattle.states.specs.declared.error.BuildError.TheVariants.{Recursion, TooLarge, NoMemory}
use Rattle.states.specs.declared.derive.Work.{Work}
use Rattle.states.specs.Derive.{nodes_of, bodies_of, Goes}

-- derivatives by expressions were turned into derivatives by states, which were added where new
pub record Named (old new : List ℕ) (ds by_states : List Derivative) : Type 0 where
  pub separate : Separate new
  pub extends : Grows old new
  pub few : length old ≤ 128 → length new ≤ 128
  pub below : (n : ℕ) → Below n old → AllIn n ds → Below n new
  pub within : AllIn (length new) by_states
  pub value : map (named new) by_states ≡ ds

-- the numbers of states: each once, at most 128, and all of expressions in the book
abbrev pub Numbering : List Node → List ℕ → Type 0
Numbering nodes numbers = Separate numbers × (length numbers ≤ 128) × Below (length nodes) numbers

-- the state of the expression number i was made
pub record Stating (old new : Work) (before after : List ℕ) (i : ℕ) (s : State) : Type 0 where
  pub goes : Goes old new
  pub numbers : Numbering (nodes_of new) after
  pub extends : Grows before after
  pub stated : Stated (nodes_of new) (bodies_of new) after i (plain s)

-- half-way through: all states so far have what their expressions have
pub record SoFar (old new : Work) (before after : List ℕ) (states : List Plain) : Type 0 where
  pub goes : Goes old new
  pub numbers : Numbering (nodes_of new) after
  pub extends : Grows before after
  pub stated : AllStated (nodes_of new) (bodies_of new) after states
  pub few : total states ≤ 512

-- The outcome for a grammar with these nodes and bodies. A machine comes of it only if all rules are
-- lawful; it has at most 128 states, at least one for each rule, at most 512 derivatives, and its
-- states stand for expressions. Else the first unlawful rule is told, or that something is too large,
-- or that there is no memory.
abbrev pub Built : List Node → List ℕ → Result Machine BuildError → Type 0
Built nodes bodies (Ok m) =
    LawfulRules (body_of nodes bodies) (length bodies) ×
    (length (states_of m) ≤ 128) × (length bodies ≤ length (states_of m)) × (total (states_of m) ≤ 512) ×
    ((exprs : List Expr) × Stands (body_of nodes bodies) (length bodies) (states_of m) exprs)
Built nodes bodies (Err e) = elim e [
  | Recursion k ↦ (k < length bodies) × LawfulRules (body_of nodes bodies) k × (LawfulRule (body_of nodes bodies) k → ⊥)
  | TooLarge ↦ Unit {0}
  | NoMemory ↦ Unit {0}
]
