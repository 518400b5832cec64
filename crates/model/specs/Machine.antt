-- The states of a grammar, as plain lists.
use Rattle.std.specs.Prelude.{ℕ, Bool, false, List, [], map, vec_items, slice_index_or}
use Rattle.model.specs.declared.machine.State.{State}
use Rattle.model.specs.declared.machine.Machine.{Machine}

-- a derivative by numbers: its label (a name), its content and its rest (states)
abbrev pub Derivative : Type 0
Derivative = ℕ × ℕ × ℕ

-- a state: whether it is nullable, and its derivatives in order
pub record Plain : Type 0 where
  pub nullable : Bool
  pub derivatives : List Derivative

-- what stands where there is no state: not nullable, no derivative
abbrev pub no_state : Plain
no_state = record { nullable = false; derivatives = [] }

-- whether the state q is nullable
abbrev pub nullable_at : List Plain → ℕ → Bool
nullable_at states q = (slice_index_or states q no_state).nullable

-- the derivatives of the state q
abbrev pub derivatives_at : List Plain → ℕ → List Derivative
derivatives_at states q = (slice_index_or states q no_state).derivatives

-- a state of the program as a plain one
abbrev pub plain : State → Plain
plain s = record { nullable = s.nullable; derivatives = vec_items s.derivatives }

-- the states of a machine of the program
abbrev pub states_of : Machine → List Plain
states_of m = map plain (vec_items m.states)
