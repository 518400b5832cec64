-- What each turn of a loop over derivatives, states, names or subsets adds to a list.
use Rattle.std.specs.Prelude.{ℕ, ◌^◌, Bool, cond, List, [], ◌∷◌, length}
use Rattle.model.specs.declared.rows.Row.{Row}
use Rattle.model.specs.Sets.{has}
use Rattle.model.specs.Machine.{Derivative}
use Rattle.theory.specs.Count.{each, some}
use Rattle.theory.specs.Machine.{Machine}
use Rattle.theory.specs.Inequality.{Pair, derivative, derivative_count, pairs_of, either_or}

-- a derivative gives its pair if its label covers t
abbrev pub pair_of : (ℕ → ℕ → Bool) → ℕ → Derivative → List Pair
pair_of covers t d = cond (covers d.0 t) ((d.1, d.2) ∷ []) []

-- the same of the derivative number i of q
abbrev pub pair_step : Machine → ℕ → ℕ → ℕ → List Pair
pair_step m t q i = pair_of m.covers t (derivative m q i)

-- the state q of a set gives its pairs
abbrev pub state_step : Machine → ℕ → ℕ → ℕ → List Pair
state_step m t s q = cond (has s q) (pairs_of m t q) []

-- whether the label of some derivative of q covers t
abbrev pub labelled_by : Machine → ℕ → ℕ → Bool
labelled_by m q t = some (derivative_count m q) (λ i. m.covers (derivative m q i).0 t)

-- the sides of one either-or
abbrev pub side_step : Derivative → List Pair → ℕ → List Row
side_step d ps k = (either_or d ps k).content ∷ ((either_or d ps k).rest ∷ [])

-- the sides of all either-ors of a derivative, if its label covers t
abbrev pub derivative_sides : (ℕ → ℕ → Bool) → ℕ → List Pair → Derivative → List Row
derivative_sides covers t ps d = cond (covers d.0 t) (each (2 ^ length ps) (side_step d ps)) []

-- the same for all derivatives of q
abbrev pub derivative_step : Machine → ℕ → ℕ → List Pair → List Row
derivative_step m t q ps = each (derivative_count m q) (λ i. derivative_sides m.covers t ps (derivative m q i))
