-- The state machine of a grammar under a name relation, and which hedges a state has.
use Rattle.std.specs.Prelude.{ℕ, Bool, ◌&&◌, List}
use Rattle.model.specs.Machine.{Derivative, Plain, nullable_at, derivatives_at}
use Rattle.theory.specs.Hedge.{Hedge, nothing, item}
use Rattle.theory.specs.Count.{any}

-- The states of a grammar in order, its number of names, and which name covers which.
pub record Machine : Type 0 where
  pub states : List Plain
  pub names : ℕ
  pub covers : ℕ → ℕ → Bool

-- `accepts m h q`: the state q has the hedge h. It has the empty hedge when it is nullable, and an
-- item t with v inside, followed by w, when a derivative of q has a label that covers t, a content
-- that has v and a rest that has w.
abbrev pub accepts : Machine → Hedge → ℕ → Bool
accepts m nothing q = nullable_at m.states q
accepts m (item t v w) q =
    any (λ (d : Derivative). m.covers d.0 t && (accepts m v d.1 && accepts m w d.2))
    (derivatives_at m.states q)
