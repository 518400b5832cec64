-- The either-ors of a left state under a name, one after another, as a walk over them gives them.
use Rattle.std.specs.Prelude.{ℕ, ◌-◌, ◌^◌, Bool, cond, List, [], ◌∷◌, ◌++◌, map, length}
use Rattle.std.specs.List.{range_with_len}
use Rattle.model.specs.declared.rows.Row.{Row}
use Rattle.model.specs.Machine.{Derivative}
use Rattle.theory.specs.Inequality.{Pair, EitherOr as Sides, either_or}
use Rattle.sides.specs.declared.either.EitherOr.{EitherOr}

-- an either-or as the program holds it
abbrev pub held : Sides → EitherOr
held e = record { content = e.content; rest = e.rest }

-- those of a derivative from the subset number k on, if its label covers t
abbrev pub ors_from : (ℕ → ℕ → Bool) → ℕ → List Pair → Derivative → ℕ → List EitherOr
ors_from covers t ps d k = cond (covers d.0 t) (map (λ j. held (either_or d ps j)) (range_with_len k (2 ^ length ps - k))) []

-- those of the first derivative from the subset number k on, and of all later ones
abbrev pub ors : (ℕ → ℕ → Bool) → ℕ → List Pair → List Derivative → ℕ → List EitherOr
ors covers t ps [] k = []
ors covers t ps (d ∷ ds) k = ors_from covers t ps d k ++ ors covers t ps ds 0

-- the sides of either-ors in order, the content side first
abbrev pub rows_of : List EitherOr → List Row
rows_of [] = []
rows_of (e ∷ es) = e.content ∷ (e.rest ∷ rows_of es)
