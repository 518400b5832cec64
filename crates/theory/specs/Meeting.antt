-- The breadth-first meeting of the inequalities that are reachable from a root, within a number of
-- rows.
use Rattle.std.specs.Prelude.{ℕ, zero, suc, ◌+◌, true, false, List, [], ◌∷◌, length, get_or, take, leb, ltb}
use Rattle.model.specs.declared.rows.Row.{Row}
use Rattle.model.specs.Blank.{blank_row}
use Rattle.theory.specs.Count.{entered}
use Rattle.theory.specs.Machine.{Machine}
use Rattle.theory.specs.Inequality.{same_row, wide, EitherOr, either_ors}

-- the sides of either-ors in order, content side first
abbrev pub sides_of : List EitherOr → List Row
sides_of [] = []
sides_of (e ∷ es) = e.content ∷ (e.rest ∷ sides_of es)

-- the sides of all either-ors of an inequality, in order
unfoldable pub sides : Machine → Row → List Row
sides m r = sides_of (either_ors m r)

-- how a meeting ends: all reachable inequalities were met, a wide one was taken, or one more
-- distinct inequality had no row
pub data End : Type 0 where
  all : End
  wide_row : End
  out_of_rows : End

-- a meeting: how it ended, and the rows met in order
pub record Met : Type 0 where
  pub end : End
  pub rows : List Row

-- the rows met once the sides of the row number `taken` are entered
unfoldable pub widened : Machine → List Row → ℕ → List Row
widened m rows taken = entered same_row rows (sides m (get_or rows taken blank_row))

-- The rows are taken in order; a wide row ends the meeting, else its sides are entered. `taken`
-- rows of those met were taken already; each step takes one, and `steps` bounds their number.
abbrev pub meet_on : Machine → ℕ → ℕ → ℕ → List Row → Met
meet_on m limit zero taken rows = record { end = all; rows = rows }
meet_on m limit (suc steps) taken rows =
    elim (leb (length rows) taken) [
      | true ↦ record { end = all; rows = rows }
      | false ↦ elim (wide m (get_or rows taken blank_row)) [
        | true ↦ record { end = wide_row; rows = rows }
        | false ↦ elim (ltb limit (length (widened m rows taken))) [
          | true ↦ record { end = out_of_rows; rows = take limit (widened m rows taken) }
          | false ↦ meet_on m limit steps (taken + 1) (widened m rows taken)
        ]
      ]
    ]

-- the meeting from a root within `limit` rows
unfoldable pub meet : Machine → ℕ → Row → Met
meet m limit root = meet_on m limit (limit + 1) 0 (root ∷ [])
