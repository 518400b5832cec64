-- Marking the refuted rows of a list that is closed under sides.
use Rattle.std.specs.Prelude.{◌≡◌, ℕ, zero, suc, ◌<◌, Bool, true, false, ◌&&◌, ◌||◌, List, [], ◌∷◌, map, length, slice_index_or}
use Rattle.model.specs.declared.rows.Row.{Row}
use Rattle.model.specs.Blank.{blank_row}
use Rattle.theory.specs.Count.{any}
use Rattle.theory.specs.Machine.{Machine}
use Rattle.theory.specs.Inequality.{same_row, Refuted, inconsistent, EitherOr, either_ors, Member}

-- both sides of each either-or of each row of the list are in the list
abbrev pub Sided : Machine → List Row → Type 0
Sided m rows = (r : Row) (e : EitherOr) → Member r rows → Member e (either_ors m r) →
    Member e.content rows × Member e.rest rows

-- whether a row of the list that is the same as r has its mark set
abbrev pub marked : List Row → List Bool → Row → Bool
marked [] marks r = false
marked (x ∷ rows) [] r = false
marked (x ∷ rows) (b ∷ marks) r = (same_row r x && b) || marked rows marks r

-- whether both sides of an either-or are marked
abbrev pub both_marked : List Row → List Bool → EitherOr → Bool
both_marked rows marks e = marked rows marks e.content && marked rows marks e.rest

-- each row's mark is set if it was, or if an either-or of the row passes a test
abbrev pub sweep_by : Machine → (EitherOr → Bool) → List Row → List Bool → List Bool
sweep_by m passes [] marks = []
sweep_by m passes (r ∷ rows) [] = []
sweep_by m passes (r ∷ rows) (b ∷ marks) = (b || any passes (either_ors m r)) ∷ sweep_by m passes rows marks

-- one sweep: a row with an either-or both of whose sides are marked is marked too
abbrev pub sweep : Machine → List Row → List Bool → List Bool
sweep m rows marks = sweep_by m (both_marked rows marks) rows marks

-- a number of sweeps
abbrev pub sweeps : Machine → List Row → ℕ → List Bool → List Bool
sweeps m rows zero marks = marks
sweeps m rows (suc n) marks = sweep m rows (sweeps m rows n marks)

-- the marks: first the inconsistent rows, then as many sweeps as there are rows
unfoldable pub marks : Machine → List Row → List Bool
marks m rows = sweeps m rows (length rows) (map (inconsistent m) rows)

-- the marks of a list of rows are right: exactly the refuted rows have theirs set
abbrev pub Right : Machine → List Row → List Bool → Type 0
Right m rows marks = (length marks ≡ length rows)
    × ((i : ℕ) → i < length rows → slice_index_or marks i false ≡ true → Refuted m (slice_index_or rows i blank_row))
    × ((i : ℕ) → i < length rows → Refuted m (slice_index_or rows i blank_row) → slice_index_or marks i false ≡ true)

-- marks that no further sweep changes: the inconsistent rows are marked, and each row with an
-- either-or both of whose sides are marked
abbrev pub Swept : Machine → List Row → List Bool → Type 0
Swept m rows marks = (i : ℕ) → i < length rows →
    (inconsistent m (slice_index_or rows i blank_row) ≡ true → slice_index_or marks i false ≡ true)
    × ((e : EitherOr) → Member e (either_ors m (slice_index_or rows i blank_row)) →
    marked rows marks e.content ≡ true → marked rows marks e.rest ≡ true → slice_index_or marks i false ≡ true)
