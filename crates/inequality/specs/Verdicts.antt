-- The verdict on a root whose reachable inequalities were all met, and the table that shows it.
use Rattle.std.specs.Prelude.{◌≡◌, Bool, true, false, cond, ◌⊎◌, List, [], ◌∷◌, slice_index_or}
use Rattle.model.specs.declared.rows.Row.{Row}
use Rattle.theory.specs.Hedge.{Hedge}
use Rattle.theory.specs.Machine.{Machine}
use Rattle.theory.specs.Inequality.{Holds, inconsistent, wide, EitherOr, either_ors, Member}
use Rattle.inequality.specs.Fits.{Witness}
use Rattle.inequality.specs.Marks.{marks}

-- the rows whose marks are not set, in order
abbrev pub unmarked : List Row → List Bool → List Row
unmarked [] ms = []
unmarked (r ∷ rows) [] = r ∷ rows
unmarked (r ∷ rows) (b ∷ ms) = cond b (unmarked rows ms) (r ∷ unmarked rows ms)

-- whether the first of the rows met is refuted
unfoldable pub excluded : Machine → List Row → Bool
excluded m rows = slice_index_or (marks m rows) 0 false

-- the unrefuted ones of the rows met, in order
unfoldable pub table : Machine → List Row → List Row
table m rows = unmarked rows (marks m rows)

-- A table that shows its first row by itself: no row is inconsistent or wide, and each either-or of
-- each row has a side among the rows.
abbrev pub Shows : Machine → Row → List Row → Type 0
Shows m root rows = ((more : List Row) × (rows ≡ root ∷ more))
    × ((r : Row) → Member r rows → (inconsistent m r ≡ false) × (wide m r ≡ false))
    × ((r : Row) (e : EitherOr) → Member r rows → Member e (either_ors m r) →
    Member e.content rows ⊎ Member e.rest rows)

-- the verdict on the rows met from a root is true: with `excluded`, some hedge is a witness against
-- the root; without it, the root holds, and the table of the unrefuted rows shows it
abbrev pub TrueVerdict : Machine → Row → List Row → Type 0
TrueVerdict m root rows = (excluded m rows ≡ true → (h : Hedge) × Witness m root h)
    × (excluded m rows ≡ false → Holds m root × Shows m root (table m rows))
