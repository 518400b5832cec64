-- How many inequalities are reachable from a root, and what a meeting of them says.
use Rattle.std.specs.Prelude.{◌≡◌, ℕ, ◌+◌, ◌≤◌, true, false, ◌⊎◌, ◌↔◌, List, ◌∷◌, length}
use Rattle.model.specs.declared.rows.Row.{Row}
use Rattle.theory.specs.Machine.{Machine}
use Rattle.theory.specs.Inequality.{same_row, wide, Reachable, Member}
use Rattle.theory.specs.Meeting.{meet, all, wide_row, out_of_rows}
use Rattle.inequality.specs.Lists.{Distinct}
use Rattle.inequality.specs.Marks.{Sided}

-- the rows have no repeats, and they are exactly the reachable inequalities
abbrev pub Listed : Machine → Row → List Row → Type 0
Listed m root rows = Distinct same_row rows × ((r : Row) → Member r rows ↔ Reachable m root r)

-- n is the number of reachable inequalities
abbrev pub Numbered : Machine → Row → ℕ → Type 0
Numbered m root n = (rows : List Row) × (length rows ≡ n) × Listed m root rows

-- the reachable inequalities outnumber n: there are n + 1 distinct ones
abbrev pub Outnumber : Machine → Row → ℕ → Type 0
Outnumber m root n = (rows : List Row) × (length rows ≡ n + 1) × Distinct same_row rows
    × ((r : Row) → Member r rows → Reachable m root r)

-- a reachable inequality is wide
abbrev pub SomeWide : Machine → Row → Type 0
SomeWide m root = (r : Row) × Reachable m root r × (wide m r ≡ true)

-- no reachable inequality is wide
abbrev pub NoneWide : Machine → Row → Type 0
NoneWide m root = (r : Row) → Reachable m root r → wide m r ≡ false

-- what the rows of every meeting are: the root first, no repeats, reachable ones, at most `limit`
abbrev pub Begun : Machine → ℕ → Row → List Row → Type 0
Begun m limit root rows = ((more : List Row) × (rows ≡ root ∷ more)) × Distinct same_row rows
    × ((r : Row) → Member r rows → Reachable m root r) × (length rows ≤ limit)

-- a meeting met all: its rows are exactly the reachable inequalities, none of them is wide, and both
-- sides of each of their either-ors are among them
abbrev pub MetAll : Machine → Row → List Row → Type 0
MetAll m root rows = Listed m root rows × NoneWide m root × Sided m rows

-- a meeting ends with all exactly when no reachable inequality is wide and their number is within
-- the limit
abbrev pub EndsAll : Machine → ℕ → Row → Type 0
EndsAll m limit root = ((meet m limit root).end ≡ all)
    ↔ (NoneWide m root × ((n : ℕ) × (n ≤ limit) × Numbered m root n))

-- a meeting stops exactly when the reachable inequalities outnumber the limit or one is wide
abbrev pub Stops : Machine → ℕ → Row → Type 0
Stops m limit root = (((meet m limit root).end ≡ wide_row) ⊎ ((meet m limit root).end ≡ out_of_rows))
    ↔ (Outnumber m root limit ⊎ SomeWide m root)
