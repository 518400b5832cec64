-- What the judgement of sheets means, for all machines, registers and sheets.
use Rattle.std.specs.Prelude.{◌≡◌, ℕ, ◌<◌, ◌≤◌, true, false, ◌↔◌, List, length, Some, None}
use Rattle.model.specs.declared.rows.Row.{Row}
use Rattle.model.specs.declared.rows.Item.{Item}
use Rattle.model.specs.Sets.{insert}
use Rattle.ledger.specs.Settled.{Settled}
use Rattle.model.specs.declared.verdict.Verdict.TheVariants.{Included}
use Rattle.theory.specs.Machine.{Machine, accepts}
use Rattle.theory.specs.Items.{spelled}
use Rattle.theory.specs.Inequality.{row, Holds, Member}
use Rattle.inequality.specs.Fits.{Fits, Named, Witness}
use Rattle.inequality.specs.Verdicts.{Shows}
use Rattle.judge.specs.Judgement.{included_fault, excluded_fault}

-- What is settled as included is true: the right rule has every hedge of the left one.
abbrev pub SettledTrue : Machine → (ℕ → ℕ → Settled) → Type 0
SettledTrue m settled = (c d : ℕ) → settled c d ≡ Some Included → Holds m (row c (insert 0 d))

-- Every row of an accepted included sheet holds, if what is settled as included is true.
abbrev pub RowsTrue : Type 0
RowsTrue = (m : Machine) → Fits m → Named m → (settled : ℕ → ℕ → Settled) (rules a b : ℕ) (rows : List Row) →
    SettledTrue m settled → included_fault m settled rules a b rows ≡ None → (r : Row) → Member r rows → Holds m r

-- An accepted included sheet is true, if what is settled as included is: rule b has every hedge of
-- rule a.
abbrev pub IncludedTrue : Type 0
IncludedTrue = (m : Machine) → Fits m → Named m → (settled : ℕ → ℕ → Settled) (rules a b : ℕ) (rows : List Row) →
    SettledTrue m settled → included_fault m settled rules a b rows ≡ None → Holds m (row a (insert 0 b))

-- An excluded sheet is accepted exactly when the hedge that its items spell is one of a's and none
-- of b's.
abbrev pub ExcludedTrue : Type 0
ExcludedTrue = (m : Machine) → length m.states ≤ 128 → (a b : ℕ) (items : List Item) →
    (excluded_fault m a b items ≡ None)
    ↔ ((accepts m (spelled items) a ≡ true) × (accepts m (spelled items) b ≡ false))

-- The same as a witness against the root.
abbrev pub ExcludedWitness : Type 0
ExcludedWitness = (m : Machine) → length m.states ≤ 128 → (a b : ℕ) (items : List Item) → b < 128 →
    (excluded_fault m a b items ≡ None) ↔ Witness m (row a (insert 0 b)) (spelled items)

-- Rows that show the root by themselves are an accepted included sheet, whatever is settled.
abbrev pub IncludedExchange : Type 0
IncludedExchange = (m : Machine) (settled : ℕ → ℕ → Settled) (rules a b : ℕ) (rows : List Row) →
    Shows m (row a (insert 0 b)) rows → included_fault m settled rules a b rows ≡ None
