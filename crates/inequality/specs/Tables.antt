-- Closed tables of inequalities, and what refutation means.
use Rattle.std.specs.Prelude.{◌≡◌, false, ◌⊎◌}
use Rattle.model.specs.declared.rows.Row.{Row}
use Rattle.theory.specs.Hedge.{Hedge}
use Rattle.theory.specs.Machine.{Machine}
use Rattle.theory.specs.Inequality.{Holds, Refuted, inconsistent, EitherOr, either_ors, Member}
use Rattle.inequality.specs.Fits.{Witness}

-- A closed table, over any set of rows and any set of known ones: no row of it is inconsistent, and
-- each either-or of each of its rows has a side that is a row of it or is known.
abbrev pub Closed : Machine → (Row → Type 0) → (Row → Type 0) → Type 0
Closed m Is Known =
    ((r : Row) → Is r → inconsistent m r ≡ false)
    × ((r : Row) (e : EitherOr) → Is r → Member e (either_ors m r) →
    (Is e.content ⊎ Known e.content) ⊎ (Is e.rest ⊎ Known e.rest))

-- Every row of a closed table holds if what is known holds.
abbrev pub ClosedTrue : Machine → Type 1
ClosedTrue m = (Is Known : Row → Type 0) → Closed m Is Known → ((r : Row) → Known r → Holds m r) →
    (r : Row) → Is r → Holds m r

-- An inequality is refuted exactly when there is a witness against it.
abbrev pub RefutedWitness : Machine → Type 0
RefutedWitness m = (r : Row) → Refuted m r → (h : Hedge) × Witness m r h

abbrev pub WitnessRefuted : Machine → Type 0
WitnessRefuted m = (r : Row) (h : Hedge) → Witness m r h → Refuted m r

-- A refuted inequality does not hold, and one that is not refuted does.
abbrev pub RefutedFails : Machine → Type 0
RefutedFails m = (r : Row) → Refuted m r → Holds m r → ⊥

abbrev pub UnrefutedHolds : Machine → Type 0
UnrefutedHolds m = (r : Row) → (Refuted m r → ⊥) → Holds m r
