-- When a sheet shows its claim, and the first fault where it does not.
use Rattle.std.specs.Prelude.{ℕ, ◌+◌, Bool, false, cond, not, ◌&&◌, List, [], ◌∷◌, Some, None, Ok, Err, Option, Result}
use Rattle.std.specs.Option.{option_or}
use Rattle.model.specs.declared.rows.Row.{Row}
use Rattle.model.specs.declared.rows.Item.{Item}
use Rattle.model.specs.Sets.{insert}
use Rattle.ledger.specs.Settled.{Settled}
use Rattle.theory.specs.Machine.{Machine}
use Rattle.theory.specs.Inequality.{row, same_row, inconsistent, wide}
use Rattle.meaning.specs.Tables.{has_spelled}
use Rattle.gaps.specs.Shows.{shown, gap}
use Rattle.judge.specs.declared.fault.SheetFault.{SheetFault}
use Rattle.judge.specs.declared.fault.SheetFault.TheVariants.{Root, Inconsistent, Gap, Wide, Witness}

-- the fault of a row at line n: inconsistent, then wide, then a gap
unfoldable pub row_fault : Machine → (Row → Bool) → ℕ → Row → Option SheetFault
row_fault m is_shown n r =
    cond (inconsistent m r) (Some (Inconsistent n))
    (cond (wide m r) (Some (Wide n))
    (cond (gap m is_shown r) (Some (Gap n)) None))

-- the first fault of rows that stand from line n on
abbrev pub first_fault : Machine → (Row → Bool) → ℕ → List Row → Option SheetFault
first_fault m is_shown n [] = None
first_fault m is_shown n (r ∷ rows) = option_or (row_fault m is_shown n r) (first_fault m is_shown (n + 1) rows)

-- row 0 is the root
abbrev pub rooted : ℕ → ℕ → List Row → Bool
rooted a b [] = false
rooted a b (r ∷ rows) = same_row r (row a (insert 0 b))

-- the fault of an included sheet: row 0 is the root, and no row is at fault; row 0 stands at line 3
unfoldable pub included_fault : Machine → (ℕ → ℕ → Settled) → ℕ → ℕ → ℕ → List Row → Option SheetFault
included_fault m settled rules a b rows =
    cond (rooted a b rows) (first_fault m (shown settled rules rows) 3 rows) (Some Root)

-- the fault of an excluded sheet: the hedge is in the left and not in the right
unfoldable pub excluded_fault : Machine → ℕ → ℕ → List Item → Option SheetFault
excluded_fault m a b items =
    cond (has_spelled m items a && not (has_spelled m items b)) None (Some Witness)

-- a sheet is refused by its fault, and accepted without one
abbrev pub refusal : Option SheetFault → Result (Unit {0}) SheetFault
refusal None = Ok tt
refusal (Some f) = Err f
