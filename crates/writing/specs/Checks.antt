-- What writing refuses, as reading the text would.
use Rattle.std.specs.Prelude.{ℕ, zero, suc, ◌+◌, ◌/◌, ◌^◌, min, Bool, cond, ◌&&◌, List, [], ◌∷◌, length, Ok, Err, Result, ◌==◌, nat_le, nat_lt}
use Rattle.model.specs.declared.names.Name.{Name}
use Rattle.model.specs.declared.rows.Row.{Row}
use Rattle.model.specs.declared.rows.Item.{Item}
use Rattle.records.specs.declared.fault.CallFault.{CallFault}
use Rattle.records.specs.declared.fault.CallFault.TheVariants.{Rule, Output}
use Rattle.model.specs.declared.verdict.Verdict.{Verdict}
use Rattle.model.specs.declared.verdict.Verdict.TheVariants.{Included, Excluded}
use Rattle.records.specs.declared.sheet.Sheet.{Sheet}
use Rattle.records.specs.Chains.{then, misplaced, roomless}
use Rattle.records.specs.Places.{item_fits}
use Rattle.records.specs.Reading.{counted}
use Rattle.writing.specs.Texts.{sheet_text}

-- a row over the states: none of its right states is above them
abbrev pub row_fits : ℕ → Row → Bool
row_fits states r = nat_lt r.left states && r.right.bits / 2 ^ min states 128 == 0

-- n records, the first at this line and after k others: each has a place and fits it
abbrev pub places_checked : {X : Type 0} → (ℕ → X → Bool) → ℕ → ℕ → List X → Result (Unit {0}) CallFault
places_checked fits k zero xs = Ok tt
places_checked fits k (suc n) [] = roomless (k + 3)
places_checked fits k (suc n) (x ∷ xs) = cond (fits k x) (places_checked fits (k + 1) n xs) (misplaced (k + 3))

-- the records of a verdict
abbrev pub records_checked : ℕ → List Name → Verdict → ℕ → List Row → List Item → Result (Unit {0}) CallFault
records_checked states names Included n rows items = places_checked (λ _ r. row_fits states r) 0 n rows
records_checked states names Excluded n rows items = places_checked (item_fits names) 0 n items

-- both rules of the pair are there
abbrev pub pair_checked : ℕ → Sheet → Result (Unit {0}) CallFault
pair_checked rules s = cond (nat_lt s.left rules && nat_lt s.right rules) (Ok tt) (Err (Rule 2))

-- a sheet with its rows and items
abbrev pub sheet_checked : ℕ → ℕ → List Name → Sheet → List Row → List Item → Result (Unit {0}) CallFault
sheet_checked rules states names s rows items =
    then (counted (length rows) (length items)) λ _.
    then (pair_checked rules s) λ _.
    records_checked states names s.verdict s.records rows items

-- what writing answers: the length of the text, which the output must hold
abbrev pub sheet_written : ℕ → ℕ → List Name → Sheet → List Row → List Item → ℕ → Result ℕ CallFault
sheet_written rules states names s rows items room =
    then (sheet_checked rules states names s rows items) λ _.
    cond (nat_le (length (sheet_text s rows items)) room) (Ok (length (sheet_text s rows items))) (Err Output)
