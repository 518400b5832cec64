-- What the answer to a question says, and what the rows and items hold after it.
use Rattle.std.specs.Prelude.{◌≡◌, ℕ, ◌-◌, ◌≤◌, Bool, true, false, ◌&&◌, List, ◌++◌, length, take, replicate, nat_le, nat_lt}
use Rattle.model.specs.declared.rows.Row.{Row}
use Rattle.model.specs.declared.rows.Item.{Item}
use Rattle.model.specs.Sets.{insert}
use Rattle.model.specs.Blank.{blank_row, blank_item}
use Rattle.theory.specs.Machine.{Machine}
use Rattle.theory.specs.Inequality.{row}
use Rattle.theory.specs.Items.{spelled, Earlier}
use Rattle.theory.specs.Meeting.{meet, all, wide_row, out_of_rows}
use Rattle.inequality.specs.Fits.{Fits, Witness}
use Rattle.inequality.specs.Verdicts.{excluded, table}
use Rattle.marking.specs.Marks.{Had, LeftHad}
use Rattle.search.specs.declared.answer.Answer.{Answer}
use Rattle.search.specs.declared.answer.Answer.TheVariants.{Included, Excluded, Wide, OutOfRows}

-- the root of a question: the state a against the state b alone
abbrev pub root_of : ℕ → ℕ → Row
root_of a b = row a (insert 0 b)

-- one to 512 rows, and an item and a mark for each
abbrev pub suits : ℕ → ℕ → ℕ → Bool
suits rows items marks = nat_lt 0 rows && (nat_le rows 512 && (nat_le rows items && nat_le rows marks))

-- After "included": the root is not refuted, the first rows are the unrefuted ones of those met, in
-- the order met, and all else is blank.
pub record Shown (m : Machine) (met : List Row) (limit room records : ℕ) (rows : List Row) (items : List Item) : Type 0 where
  pub verdict : excluded m met ≡ false
  pub count : records ≡ length (table m met)
  pub first_rows : rows ≡ table m met ++ replicate (limit - records) blank_row
  pub no_items : items ≡ replicate room blank_item

-- After "excluded": the root is refuted; the first items, no more than rows were met, spell a hedge
-- that the left of the root has and no state on its right; each item refers to earlier ones, and
-- its hedge is had by some state, the left of some row met; all else is blank.
pub record Refused (m : Machine) (met : List Row) (root : Row) (limit room records : ℕ) (rows : List Row) (items : List Item) : Type 0 where
  pub verdict : excluded m met ≡ true
  pub few : records ≤ length met
  pub count : length (take records items) ≡ records
  pub earlier : Earlier (take records items)
  pub spells : Fits m → Witness m root (spelled (take records items))
  pub had : Fits m → Had m (take records items)
  pub left_had : Fits m → LeftHad m met (take records items)
  pub first_items : items ≡ take records items ++ replicate (room - records) blank_item
  pub no_rows : rows ≡ replicate limit blank_row

-- all rows and items are blank
abbrev pub Blanked : ℕ → ℕ → List Row → List Item → Type 0
Blanked limit room rows items = (rows ≡ replicate limit blank_row) × (items ≡ replicate room blank_item)

-- the answer once all reachable inequalities were met
abbrev pub Decided : Machine → List Row → Row → ℕ → ℕ → Answer → List Row → List Item → Type 0
Decided m met root limit room (Included k records) rows items = (k ≡ length met) × Shown m met limit room records rows items
Decided m met root limit room (Excluded k records) rows items = (k ≡ length met) × Refused m met root limit room records rows items
Decided m met root limit room (Wide k) rows items = ⊥
Decided m met root limit room (OutOfRows k) rows items = ⊥

-- the answer to a question that the lent rows, items and marks suit, by how the meeting ends
abbrev pub Answered : Machine → Row → ℕ → ℕ → Answer → List Row → List Item → Type 0
Answered m root limit room (Included k records) rows items = ((meet m limit root).end ≡ all)
    × (k ≡ length (meet m limit root).rows) × Shown m (meet m limit root).rows limit room records rows items
Answered m root limit room (Excluded k records) rows items = ((meet m limit root).end ≡ all)
    × (k ≡ length (meet m limit root).rows) × Refused m (meet m limit root).rows root limit room records rows items
Answered m root limit room (Wide k) rows items = ((meet m limit root).end ≡ wide_row)
    × (k ≡ length (meet m limit root).rows) × Blanked limit room rows items
Answered m root limit room (OutOfRows k) rows items = ((meet m limit root).end ≡ out_of_rows)
    × (k ≡ length (meet m limit root).rows) × Blanked limit room rows items

-- the answer to any question: where rows, items or marks do not suit, none is met and all is blank
abbrev pub Asked : Machine → Row → ℕ → ℕ → Bool → Answer → List Row → List Item → Type 0
Asked m root limit room true answer rows items = Answered m root limit room answer rows items
Asked m root limit room false answer rows items = (answer ≡ OutOfRows 0) × Blanked limit room rows items
