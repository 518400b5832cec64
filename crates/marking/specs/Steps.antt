-- What the steps of marking ask and keep.
use Rattle.std.specs.Prelude.{◌≡◌, ℕ, ◌<◌, ◌≤◌, List, length, take, Some, None, ◌≢◌, slice_index_or}
use Rattle.model.specs.declared.rows.Row.{Row}
use Rattle.model.specs.declared.rows.Item.{Item}
use Rattle.model.specs.Blank.{blank_row}
use Rattle.theory.specs.Machine.{Machine}
use Rattle.marking.specs.Refutes.{Marks, refutation}
use Rattle.marking.specs.Marks.{mark_at, Marked, Narrow, StillFrom, Rooted}

-- there is a mark and an item for each row
pub record Roomy (m : Machine) (rows : List Row) (marks : Marks) (items : List Item) : Type 0 where
  pub few_rows : length rows ≤ 512
  pub marks_long : length rows ≤ length marks
  pub items_long : length rows ≤ length items
  pub narrow : Narrow m rows

-- ... and marks and the first items, so many as are used, agree
pub record Ready (m : Machine) (rows : List Row) (marks : Marks) (items : List Item) (used : ℕ) : Type 0 where
  pub roomy : Roomy m rows marks items
  pub within : used ≤ length items
  pub marked : Marked m rows marks (take used items)

-- Row number i was looked at: it is marked by the next item if marked rows refute it.
pub record Step (m : Machine) (rows : List Row) (i : ℕ) (marks marks' : Marks) (items' : List Item) (used used' : ℕ) : Type 0 where
  pub ready : Ready m rows marks' items' used'
  pub rises : used ≤ used'
  pub same : used' ≡ used → marks' ≡ marks
  pub still : used' ≡ used → mark_at marks i ≡ None → refutation m rows marks (slice_index_or rows i blank_row) ≡ None
  pub others : (k : ℕ) → (k ≢ i) → mark_at marks' k ≡ mark_at marks k
  pub here : (k : ℕ) → mark_at marks i ≡ None → mark_at marks' i ≡ Some k → k ≡ used'

-- All rows from number i on were looked at, the last first.
pub record Sweeping (m : Machine) (rows : List Row) (i : ℕ) (marks marks' : Marks) (items' : List Item) (used used' : ℕ) : Type 0 where
  pub ready : Ready m rows marks' items' used'
  pub rises : used ≤ used'
  pub same : used' ≡ used → marks' ≡ marks
  pub still : used' ≡ used → StillFrom m rows marks i
  pub others : (k : ℕ) → k < i → mark_at marks' k ≡ mark_at marks k
  pub rooted : i ≡ 0 → mark_at marks 0 ≡ None → Rooted marks' used'

-- All rows were looked at.
pub record Swept (m : Machine) (rows : List Row) (marks marks' : Marks) (items' : List Item) (used used' : ℕ) : Type 0 where
  pub ready : Ready m rows marks' items' used'
  pub rises : used ≤ used'
  pub still : used' ≡ used → StillFrom m rows marks' 0
  pub rooted : mark_at marks 0 ≡ None → Rooted marks' used'

-- Marking is done: the first row is marked by the last item, or no further step marks a row.
pub record Settled (m : Machine) (rows : List Row) (marks : Marks) (items : List Item) (used : ℕ) : Type 0 where
  pub ready : Ready m rows marks items used
  pub rooted : Rooted marks used
  pub still : mark_at marks 0 ≡ None → StillFrom m rows marks 0
