-- A text of records, line after line.
use Rattle.std.specs.Prelude.{◌≡◌, ℕ, ◌+◌, ◌-◌, ◌<◌, ◌≤◌, cond, ◌&&◌, List, [], ◌∷◌, ◌++◌, length, take, drop, replicate, Ok, Err, Result, ◌==◌, nat_le, slice_index_or, slice_set}
use Rattle.std.specs.Coded.{Unit-prop}
use Rattle.model.specs.declared.names.Name.{Name}
use Rattle.model.specs.declared.rows.Row.{Row}
use Rattle.model.specs.declared.rows.Item.{Item}
use Rattle.model.specs.Blank.{blank_row, blank_item}
use Rattle.theory.specs.Items.{Earlier}
use Rattle.text.specs.Pieces.{lines, whole_text}
use Rattle.records.specs.declared.fault.CallFault.{CallFault}
use Rattle.model.specs.declared.verdict.Verdict.{Verdict}
use Rattle.model.specs.declared.verdict.Verdict.TheVariants.{Included, Excluded}
use Rattle.records.specs.declared.sheet.Stage.{Stage}
use Rattle.records.specs.declared.sheet.Stage.TheVariants.{Sheet, Hedge, Pair, Rows, Items, Ended}
use Rattle.records.specs.declared.sheet.Progress.{Progress}
use Rattle.records.specs.declared.sheet.Limits.{Limits}
use Rattle.records.specs.declared.sheet.Sheet.{Sheet as SheetType}
use Rattle.records.specs.declared.sheet.Step.{Step}
use Rattle.records.specs.declared.sheet.Step.TheVariants.{Opened, Begun, Paired, Row as a_row, Item as an_item, Ended as the_end}
use Rattle.records.specs.Chains.{then, of_line, formless, roomless}
use Rattle.records.specs.Places.{RowFits, ItemSound}
use Rattle.records.specs.Lines.{judged}

-- the stage of the records of a sheet
abbrev pub records_of : Verdict → Stage
records_of Included = Rows
records_of Excluded = Items

-- the progress after a line
abbrev pub advanced : Progress → Step → Progress
advanced p (Opened v) = record { stage = Pair; verdict = v; left = p.left; right = p.right; count = p.count }
advanced p Begun = record { stage = Items; verdict = p.verdict; left = p.left; right = p.right; count = p.count }
advanced p (Paired a b) = record { stage = records_of p.verdict; verdict = p.verdict; left = a; right = b; count = p.count }
advanced p (a_row r) = record { stage = p.stage; verdict = p.verdict; left = p.left; right = p.right; count = p.count + 1 }
advanced p (an_item i) = record { stage = p.stage; verdict = p.verdict; left = p.left; right = p.right; count = p.count + 1 }
advanced p the_end = record { stage = Ended; verdict = p.verdict; left = p.left; right = p.right; count = p.count }

-- the rows after a line
abbrev pub more_rows : List Row → Step → List Row
more_rows rows (Opened v) = rows
more_rows rows Begun = rows
more_rows rows (Paired a b) = rows
more_rows rows (a_row r) = rows ++ r ∷ []
more_rows rows (an_item i) = rows
more_rows rows the_end = rows

-- the items after a line
abbrev pub more_items : List Item → Step → List Item
more_items items (Opened v) = items
more_items items Begun = items
more_items items (Paired a b) = items
more_items items (a_row r) = items
more_items items (an_item i) = items ++ i ∷ []
more_items items the_end = items

-- the rows with a line's row at its place
abbrev pub row_placed : ℕ → List Row → Step → List Row
row_placed n rows (Opened v) = rows
row_placed n rows Begun = rows
row_placed n rows (Paired a b) = rows
row_placed n rows (a_row r) = slice_set rows n r
row_placed n rows (an_item i) = rows
row_placed n rows the_end = rows

-- the items with a line's item at its place
abbrev pub item_placed : ℕ → List Item → Step → List Item
item_placed n items (Opened v) = items
item_placed n items Begun = items
item_placed n items (Paired a b) = items
item_placed n items (a_row r) = items
item_placed n items (an_item i) = slice_set items n i
item_placed n items the_end = items

-- what has been read: how far, and the records so far
pub record Found : Type 0 where
  pub at : Progress
  pub rows : List Row
  pub items : List Item

-- what has been read after a line
abbrev pub entered : Found → Step → Found
entered f s = record { at = advanced f.at s; rows = more_rows f.rows s; items = more_items f.items s }

-- a text may end only after its end line; else line n is missing
abbrev pub finished : {X : Type 0} → ℕ → X → Stage → Result X CallFault
finished n x Sheet = formless n
finished n x Hedge = formless n
finished n x Pair = formless n
finished n x Rows = formless n
finished n x Items = formless n
finished n x Ended = Ok x

-- the lines after line n
abbrev pub run : Limits → List Name → Found → ℕ → List (List ℕ) → Result Found CallFault
run L names f n [] = finished (n + 1) f f.at.stage
run L names f n (l ∷ ls) = then (judged L names f.at (n + 1) l) λ s. run L names (entered f s) (n + 1) ls

-- nothing has been read, and the first line is to be of this stage
abbrev pub started : Stage → Progress
started s = record { stage = s; verdict = Excluded; left = 0; right = 0; count = 0 }

abbrev pub begun : Stage → Found
begun s = record { at = started s; rows = []; items = [] }

-- the stages that a text may begin at
abbrev pub Opening : Stage → Type 0
Opening Sheet = Unit {0}
Opening Hedge = Unit {0}
Opening Pair = ⊥
Opening Rows = ⊥
Opening Items = ⊥
Opening Ended = ⊥

pub opening_prop : (s : Stage) → IsProp (Opening s)
opening_prop Sheet = Unit-prop
opening_prop Hedge = Unit-prop
opening_prop Pair = λ x y. absurd x
opening_prop Rows = λ x y. absurd x
opening_prop Items = λ x y. absurd x
opening_prop Ended = λ x y. absurd x

-- the counts of rows and items that a call may be given: 1 to 512 rows, and as many items
abbrev pub counted : ℕ → ℕ → Result (Unit {0}) CallFault
counted m n = cond (nat_le 1 m && nat_le m 512 && m == n) (Ok tt) (roomless 0)

-- the most bytes that a text of records may have
abbrev pub limit : ℕ
limit = 262144

-- a text that begins at a stage, with the counts of rows and items given
abbrev pub text_read : Limits → List Name → Stage → ℕ → ℕ → List ℕ → Result Found CallFault
text_read L names s m n bs =
    then (counted m n) λ _.
    then (of_line (whole_text limit bs)) λ _.
    run L names (begun s) 0 (lines bs)

-- the whole progress
abbrev pub itself : Progress → Progress
itself p = p

-- the sheet that was read
abbrev pub sheet_of : Progress → SheetType
sheet_of p = record { verdict = p.verdict; left = p.left; right = p.right; records = p.count }

-- a sheet's text
abbrev pub sheet_read : ℕ → ℕ → List Name → ℕ → ℕ → List ℕ → Result Found CallFault
sheet_read rules states names m n bs = text_read (record { rules = rules; states = states; room = m }) names Sheet m n bs

-- a hedge's text
abbrev pub hedge_read : List Name → ℕ → ℕ → List ℕ → Result Found CallFault
hedge_read names m n bs = text_read (record { rules = 0; states = 0; room = m }) names Hedge m n bs

-- what a call answers of it
abbrev pub answer : {X : Type 0} → (Progress → X) → Result Found CallFault → Result X CallFault
answer f (Ok x) = Ok (f x.at)
answer f (Err e) = Err e

-- the number of records that were read
abbrev pub count_of : Progress → ℕ
count_of p = p.count

-- the rows and the items that were read; none after a refusal
abbrev pub rows_in : Result Found CallFault → List Row
rows_in (Ok x) = x.rows
rows_in (Err e) = []

abbrev pub items_in : Result Found CallFault → List Item
items_in (Ok x) = x.items
items_in (Err e) = []

-- n places: first the records, the others blank
abbrev pub padded : {X : Type 0} → X → ℕ → List X → List X
padded blank n xs = xs ++ replicate (n - length xs) blank

-- what a call answers of a reading, and what it leaves in m rows and n items
pub record ReadInto {X : Type 0} (f : Progress → X) (read : Result Found CallFault) (m n : ℕ) (r : Result X CallFault) (rows : List Row) (items : List Item) : Type 0 where
  pub answered : r ≡ answer f read
  pub rows_left : rows ≡ padded blank_row m (rows_in read)
  pub items_left : items ≡ padded blank_item n (items_in read)

-- the first n rows are inequalities over the states, and all others are blank
pub record RowsSound (states n : ℕ) (rows : List Row) (items : List Item) : Type 0 where
  pub within : n ≤ length rows
  pub fit : (k : ℕ) → k < n → RowFits states (slice_index_or rows k blank_row)
  pub others : drop n rows ≡ replicate (length rows - n) blank_row
  pub no_items : items ≡ replicate (length items) blank_item

-- the first n items spell a hedge over the names, and all others are blank
pub record ItemsSound (names : List Name) (n : ℕ) (rows : List Row) (items : List Item) : Type 0 where
  pub within : n ≤ length items
  pub fit : (k : ℕ) → k < n → ItemSound names k (slice_index_or items k blank_item)
  pub earlier : Earlier (take n items)
  pub others : drop n items ≡ replicate (length items - n) blank_item
  pub no_rows : rows ≡ replicate (length rows) blank_row

-- the records of a sheet, by its verdict
abbrev pub RecordsSound : ℕ → List Name → Verdict → ℕ → List Row → List Item → Type 0
RecordsSound states names Included n rows items = RowsSound states n rows items
RecordsSound states names Excluded n rows items = ItemsSound names n rows items

-- a sheet that was read: its pair are rules, and its records are sound
pub record SheetSound (rules states : ℕ) (names : List Name) (s : SheetType) (rows : List Row) (items : List Item) : Type 0 where
  pub left_rule : s.left < rules
  pub right_rule : s.right < rules
  pub sound : RecordsSound states names s.verdict s.records rows items
