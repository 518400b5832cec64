-- What reading a text gives, as the code holds the text.
use Rattle.std.specs.Prelude.{◌≡◌, ℕ, List, OnOk, Result}
use Rattle.model.specs.declared.rows.Row.{Row}
use Rattle.model.specs.declared.rows.Item.{Item}
use Rattle.model.specs.Blank.{blank_row, blank_item}
use Rattle.text.specs.Pieces.{lines}
use Rattle.records.specs.declared.fault.CallFault.{CallFault}
use Rattle.records.specs.declared.sheet.Progress.{Progress}
use Rattle.records.specs.declared.sheet.Limits.{Limits}
use Rattle.records.specs.declared.read.Reading.{Reading}
use Rattle.records.specs.Reading.{Found, run, begun, text_read, answer, itself, padded, rows_in, items_in}

-- what the lines of a text are judged against, where so many records have a place
abbrev pub limits_of : Reading → ℕ → Limits
limits_of r room = record { rules = r.bounds.rules; states = r.bounds.states; room = room }

-- what the lines of a text give
abbrev pub lines_read : Reading → ℕ → Result Found CallFault
lines_read r room = run (limits_of r room) r.bounds.names.now (begun r.stage) 0 (lines r.text.now)

-- what a whole text gives, with the counts of rows and items given
abbrev pub all_read : Reading → ℕ → ℕ → Result Found CallFault
all_read r m n = text_read (limits_of r m) r.bounds.names.now r.stage m n r.text.now

-- what a call answers of a reading, and what it leaves in m rows and n items unless it refuses
pub record FilledBy (read : Result Found CallFault) (m n : ℕ) (r : Result Progress CallFault) (rows : List Row) (items : List Item) : Type 0 where
  pub answered : r ≡ answer itself read
  pub rows_left : OnOk r (rows ≡ padded blank_row m (rows_in read))
  pub items_left : OnOk r (items ≡ padded blank_item n (items_in read))
