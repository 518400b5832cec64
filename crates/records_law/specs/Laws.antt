-- What is written reads back, and what is accepted was written so.
use Rattle.std.specs.Prelude.{◌≡◌, ℕ, ◌≤◌, List, [], length, take, Ok}
use Rattle.model.specs.declared.names.Name.{Name}
use Rattle.model.specs.declared.rows.Row.{Row}
use Rattle.model.specs.declared.rows.Item.{Item}
use Rattle.model.specs.declared.verdict.Verdict.{Verdict}
use Rattle.model.specs.declared.verdict.Verdict.TheVariants.{Included, Excluded}
use Rattle.records.specs.declared.sheet.Stage.TheVariants.{Ended}
use Rattle.records.specs.declared.sheet.Sheet.{Sheet}
use Rattle.records.specs.Reading.{Found, sheet_read, sheet_of}
use Rattle.writing.specs.Texts.{sheet_text}
use Rattle.writing.specs.Checks.{sheet_checked}

-- the records of a sheet among the rows and among the items
abbrev pub rows_of : Verdict → ℕ → List Row → List Row
rows_of Included n rows = take n rows
rows_of Excluded n rows = []

abbrev pub items_of : Verdict → ℕ → List Item → List Item
items_of Included n items = []
items_of Excluded n items = take n items

-- a sheet as it is read
abbrev pub as_read : Sheet → List Row → List Item → Found
as_read s rows items =
    record {
      at = record { stage = Ended; verdict = s.verdict; left = s.left; right = s.right; count = s.records };
      rows = rows_of s.verdict s.records rows;
      items = items_of s.verdict s.records items;
    }

-- the most that a grammar has: 32 rules, 128 states, 64 names
pub record Sizes (rules states : ℕ) (names : List Name) : Type 0 where
  pub few_rules : rules ≤ 32
  pub few_states : states ≤ 128
  pub few_names : length names ≤ 64

-- the text of a sheet that writing does not refuse reads back as that sheet
abbrev pub ReadsBack : Type 0
ReadsBack = (rules states : ℕ) (names : List Name) (s : Sheet) (rows : List Row) (items : List Item) →
    Sizes rules states names → sheet_checked rules states names s rows items ≡ Ok tt →
    sheet_read rules states names (length rows) (length items) (sheet_text s rows items) ≡ Ok (as_read s rows items)

-- a text that is accepted is, byte for byte, the text of the sheet that was read
abbrev pub IsWritten : Type 0
IsWritten = (rules states : ℕ) (names : List Name) (m n : ℕ) (bs : List ℕ) (f : Found) →
    sheet_read rules states names m n bs ≡ Ok f → bs ≡ sheet_text (sheet_of f.at) f.rows f.items
