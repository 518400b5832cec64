-- What taking an inequality does.
use Rattle.std.specs.Prelude.{◌≡◌, true, false, Result, Ok, Err}
use Rattle.model.specs.declared.rows.Row.{Row}
use Rattle.theory.specs.Machine.{Machine}
use Rattle.theory.specs.Inequality.{same_row, wide}
use Rattle.theory.specs.Meeting.{sides}
use Rattle.book.specs.declared.Book.{Book}
use Rattle.book.specs.Feeding.{Fills}
use Rattle.sides.specs.declared.entering.Stop.{Stop}
use Rattle.sides.specs.declared.entering.Stop.TheVariants.{Wide, OutOfRows}

-- A wide row leaves the book as it is. Else the sides of the row were entered in the book, and the
-- answer tells whether all had room.
abbrev pub Took : Machine → Row → Book Row → Book Row → Result Unit Stop → Type 0
Took m r before after (Ok _) = (wide m r ≡ false) × Fills same_row before after (sides m r) true
Took m r before after (Err Wide) = (wide m r ≡ true) × (after ≡ before)
Took m r before after (Err OutOfRows) = (wide m r ≡ false) × Fills same_row before after (sides m r) false
