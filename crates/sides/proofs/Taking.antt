-- Taking an inequality leaves the book's room and its loan as they are.
use Rattle.std.proofs.Common.{Result, Ok, Err, sym, subst}
use Rattle.model.specs.declared.rows.Row.{Row}
use Rattle.theory.specs.Machine.{Machine}
use Rattle.book.specs.declared.Book.{Book}
use Rattle.book.specs.Feeding.{Kept}
use Rattle.book.proofs.Feeding.{kept_same}
use Rattle.sides.specs.declared.entering.Stop.{Stop}
use Rattle.sides.specs.declared.entering.Stop.TheVariants.{Wide, OutOfRows}
use Rattle.sides.specs.Took.{Took}

pub took_keeps : (m : Machine) (r : Row) (b a : Book Row) (end : Result Unit Stop) → Took m r b a end → Kept b a
took_keeps m r b a (Ok _) took = took.1.kept
took_keeps m r b a (Err Wide) took = subst (Kept b) (sym took.1) (kept_same b)
took_keeps m r b a (Err OutOfRows) took = took.1.kept
