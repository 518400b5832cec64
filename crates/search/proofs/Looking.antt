-- The mark of a row that was looked up.
use Rattle.std.proofs.Common.{◌≡◌, ℕ, ◌<◌, ◌≤◌, List, length, Some, None, sym, ap, ◌∙◌, arith}
use Rattle.std.specs.List.{position}
use Rattle.std.proofs.lemmas.Bool.{cond-true, cond-false, lt-ltb, le-ltb}
use Rattle.model.specs.declared.rows.Row.{Row}
use Rattle.theory.specs.Inequality.{same_row}
use Rattle.book.specs.Place.{place}
use Rattle.book.proofs.Enter.{found, missing}
use Rattle.marking.specs.Refutes.{Marks, mark_of}
use Rattle.marking.specs.Marks.{mark_at}

pub mark_there : (rows : List Row) (marks : Marks) (r : Row) (i : ℕ) → Some i ≡ position (same_row r) rows →
    mark_at marks i ≡ mark_of rows marks r
mark_there rows marks r i is =
    let at = found same_row rows r i is in
    let lt : place same_row rows r < length rows = omega (arith, at.0, at.2) in
    ap (mark_at marks) at.0 ∙ sym (cond-true _ _ _ (lt-ltb _ _ lt))

pub mark_none : (rows : List Row) (marks : Marks) (r : Row) → None ≡ position (same_row r) rows → None ≡ mark_of rows marks r
mark_none rows marks r is =
    let le : length rows ≤ place same_row rows r = omega (arith, (missing same_row rows r is).0) in
    sym (cond-false _ _ _ (le-ltb _ _ le))
