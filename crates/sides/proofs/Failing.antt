-- A refusal that a `?` passes on.
use Rattle.std.proofs.Common.{◌≡◌, ℕ, false, List, Result, Ok, Err, IsErr, refl, sym}
use Rattle.std.specs.Result.{is_ok}
use Rattle.model.specs.declared.rows.Row.{Row}
use Rattle.theory.specs.Inequality.{Pair, same_row}
use Rattle.book.specs.declared.Book.{Book}
use Rattle.book.specs.Feeding.{Fills}
use Rattle.book.proofs.Feeding.{fills_says}
use Rattle.sides.specs.Gathers.{Gathers}
use Rattle.sides.proofs.Gathering.{gather_as}

not_ok : {T E : Type 0} (r : Result T E) → IsErr r → is_ok r ≡ false
not_ok (Ok _) is = cc
not_ok (Err _) is = refl

pub fills_err : {E : Type 0} (b a : Book Row) (xs : List Row) (r : Result Unit E) → IsErr r → Fills same_row b a xs false →
    Fills same_row b a xs (is_ok r)
fills_err b a xs r is = fills_says same_row b a xs false (is_ok r) (sym (not_ok r is))

pub gather_err : {limit : ℕ} {b a xs : List Pair} {E : Type 0} (r : Result Unit E) → IsErr r → Gathers limit b a xs false → Gathers limit b a xs (is_ok r)
gather_err r is = gather_as refl (sym (not_ok r is))
