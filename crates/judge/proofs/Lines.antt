-- The first fault of rows, from line to line.
use Rattle.std.proofs.Common.{◌≡◌, ℕ, ◌+◌, ◌<◌, ◌≤◌, Bool, List, length, get_or, drop, Some, None, Ok, Err, Option, sym, refl, ap, ◌∙◌, arith}
use Rattle.std.proofs.lemmas.List.{at_drop_more, at_drop_all}
use Rattle.std.specs.Option.{option_or}
use Rattle.model.specs.declared.rows.Row.{Row}
use Rattle.model.specs.Blank.{blank_row}
use Rattle.theory.specs.Machine.{Machine}
use Rattle.judge.specs.declared.fault.SheetFault.{SheetFault}
use Rattle.judge.specs.Judgement.{row_fault, first_fault, refusal}

-- what is left of the rows is judged by its first one, and then by the rest
module _ (m : Machine) (S : Row → Bool) (rows : List Row) (i : ℕ) where
  begin : i < length rows → first_fault m S (i + 3) (drop i rows)
      ≡ option_or (row_fault m S (i + 3) (get_or rows i blank_row)) (first_fault m S (i + 1 + 3) (drop (i + 1) rows))
  begin lt =
      let next : i + 3 + 1 ≡ i + 1 + 3 = omega arith in
      at_drop_more (first_fault m S (i + 3)) rows i blank_row lt
      ∙ ap (λ n. option_or (row_fault m S (i + 3) (get_or rows i blank_row)) (first_fault m S n (drop (i + 1) rows))) next

  -- an accepted row is passed over
  pub rows_more : {o : Option SheetFault} → i < length rows → first_fault m S (i + 3) (drop i rows) ≡ o →
      Ok tt ≡ refusal (row_fault m S (i + 3) (get_or rows i blank_row)) →
      first_fault m S (i + 1 + 3) (drop (i + 1) rows) ≡ o
  rows_more lt left ok = accepted (row_fault m S (i + 3) (get_or rows i blank_row)) ok ∙ sym (begin lt) ∙ left
    where
      accepted : (r : Option SheetFault) → Ok tt ≡ refusal r →
          first_fault m S (i + 1 + 3) (drop (i + 1) rows) ≡ option_or r (first_fault m S (i + 1 + 3) (drop (i + 1) rows))
      accepted None e = refl
      accepted (Some f) e = cc

  -- a refused one refuses the rest
  pub rows_here : (f : SheetFault) {o : Option SheetFault} → i < length rows → first_fault m S (i + 3) (drop i rows) ≡ o →
      Err f ≡ refusal (row_fault m S (i + 3) (get_or rows i blank_row)) → Err f ≡ refusal o
  rows_here f lt left err = refused (row_fault m S (i + 3) (get_or rows i blank_row)) err ∙ ap refusal (sym (begin lt) ∙ left)
    where
      refused : (r : Option SheetFault) → Err f ≡ refusal r →
          Err f ≡ refusal (option_or r (first_fault m S (i + 1 + 3) (drop (i + 1) rows)))
      refused None e = cc
      refused (Some g) e = e

  -- no row is left
  pub rows_past : {o : Option SheetFault} → length rows ≤ i → first_fault m S (i + 3) (drop i rows) ≡ o → Ok tt ≡ refusal o
  rows_past past left = ap refusal (sym (at_drop_all (first_fault m S (i + 3)) rows i past) ∙ left)
