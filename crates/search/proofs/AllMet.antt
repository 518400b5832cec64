-- What a meeting that met all gives to the decision.
use Rattle.std.proofs.Common.{◌≡◌, ℕ, ◌<◌, ◌≤◌, true, ltb, leb, List, ◌∷◌, length, get_or, Result, Ok, sym, ap, ◌∙◌, subst, arith}
use Rattle.std.proofs.lemmas.Bool.{and_parts, ltb-true, leb-true}
use Rattle.model.specs.declared.rows.Row.{Row}
use Rattle.model.specs.declared.rows.Item.{Item}
use Rattle.model.specs.Blank.{blank_row}
use Rattle.theory.specs.Machine.{Machine}
use Rattle.theory.specs.Meeting.{Met, all, meet}
use Rattle.inequality.specs.Marks.{Sided}
use Rattle.inequality.proofs.Lists.{member_at}
use Rattle.inequality.proofs.Meets.{meet_begun, meet_all}
use Rattle.marking.specs.Steps.{Roomy}
use Rattle.sides.specs.declared.entering.Stop.{Stop}
use Rattle.marking.specs.Refutes.{Marks}
use Rattle.search.specs.declared.answer.Answer.{Answer}
use Rattle.search.specs.declared.answer.Answer.TheVariants as answer
use Rattle.search.specs.Ends.{end_of, met_by}
use Rattle.search.specs.Answered.{suits, Decided, Answered, Shown, Refused}

-- what rows, items and marks that suit a question are
pub suited : (rows items marks : ℕ) → suits rows items marks ≡ true → (0 < rows) × (rows ≤ 512) × (rows ≤ items) × (rows ≤ marks)
suited rows items marks e =
    let a = and_parts (ltb 0 rows) _ e in
    let b = and_parts (leb rows 512) _ a.1 in
    let c = and_parts (leb rows items) _ b.1 in
    (ltb-true 0 rows a.0, leb-true rows 512 b.0, leb-true rows items c.0, leb-true rows marks c.1)

module _ (m : Machine) (limit : ℕ) (root : Row) (pos : 0 < limit) (e : Result Unit Stop) (u : Unit) (is : e ≡ Ok u) (rows : List Row)
    (met : met_by e rows ≡ meet m limit root) where
  pub met_end : (meet m limit root).end ≡ all
  met_end = ap (λ (x : Met). x.end) (sym met) ∙ ap end_of is

  pub met_rows : (meet m limit root).rows ≡ rows
  met_rows = ap (λ (x : Met). x.rows) (sym met)

  pub met_root : (more : List Row) × (rows ≡ root ∷ more)
  met_root = let begun = meet_begun m limit root pos in (begun.0.0, sym met_rows ∙ begun.0.1)

  pub met_some : 0 < length rows
  met_some = let e = ap length met_root.1 in omega arith

  pub met_first : get_or rows 0 blank_row ≡ root
  met_first = ap (λ l. get_or l 0 blank_row) met_root.1

  pub met_sided : Sided m rows
  met_sided = subst (Sided m) met_rows (meet_all m limit root pos met_end).2

  pub met_roomy : (marks : Marks) (items : List Item) → length rows ≤ limit → limit ≤ 512 → limit ≤ length items → limit ≤ length marks →
      Roomy m rows marks items
  met_roomy marks items within few li lm = record {
    few_rows = omega arith;
    marks_long = omega arith;
    items_long = omega arith;
    narrow = λ i lt. (meet_all m limit root pos met_end).1 _
        ((meet_begun m limit root pos).2 _ (subst (λ l. Rattle.theory.specs.Inequality.Member (get_or rows i blank_row) l) (sym met_rows) (member_at rows i blank_row lt)));
  }

  pub met_decided : (room : ℕ) (a : Answer) (rows' : List Row) (items' : List Item) →
      Decided m rows (get_or rows 0 blank_row) limit room a rows' items' → Answered m root limit room a rows' items'
  met_decided room (answer.Included k records) rows' items' d =
      (met_end, d.0 ∙ ap length (sym met_rows), subst (λ l. Shown m l limit room records rows' items') (sym met_rows) d.1)
  met_decided room (answer.Excluded k records) rows' items' d = (
    met_end,
    d.0 ∙ ap length (sym met_rows),
    subst (λ l. Refused m l root limit room records rows' items') (sym met_rows)
        (subst (λ r. Refused m rows r limit room records rows' items') met_first d.1),
  )
  met_decided room (answer.Wide k) rows' items' d = elim d [ ]
  met_decided room (answer.OutOfRows k) rows' items' d = elim d [ ]
