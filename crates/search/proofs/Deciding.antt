-- From marks at rest to the answer.
use Rattle.std.proofs.Common.{◌≡◌, ℕ, ◌-◌, ◌<◌, true, false, Some, None, Option, List, [], ◌∷◌, ◌++◌, length, get_or, take, replicate, sym, refl, ap, ◌∙◌, subst, arith}
use Rattle.std.specs.Option.{is_some}
use Rattle.std.proofs.lemmas.List.{length-take-le, take_at, get_or-map, get_or-take}
use Rattle.model.specs.declared.rows.Row.{Row}
use Rattle.model.specs.declared.rows.Item.{Item}
use Rattle.model.specs.Blank.{blank_row, blank_item}
use Rattle.theory.specs.Hedge.{nothing}
use Rattle.theory.specs.Machine.{Machine}
use Rattle.theory.specs.Items.{hedges, spelled, Earlier}
use Rattle.inequality.specs.Fits.{Witness}
use Rattle.inequality.specs.Marks.{Sided, marks}
use Rattle.inequality.specs.Verdicts.{unmarked, excluded, table}
use Rattle.inequality.proofs.Marking.{marks_right}
use Rattle.inequality.proofs.Verdict.{right_unique, excluded_refuted}
use Rattle.marking.specs.Refutes.{Marks}
use Rattle.marking.specs.Marks.{mark_at, Had, LeftHad, Marked, flags}
use Rattle.marking.specs.Steps.{Settled}
use Rattle.marking.proofs.Marked.{still_right}
use Rattle.marking.proofs.Turns.{used_within}
use Rattle.search.specs.Answered.{Shown, Refused}

first_row : (rows : List Row) → 0 < length rows → (more : List Row) × (rows ≡ get_or rows 0 blank_row ∷ more)
first_row [] lt = absurd (omega arith)
first_row (r ∷ rows) lt = (rows, refl)

module _ (m : Machine) (met : List Row) (ms : Marks) (items : List Item) (used limit room : ℕ)
    (some : 0 < length met) (sided : Sided m met) (done : Settled m met ms items used) where
  abbrev its : List Item
  its = take used items

  long : length its ≡ used
  long = length-take-le used items done.ready.within

  pub decide_excluded : (rows' : List Row) (items' : List Item) → is_some (mark_at ms 0) ≡ true → rows' ≡ replicate limit blank_row →
      items' ≡ its ++ replicate (room - used) blank_item →
      Refused m met (get_or met 0 blank_row) limit room used rows' items'
  decide_excluded rows' items' is_marked blank_rows written = record {
    verdict = (excluded_refuted m (get_or met 0 blank_row) met (first_row met some) sided).1 (ok.refuted 0 some (λ z. let e : None ≡ Some mark = sym z ∙ is in cc));
    few = used_within m met ms items used done.ready;
    count = ap length same ∙ long;
    earlier = subst Earlier (sym same) ok.earlier;
    spells = λ fits. subst (λ l. Witness m (get_or met 0 blank_row) (spelled l)) (sym same)
        (subst (λ k. Witness m (get_or met 0 blank_row) (get_or (hedges its) k nothing)) number (ok.witness 0 mark some is fits));
    had = λ fits. subst (Had m) (sym same) (ok.had fits);
    left_had = λ fits. subst (LeftHad m met) (sym same) (ok.left_had fits);
    first_items = written ∙ ap (λ l. l ++ replicate (room - used) blank_item) (sym same);
    no_rows = blank_rows;
  }
    where
      ok : Marked m met ms its
      ok = done.ready.marked

      same : take used items' ≡ its
      same = ap (take used) written ∙ take_at its (replicate (room - used) blank_item) used long

      the_mark : (o : Option ℕ) → is_some o ≡ true → (k : ℕ) × (o ≡ Some k)
      the_mark None e = cc
      the_mark (Some k) e = (k, refl)

      mark : ℕ
      mark = (the_mark (mark_at ms 0) is_marked).0

      is : mark_at ms 0 ≡ Some mark
      is = (the_mark (mark_at ms 0) is_marked).1

      number : mark ≡ length its
      number = done.rooted mark is ∙ sym long

  is_right : mark_at ms 0 ≡ None → flags ms (length met) ≡ marks m met
  is_right free = right_unique m met (flags ms (length met)) (marks m met)
      (still_right m met ms its sided done.ready.roomy.marks_long done.ready.marked (done.still free))
      (marks_right m met sided)

  pub decide_included : (records : ℕ) (rows' : List Row) (items' : List Item) → mark_at ms 0 ≡ None →
      records ≡ length (unmarked met (flags ms (length met))) →
      rows' ≡ unmarked met (flags ms (length met)) ++ replicate (limit - records) blank_row →
      items' ≡ replicate room blank_item → Shown m met limit room records rows' items'
  unfolding table excluded
  decide_included records rows' items' free number written blank = record {
    verdict = ap (λ l. get_or l 0 false) (sym (is_right free)) ∙ flag;
    count = number ∙ ap (λ l. length (unmarked met l)) (is_right free);
    first_rows = written ∙ ap (λ l. unmarked met l ++ replicate (limit - records) blank_row) (is_right free);
    no_items = blank;
  }
    where
      flag : get_or (flags ms (length met)) 0 false ≡ false
      flag =
          let e = length-take-le (length met) ms done.ready.roomy.marks_long in
          let within : 0 < length (take (length met) ms) = omega arith in
          get_or-map is_some (take (length met) ms) 0 None false within
          ∙ ap is_some (get_or-take (length met) ms 0 None some ∙ free)
