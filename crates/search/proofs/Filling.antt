-- Blanking from a number on, and keeping the unmarked ones of a list in place.
use Rattle.std.proofs.Common.{◌≡◌, ℕ, ◌+◌, ◌<◌, ◌≤◌, Bool, true, false, cond, List, [], ◌∷◌, ◌++◌, length, get_or, take, drop, set, None, sym, refl, ap, ◌∙◌, ap₂, add-zero, arith}
use Rattle.std.specs.Option.{is_some}
use Rattle.std.proofs.lemmas.List.{append-nil, take_more, take_more_set, length-take-le, length-map, map_more, drop-set-lt, get_or-drop, drop-drop, length-set}
use Rattle.std.proofs.lemmas.Bool.{cond-true, cond-false}
use Rattle.model.specs.declared.rows.Row.{Row}
use Rattle.model.specs.Blank.{blank_row}
use Rattle.inequality.specs.Verdicts.{unmarked}
use Rattle.marking.specs.Refutes.{Marks}
use Rattle.marking.specs.Marks.{mark_at, flags}

-- what one row more adds to the unmarked ones
unmarked_push : (xs : List Row) (ms : List Bool) (r : Row) (b : Bool) → length xs ≡ length ms →
    unmarked (xs ++ r ∷ []) (ms ++ b ∷ []) ≡ unmarked xs ms ++ cond b [] (r ∷ [])
unmarked_push [] [] r true e = refl
unmarked_push [] [] r false e = refl
unmarked_push [] (m ∷ ms) r b e = absurd (omega arith)
unmarked_push (x ∷ xs) [] r b e = absurd (omega arith)
unmarked_push (x ∷ xs) (true ∷ ms) r b e = unmarked_push xs ms r b (omega arith)
unmarked_push (x ∷ xs) (false ∷ ms) r b e = ap (λ l. x ∷ l) (unmarked_push xs ms r b (omega arith))

-- the unmarked ones of the first i rows
abbrev kept_of : List Row → Marks → ℕ → List Row
kept_of rows marks i = unmarked (take i rows) (flags marks i)

kept_more : (rows : List Row) (marks : Marks) (i : ℕ) → i < length rows → i < length marks →
    kept_of rows marks (i + 1) ≡ kept_of rows marks i ++ cond (is_some (mark_at marks i)) [] (get_or rows i blank_row ∷ [])
kept_more rows marks i lr lm =
    let a : length (take i rows) ≡ length (flags marks i) =
    length-take-le i rows (omega arith) ∙ sym (length-map (take i marks) is_some ∙ length-take-le i marks (omega arith)) in
    ap₂ unmarked (take_more rows i blank_row lr) (map_more is_some marks i None lm)
    ∙ unmarked_push (take i rows) (flags marks i) (get_or rows i blank_row) (is_some (mark_at marks i)) a

-- the rows in place after the first i were looked at: the unmarked ones stand first, the others from
-- i on are as they were
pub record Keeping (rows rows' : List Row) (marks : Marks) (i kept : ℕ) : Type 0 where
  pub few : kept ≤ i
  pub front : take kept rows' ≡ unmarked (take i rows) (flags marks i)
  pub back : drop i rows' ≡ drop i rows
  pub long : length rows' ≡ length rows

pub keep_skip : (rows rows' : List Row) (marks : Marks) (i kept : ℕ) → i < length rows → i < length marks →
    is_some (mark_at marks i) ≡ true → Keeping rows rows' marks i kept → Keeping rows rows' marks (i + 1) kept
keep_skip rows rows' marks i kept lr lm is_set inv = record {
  few = let h = inv.few in omega arith;
  front = inv.front ∙ sym (append-nil _)
      ∙ sym (kept_more rows marks i lr lm ∙ ap (λ l. kept_of rows marks i ++ l)
      (cond-true (is_some (mark_at marks i)) [] (get_or rows i blank_row ∷ []) is_set));
  back = sym (drop-drop 1 i rows') ∙ ap (drop 1) inv.back ∙ drop-drop 1 i rows;
  long = inv.long;
}

pub keep_take : (rows rows' : List Row) (marks : Marks) (i kept : ℕ) → i < length rows → i < length marks →
    is_some (mark_at marks i) ≡ false → Keeping rows rows' marks i kept →
    Keeping rows (set rows' kept (get_or rows' i blank_row)) marks (i + 1) (kept + 1)
keep_take rows rows' marks i kept lr lm free inv =
    let h = inv.few in
    let l = inv.long in
    let x = get_or rows' i blank_row in
    let within : kept < length rows' = omega arith in
    let less : kept < i + 1 = omega arith in
    let same : x ≡ get_or rows i blank_row = at i (add-zero i) rows' ∙ ap (λ (ys : List Row). get_or ys 0 blank_row) inv.back ∙ sym (at i (add-zero i) rows) in
    record {
      few = omega arith;
      front = take_more_set rows' kept x within ∙ ap₂ (λ (ys : List Row) (y : Row). ys ++ y ∷ []) inv.front same
          ∙ sym (kept_more rows marks i lr lm ∙ ap (λ ys. kept_of rows marks i ++ ys)
          (cond-false (is_some (mark_at marks i)) [] (get_or rows i blank_row ∷ []) free));
      back = drop-set-lt (i + 1) rows' kept x less ∙ sym (drop-drop 1 i rows') ∙ ap (drop 1) inv.back ∙ drop-drop 1 i rows;
      long = length-set rows' kept x ∙ inv.long;
    }
  where
    at : (i : ℕ) → i + 0 ≡ i → (ys : List Row) → get_or ys i blank_row ≡ get_or (drop i ys) 0 blank_row
    at i e ys = sym (get_or-drop i ys 0 blank_row ∙ ap (λ k. get_or ys k blank_row) e)
