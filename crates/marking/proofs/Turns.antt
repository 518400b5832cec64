-- The turns of marking.
use Rattle.std.proofs.Common.{◌≡◌, ℕ, ◌+◌, ◌<◌, ◌≤◌, Bool, true, false, cond, List, [], ◌∷◌, ◌++◌, length, get_or, take, set, Some, None, Option, sym, refl, ◌∙◌, subst, arith}
use Rattle.std.specs.Option.{is_some}
use Rattle.std.proofs.lemmas.List.{length-take-le, length-set, take_more_set, get_or-set_same, get_or-set_other}
use Rattle.model.specs.declared.rows.Row.{Row}
use Rattle.model.specs.declared.rows.Item.{Item}
use Rattle.model.specs.Blank.{blank_row}
use Rattle.theory.specs.Machine.{Machine}
use Rattle.marking.specs.Refutes.{Marks, refutation}
use Rattle.marking.specs.Marks.{mark_at, Marked, Rooted}
use Rattle.marking.specs.Steps.{Roomy, Ready, Step}
use Rattle.theory.specs.Inequality.{inconsistent}
use Rattle.marking.proofs.Marked.{unset_one, marked_start, marked_more}

-- what a test of a mark says
pub unmarked : (marks : Marks) (i : ℕ) → is_some (mark_at marks i) ≡ false → mark_at marks i ≡ None
unmarked marks i is = go (mark_at marks i) is
  where
    go : (o : Option ℕ) → is_some o ≡ false → o ≡ None
    go None e = refl
    go (Some k) e = cc

-- no more items are used than there are rows, and one less if a row is unmarked
pub used_within : (m : Machine) (rows : List Row) (marks : Marks) (items : List Item) (used : ℕ) → Ready m rows marks items used →
    used ≤ length rows
used_within m rows marks items used ready =
    let e = length-take-le used items ready.within in
    let f = ready.marked.few in
    omega arith

pub used_below : (m : Machine) (rows : List Row) (marks : Marks) (items : List Item) (used i : ℕ) → Ready m rows marks items used →
    i < length rows → mark_at marks i ≡ None → used < length rows
used_below m rows marks items used i ready li was =
    let e = length-take-le used items ready.within in
    let f = ready.marked.few in
    let o = unset_one marks i (length rows) li was in
    omega arith

-- a row that is refuted now
pub step_new : (m : Machine) (rows : List Row) (i : ℕ) (marks : Marks) (items : List Item) (used : ℕ) (x : Item) →
    Ready m rows marks items used → i < length rows → mark_at marks i ≡ None →
    refutation m rows marks (get_or rows i blank_row) ≡ Some x →
    Step m rows i marks (set marks i (Some (used + 1))) (set items used x) used (used + 1)
step_new m rows i marks items used x ready li was found =
    let roomy = ready.roomy in
    let lt : used < length items = let h = used_below m rows marks items used i ready li was in let g = roomy.items_long in omega arith in
    let long = length-take-le used items ready.within in
    let il : i < length marks = let g = roomy.marks_long in omega arith in
    let next : Marked m rows (set marks i (Some (used + 1))) (take (used + 1) (set items used x)) =
    subst (λ its. Marked m rows (set marks i (Some (used + 1))) its) (sym (take_more_set items used x lt))
    (subst (λ u. Marked m rows (set marks i (Some (u + 1))) (take used items ++ x ∷ [])) long
    (marked_more m rows marks (take used items) ready.marked i li roomy.marks_long was x found)) in
    let a = length-set marks i (Some (used + 1)) in
    let b = length-set items used x in
    record {
      ready = record {
        roomy = record {
          few_rows = roomy.few_rows;
          marks_long = let g = roomy.marks_long in omega arith;
          items_long = let g = roomy.items_long in omega arith;
          narrow = roomy.narrow;
        };
        within = omega arith;
        marked = next;
      };
      rises = omega arith;
      same = λ e. absurd (omega arith);
      still = λ e was'. absurd (omega arith);
      others = λ k ne. get_or-set_other marks i k (Some (used + 1)) None ne;
      here = λ k was' is. let h : Some k ≡ Some (used + 1) = sym is ∙ get_or-set_same marks i (Some (used + 1)) None il in cc;
    }

-- how marking begins
pub settle_start : (m : Machine) (rows : List Row) (marks marks' : Marks) (items : List Item) → 0 < length rows →
    Roomy m rows marks items → length marks' ≡ length marks →
    ((i : ℕ) → i < length rows → mark_at marks' i ≡ cond (inconsistent m (get_or rows i blank_row)) (Some 0) None) →
    Ready m rows marks' items 0 × Rooted marks' 0
settle_start m rows marks marks' items pos roomy long begun = (
  record {
    roomy = record {
      few_rows = roomy.few_rows;
      marks_long = let g = roomy.marks_long in omega arith;
      items_long = roomy.items_long;
      narrow = roomy.narrow;
    };
    within = omega arith;
    marked = marked_start m rows marks' begun;
  },
  (λ k is. one k (inconsistent m (get_or rows 0 blank_row)) (sym is ∙ begun 0 pos)),
)
  where
    one : (k : ℕ) (b : Bool) → Some k ≡ cond b (Some 0) None → k ≡ 0
    one k true e = cc
    one k false e = cc
