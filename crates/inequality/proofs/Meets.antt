-- The breadth-first meeting against the reachable inequalities.
use Rattle.std.proofs.Common.{◌≡◌, ℕ, zero, suc, ◌+◌, ◌<◌, ◌≤◌, Bool, true, false, ltb, leb, ◌⊎◌, List, [], ◌∷◌, ◌++◌, length, get_or, take, sym, refl, ap, ◌∙◌, subst, inl, inr, ⊎_elim, arith, length-append, length-take-le}
use lib.ListN.{get_or-append}
use Rattle.std.proofs.lemmas.Bool.{cases_eq, leb-true, leb-false, ltb-true, ltb-false, false≢true}
use Rattle.model.specs.declared.rows.Row.{Row}
use Rattle.model.specs.Blank.{blank_row}
use Rattle.theory.specs.Machine.{Machine}
use Rattle.theory.specs.Inequality.{same_row, wide, EitherOr, either_ors, Member, here, there, Reachable, at_root, by_content, by_rest}
use Rattle.theory.specs.Meeting.{sides_of, sides, End, all, wide_row, out_of_rows, Met, widened, meet_on, meet}
use Rattle.inequality.specs.Lists.{Distinct}
use Rattle.inequality.specs.Marks.{Sided}
use Rattle.inequality.specs.Reached.{Numbered, Outnumber, SomeWide, NoneWide, Begun, MetAll, EndsAll, Stops}
use Rattle.inequality.proofs.Lists.{member_at, place_of, member_one, entered_more, entered_old, entered_new, entered_from, entered_distinct, no_longer, member_take, distinct_take}
use Rattle.inequality.proofs.Marking.{tells_row}

-- the sides of either-ors are exactly their content sides and rest sides
content_side : {e : EitherOr} {es : List EitherOr} → Member e es → Member e.content (sides_of es)
content_side here = here
content_side (there p) = there (there (content_side p))

rest_side : {e : EitherOr} {es : List EitherOr} → Member e es → Member e.rest (sides_of es)
rest_side here = there here
rest_side (there p) = there (there (rest_side p))

side_of : (x : Row) (es : List EitherOr) → Member x (sides_of es) →
    (e : EitherOr) × Member e es × ((x ≡ e.content) ⊎ (x ≡ e.rest))
side_of x [] p = elim p [ ]
side_of x (e ∷ es) here = (e, here, inl refl)
side_of x (e ∷ es) (there here) = (e, here, inr refl)
side_of x (e ∷ es) (there (there p)) = let at = side_of x es p in (at.0, there at.1, at.2)

-- a side of a reachable inequality that is not wide is reachable
side_reachable : (m : Machine) (root r x : Row) → Reachable m root r → wide m r ≡ false → Member x (sides m r) →
    Reachable m root x
unfolding sides
side_reachable m root r x reach narrow mem =
    let at = side_of x (either_ors m r) mem in
    ⊎_elim
    (λ e. subst (Reachable m root) (sym e) (by_content reach narrow at.1))
    (λ e. subst (Reachable m root) (sym e) (by_rest reach narrow at.1))
    at.2

-- the ends differ
abbrev is_all : End → Type 0
is_all all = Unit {0}
is_all wide_row = ⊥
is_all out_of_rows = ⊥

abbrev is_wide : End → Type 0
is_wide all = ⊥
is_wide wide_row = Unit {0}
is_wide out_of_rows = ⊥

-- the first `taken` rows are not wide and have their sides among the rows
abbrev Taken : Machine → ℕ → List Row → Type 0
Taken m taken rows = (i : ℕ) → i < taken → (wide m (get_or rows i blank_row) ≡ false)
    × ((x : Row) → Member x (sides m (get_or rows i blank_row)) → Member x rows)

-- what a meeting comes to
abbrev Result : Machine → ℕ → Row → Met → Type 0
Result m limit root met = Begun m limit root met.rows
    × (met.end ≡ all → Taken m (length met.rows) met.rows)
    × (met.end ≡ wide_row → SomeWide m root)
    × (met.end ≡ out_of_rows → Outnumber m root limit)

-- the rows once the sides of one more are entered
module _ (m : Machine) (limit : ℕ) (root : Row) (taken : ℕ) (rows : List Row) (pos : 1 ≤ limit)
    (begun : Begun m limit root rows) (done : Taken m taken rows) (lt : taken < length rows)
    (narrow : wide m (get_or rows taken blank_row) ≡ false) where
  abbrev now_rows : List Row
  now_rows = widened m rows taken

  grown : (more : List Row) × (now_rows ≡ rows ++ more)
  unfolding widened
  grown = entered_more same_row rows (sides m (get_or rows taken blank_row))

  first_grown : (more : List Row) × (now_rows ≡ root ∷ more)
  first_grown = (begun.0.0 ++ grown.0, grown.1 ∙ ap (λ l. l ++ grown.0) begun.0.1)

  distinct_grown : Distinct same_row now_rows
  unfolding widened
  distinct_grown = entered_distinct same_row tells_row rows (sides m (get_or rows taken blank_row)) begun.1

  reachable_grown : (r : Row) → Member r now_rows → Reachable m root r
  unfolding widened
  reachable_grown r mem = ⊎_elim
      (λ (old : Member r rows). begun.2 r old)
      (λ (new : Member r (sides m (get_or rows taken blank_row))).
      side_reachable m root (get_or rows taken blank_row) r (begun.2 _ (member_at rows taken blank_row lt)) narrow new)
      (entered_from same_row tells_row rows (sides m (get_or rows taken blank_row)) r mem)

  same_place : (i : ℕ) → i < length rows → get_or now_rows i blank_row ≡ get_or rows i blank_row
  same_place i li = ap (λ l. get_or l i blank_row) grown.1 ∙ get_or-append rows grown.0 blank_row i li

  longer : length rows ≤ length now_rows
  longer = omega (arith, ap length grown.1, length-append rows grown.0)

  taken_grown : Taken m (taken + 1) now_rows
  unfolding widened
  taken_grown i li = ⊎_elim
      (λ (at : i ≡ taken).
      let place : get_or now_rows i blank_row ≡ get_or rows taken blank_row = same_place i (omega arith) ∙ ap (λ k. get_or rows k blank_row) at in (
        ap (wide m) place ∙ narrow,
        λ x mem. entered_new same_row tells_row rows (sides m (get_or rows taken blank_row))
            (subst (λ r. Member x (sides m r)) place mem),
      ))
      (λ (ne : i ≡ taken → ⊥).
      let place : get_or now_rows i blank_row ≡ get_or rows i blank_row = same_place i (omega arith) in
      let before = done i (omega arith) in (
        ap (wide m) place ∙ before.0,
        λ x mem. entered_old same_row rows (sides m (get_or rows taken blank_row))
            (before.1 x (subst (λ r. Member x (sides m r)) place mem)),
      ))
      (cases_eq i taken)

  begun_grown : length now_rows ≤ limit → Begun m limit root now_rows
  begun_grown le = (first_grown, distinct_grown, reachable_grown, le)

  outgrown : limit < length now_rows → Result m limit root (record { end = out_of_rows; rows = take limit now_rows })
  outgrown over = (
    (
      first limit pos,
      distinct_take same_row limit now_rows distinct_grown,
      (λ r mem. reachable_grown r (member_take limit now_rows mem)),
      omega (arith, length-take-le limit now_rows (omega arith)),
    ),
    (λ e. elim (subst is_all (sym e) tt) [ ]),
    (λ e. elim (subst is_wide (sym e) tt) [ ]),
    (λ e. (
      take (limit + 1) now_rows,
      length-take-le (limit + 1) now_rows (omega arith),
      distinct_take same_row (limit + 1) now_rows distinct_grown,
      λ r mem. reachable_grown r (member_take (limit + 1) now_rows mem),
    )),
  )
    where
      first : (n : ℕ) → 1 ≤ n → (more : List Row) × (take n now_rows ≡ root ∷ more)
      first zero le = absurd (omega arith)
      first (suc n) le = (take n first_grown.0, ap (take (suc n)) first_grown.1)

meet_on_result : (m : Machine) (limit : ℕ) (root : Row) (steps taken : ℕ) (rows : List Row) → 1 ≤ limit →
    steps + taken ≡ limit + 1 → taken ≤ length rows → Begun m limit root rows → Taken m taken rows →
    Result m limit root (meet_on m limit steps taken rows)
meet_on_result m limit root zero taken rows pos fuel le begun done =
    absurd (omega (arith, begun.3))
meet_on_result m limit root (suc steps) taken rows pos fuel le begun done =
    go (leb (length rows) taken) refl (wide m (get_or rows taken blank_row)) refl
    (ltb limit (length (widened m rows taken))) refl (meet_on_result m limit root steps (taken + 1) (widened m rows taken) pos)
  where
    next : List Row
    next = widened m rows taken

    go : (a : Bool) → leb (length rows) taken ≡ a → (b : Bool) → wide m (get_or rows taken blank_row) ≡ b →
        (c : Bool) → ltb limit (length (widened m rows taken)) ≡ c →
        (steps + (taken + 1) ≡ limit + 1 → taken + 1 ≤ length next → Begun m limit root next → Taken m (taken + 1) next →
        Result m limit root (meet_on m limit steps (taken + 1) next)) →
        Result m limit root (elim a [
          | true ↦ record { end = all; rows = rows }
          | false ↦ elim b [
            | true ↦ record { end = wide_row; rows = rows }
            | false ↦ elim c [
              | true ↦ record { end = out_of_rows; rows = take limit (widened m rows taken) }
              | false ↦ meet_on m limit steps (taken + 1) (widened m rows taken)
            ]
          ]
        ])
    go true ea b eb c ec rec =
        let past : length rows ≤ taken = leb-true (length rows) taken ea in (
          begun,
          (λ e i li. done i (omega arith)),
          (λ e. elim (subst is_all e tt) [ ]),
          (λ e. elim (subst is_all e tt) [ ]),
        )
    go false ea true eb c ec rec =
        let lt : taken < length rows = leb-false (length rows) taken ea in (
          begun,
          (λ e. elim (subst is_wide e tt) [ ]),
          (λ e. (get_or rows taken blank_row, begun.2 _ (member_at rows taken blank_row lt), eb)),
          (λ e. elim (subst is_wide e tt) [ ]),
        )
    go false ea false eb true ec rec =
        let lt : taken < length rows = leb-false (length rows) taken ea in
        outgrown m limit root taken rows pos begun done lt eb (ltb-true limit (length next) ec)
    go false ea false eb false ec rec =
        let lt : taken < length rows = leb-false (length rows) taken ea in
        let fits : length next ≤ limit = ltb-false limit (length next) ec in
        rec (omega arith) (omega (arith, longer m limit root taken rows pos begun done lt eb))
        (begun_grown m limit root taken rows pos begun done lt eb fits)
        (taken_grown m limit root taken rows pos begun done lt eb)

meet_result : (m : Machine) (limit : ℕ) (root : Row) → 1 ≤ limit → Result m limit root (meet m limit root)
unfolding meet
meet_result m limit root pos =
    meet_on_result m limit root (limit + 1) 0 (root ∷ []) pos (omega arith) (omega arith)
    (([], refl), (refl, tt), (λ r mem. subst (Reachable m root) (sym (member_one mem)) at_root), omega arith)
    (λ i li. absurd (omega arith))

-- rows that were all taken are all that is reachable
module _ (m : Machine) (root : Row) (rows : List Row) (first : (more : List Row) × (rows ≡ root ∷ more))
    (done : Taken m (length rows) rows) where
  sided : Sided m rows
  unfolding sides
  sided r e mem_r mem_e =
      let at = place_of blank_row mem_r in
      let mem : Member e (either_ors m (get_or rows at.0 blank_row)) = subst (λ x. Member e (either_ors m x)) (sym at.2) mem_e in
      ((done at.0 at.1).1 e.content (content_side mem), (done at.0 at.1).1 e.rest (rest_side mem))

  every : {r : Row} → Reachable m root r → Member r rows
  every at_root = subst (Member root) (sym first.1) here
  every (by_content {r = r} {e = e} reach narrow mem) = (sided r e (every reach) mem).0
  every (by_rest {r = r} {e = e} reach narrow mem) = (sided r e (every reach) mem).1

  none_wide : NoneWide m root
  none_wide r reach =
      let at = place_of blank_row (every reach) in
      ap (wide m) (sym at.2) ∙ (done at.0 at.1).0

-- the rows of a meeting, however it ends
pub meet_begun : (m : Machine) (limit : ℕ) (root : Row) → 1 ≤ limit → Begun m limit root (meet m limit root).rows
meet_begun m limit root pos = (meet_result m limit root pos).0

-- a meeting that ends with all met exactly the reachable inequalities
pub meet_all : (m : Machine) (limit : ℕ) (root : Row) → 1 ≤ limit → (meet m limit root).end ≡ all →
    MetAll m root (meet m limit root).rows
meet_all m limit root pos e =
    let res = meet_result m limit root pos in
    let rows : List Row = (meet m limit root).rows in (
      (res.0.1, λ r. (res.0.2 r, λ reach. every m root rows res.0.0 (res.1 e) reach)),
      none_wide m root rows res.0.0 (res.1 e),
      sided m root rows res.0.0 (res.1 e),
    )

-- there is one number of reachable inequalities, and they do not outnumber it
pub one_number : (m : Machine) (root : Row) (n k : ℕ) → Numbered m root n → Numbered m root k → n ≡ k
one_number m root n k a b =
    let le = no_longer same_row tells_row a.0 b.0 a.2.0 (λ r mem. (b.2.1 r).1 ((a.2.1 r).0 mem)) in
    let ge = no_longer same_row tells_row b.0 a.0 b.2.0 (λ r mem. (a.2.1 r).1 ((b.2.1 r).0 mem)) in
    omega (arith, le, ge, a.1, b.1)

pub numbered_most : (m : Machine) (root : Row) (n k : ℕ) → Numbered m root n → n ≤ k → Outnumber m root k → ⊥
numbered_most m root n k a le over =
    let most = no_longer same_row tells_row over.0 a.0 over.2 (λ r mem. (a.2.1 r).1 (over.3 r mem)) in
    omega (arith, most, a.1, over.1)

end_cases : (e : End) → (e ≡ all) ⊎ ((e ≡ wide_row) ⊎ (e ≡ out_of_rows))
end_cases all = inl refl
end_cases wide_row = inr (inl refl)
end_cases out_of_rows = inr (inr refl)

-- its number is the number of reachable inequalities
pub meet_number : (m : Machine) (limit : ℕ) (root : Row) → 1 ≤ limit → (meet m limit root).end ≡ all →
    Numbered m root (length (meet m limit root).rows)
meet_number m limit root pos e = ((meet m limit root).rows, refl, (meet_all m limit root pos e).0)

pub ends_all : (m : Machine) (limit : ℕ) (root : Row) → 1 ≤ limit → EndsAll m limit root
ends_all m limit root pos = (
  (λ e. (
    (meet_all m limit root pos e).1,
    (length (meet m limit root).rows, (meet_begun m limit root pos).3, meet_number m limit root pos e),
  )),
  (λ known. ⊎_elim (λ e. e)
      (⊎_elim
      (λ e. let w = (meet_result m limit root pos).2 e in
      elim (false≢true (sym (known.0 w.0 w.1) ∙ w.2)) [ ])
      (λ e. elim (numbered_most m root known.1.0 limit known.1.2 known.1.1 ((meet_result m limit root pos).3 e)) [ ]))
      (end_cases (meet m limit root).end)),
)

pub stops : (m : Machine) (limit : ℕ) (root : Row) → 1 ≤ limit → Stops m limit root
stops m limit root pos = (
  ⊎_elim (λ e. inr ((meet_result m limit root pos).2 e)) (λ e. inl ((meet_result m limit root pos).3 e)),
  (λ known. ⊎_elim
      (λ (e : (meet m limit root).end ≡ all). elim (refuse e known) [ ])
      (λ stopped. stopped)
      (end_cases (meet m limit root).end)),
)
  where
    refuse : (meet m limit root).end ≡ all → Outnumber m root limit ⊎ SomeWide m root → ⊥
    refuse e (inl over) = numbered_most m root (length (meet m limit root).rows) limit
        (meet_number m limit root pos e) (meet_begun m limit root pos).3 over
    refuse e (inr w) = false≢true (sym ((meet_all m limit root pos e).1 w.0 w.1) ∙ w.2)

-- a meeting that a wide row ended met a wide one, and one that ran out of rows met too many
pub meet_wide : (m : Machine) (limit : ℕ) (root : Row) → 1 ≤ limit → (meet m limit root).end ≡ wide_row → SomeWide m root
meet_wide m limit root pos = (meet_result m limit root pos).2

pub meet_out : (m : Machine) (limit : ℕ) (root : Row) → 1 ≤ limit → (meet m limit root).end ≡ out_of_rows →
    Outnumber m root limit
meet_out m limit root pos = (meet_result m limit root pos).3
