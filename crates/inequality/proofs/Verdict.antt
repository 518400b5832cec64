-- With all reachable inequalities met, the verdict on the root is true and its table shows it.
use Rattle.std.proofs.Common.{◌≡◌, ℕ, zero, suc, ◌<◌, ◌≤◌, Bool, true, false, cond, ◌⊎◌, ◌↔◌, List, [], ◌∷◌, length, get_or, sym, refl, ap, ◌∙◌, subst, inl, inr, ⊎_elim, arith, ext_get_or}
use Rattle.std.proofs.lemmas.Bool.{cases_Bool, false≢true}
use Rattle.model.specs.declared.rows.Row.{Row}
use Rattle.model.specs.Blank.{blank_row}
use Rattle.theory.specs.Machine.{Machine}
use Rattle.theory.specs.Inequality.{same_row, Holds, Refuted, by_empty, by_either_or, Member, here, there}
use Rattle.theory.specs.Meeting.{meet, all}
use Rattle.inequality.specs.Lists.{Distinct}
use Rattle.inequality.specs.Fits.{Fits, Named}
use Rattle.inequality.specs.Tables.{Closed}
use Rattle.inequality.specs.Marks.{Sided, marks, Right}
use Rattle.inequality.specs.Reached.{MetAll}
use Rattle.inequality.specs.Verdicts.{unmarked, excluded, table, Shows, TrueVerdict}
use Rattle.inequality.proofs.Lists.{member_at, member_cases, place_of, any_none, none_any}
use Rattle.inequality.proofs.Subsets.{refused}
use Rattle.inequality.proofs.Truth.{closed_true, refuted_witness, unrefuted_holds}
use Rattle.inequality.proofs.Marking.{marks_right}
use Rattle.inequality.proofs.Meets.{meet_all, meet_begun}

-- a row is unmarked exactly at a place whose mark is not set
unmarked_found : (rows : List Row) (ms : List Bool) (r : Row) → Member r (unmarked rows ms) →
    (i : ℕ) × (i < length rows) × (get_or rows i blank_row ≡ r) × (get_or ms i false ≡ false)
unmarked_found [] ms r p = elim p [ ]
unmarked_found (x ∷ rows) [] r p = let at = place_of blank_row p in (at.0, at.1, at.2, refl)
unmarked_found (x ∷ rows) (b ∷ ms) r p = go b p (unmarked_found rows ms r)
  where
    Found : List Row → List Bool → Type 0
    Found rows ms = (i : ℕ) × (i < length rows) × (get_or rows i blank_row ≡ r) × (get_or ms i false ≡ false)

    later : (b : Bool) → Found rows ms → Found (x ∷ rows) (b ∷ ms)
    later b at = (suc at.0, omega (arith, at.1), at.2, at.3)

    go : (b : Bool) → Member r (cond b (unmarked rows ms) (x ∷ unmarked rows ms)) →
        (Member r (unmarked rows ms) → Found rows ms) → Found (x ∷ rows) (b ∷ ms)
    go true p rec = later true (rec p)
    go false p rec = ⊎_elim (λ e. (0, omega arith, sym e, refl)) (λ q. later false (rec q)) (member_cases p)

unmarked_from : (rows : List Row) (ms : List Bool) (i : ℕ) → i < length rows → get_or ms i false ≡ false →
    Member (get_or rows i blank_row) (unmarked rows ms)
unmarked_from [] ms i lt e = absurd (omega arith)
unmarked_from (x ∷ rows) [] i lt e = member_at (x ∷ rows) i blank_row lt
unmarked_from (x ∷ rows) (true ∷ ms) zero lt e = elim (false≢true (sym e)) [ ]
unmarked_from (x ∷ rows) (true ∷ ms) (suc i) lt e = unmarked_from rows ms i (omega arith) e
unmarked_from (x ∷ rows) (false ∷ ms) zero lt e = here
unmarked_from (x ∷ rows) (false ∷ ms) (suc i) lt e = there (unmarked_from rows ms i (omega arith) e)

-- With right marks the unmarked rows are exactly the rows that are not refuted.
pub unmarked_unrefuted : (m : Machine) (rows : List Row) (ms : List Bool) → Right m rows ms → (r : Row) →
    Member r (unmarked rows ms) ↔ (Member r rows × (Refuted m r → ⊥))
unmarked_unrefuted m rows ms right r = (
  (λ p. let at = unmarked_found rows ms r p in (
    subst (λ x. Member x rows) at.2 (member_at rows at.0 blank_row at.1),
    λ ref. false≢true (sym at.3 ∙ right.2 at.0 at.1 (subst (Refuted m) (sym at.2) ref)),
  )),
  (λ known. let at = place_of blank_row known.0 in
      subst (λ x. Member x (unmarked rows ms)) at.2 (unmarked_from rows ms at.0 at.1
      (refused (λ set. known.1 (subst (Refuted m) at.2 (right.1 at.0 at.1 set)))))),
)

-- right marks are unique, so however they are found they are `marks`
pub right_unique : (m : Machine) (rows : List Row) (xs ys : List Bool) → Right m rows xs → Right m rows ys → xs ≡ ys
right_unique m rows xs ys a b =
    ext_get_or false xs ys (a.0 ∙ sym b.0) (λ i lt.
    let li : i < length rows = omega (arith, a.0) in
    same (get_or xs i false) (get_or ys i false)
    (λ e. b.2 i li (a.1 i li e)) (λ e. a.2 i li (b.1 i li e)))
  where
    same : (x y : Bool) → (x ≡ true → y ≡ true) → (y ≡ true → x ≡ true) → x ≡ y
    same true y f g = sym (f refl)
    same false y f g = sym (refused (λ e. false≢true (g e)))

-- in a list that is closed under sides each row is refuted or not, and if not it holds
pub refuted_or_not : (m : Machine) (rows : List Row) → Sided m rows → (r : Row) → Member r rows →
    Refuted m r ⊎ (Refuted m r → ⊥)
refuted_or_not m rows sided r mem =
    let right = marks_right m rows sided in
    let at = place_of blank_row mem in
    ⊎_elim
    (λ (set : get_or (marks m rows) at.0 false ≡ true). inl (subst (Refuted m) at.2 (right.1 at.0 at.1 set)))
    (λ (unset : get_or (marks m rows) at.0 false ≡ false). inr (λ ref.
    false≢true (sym unset ∙ right.2 at.0 at.1 (subst (Refuted m) (sym at.2) ref))))
    (cases_Bool (get_or (marks m rows) at.0 false))

pub refuted_or_holds : (m : Machine) → Fits m → Named m → (rows : List Row) → Sided m rows → (r : Row) →
    Member r rows → Refuted m r ⊎ Holds m r
refuted_or_holds m fits named rows sided r mem =
    ⊎_elim inl (λ none. inr (unrefuted_holds m fits named r none)) (refuted_or_not m rows sided r mem)

-- a table that shows its root is closed, whatever is known, so each of its rows holds
pub shows_closed : (m : Machine) (root : Row) (rows : List Row) → Shows m root rows → (Known : Row → Type 0) →
    Closed m (λ r. Member r rows) Known
shows_closed m root rows shows Known = (
  (λ r mem. (shows.1 r mem).0),
  (λ r e mem_r mem_e. ⊎_elim (λ a. inl (inl a)) (λ b. inr (inl b)) (shows.2 r e mem_r mem_e)),
)

pub shows_true : (m : Machine) → Fits m → Named m → (root : Row) (rows : List Row) → Shows m root rows →
    (r : Row) → Member r rows → Holds m r
shows_true m fits named root rows shows =
    closed_true m fits named (λ r. Member r rows) (λ r. ⊥) (shows_closed m root rows shows (λ r. ⊥)) (λ r none. elim none [ ])

-- the unrefuted rows of all that is reachable show an unrefuted root
pub unmarked_shows : (m : Machine) (root : Row) (rows : List Row) (ms : List Bool) →
    (more : List Row) × (rows ≡ root ∷ more) → MetAll m root rows → Right m rows ms → (Refuted m root → ⊥) →
    Shows m root (unmarked rows ms)
unmarked_shows m root rows ms first met right none = (
  begins rows ms first (unset 0 (omega (arith, ap length first.1)) (ap (λ l. get_or l 0 blank_row) first.1)),
  (λ r mem. let is = (unmarked_unrefuted m rows ms right r).0 mem in
      (refused (λ e. is.1 (by_empty e)), met.1 r ((met.0.1 r).0 is.0))),
  (λ r e mem_r mem_e.
      let is = (unmarked_unrefuted m rows ms right r).0 mem_r in
      let both = met.2 r e is.0 mem_e in
      ⊎_elim
      (λ (c : Refuted m e.content). inr ((unmarked_unrefuted m rows ms right e.rest).1
      (both.1, λ d. is.1 (by_either_or mem_e c d))))
      (λ (c : Refuted m e.content → ⊥). inl ((unmarked_unrefuted m rows ms right e.content).1 (both.0, c)))
      (refuted_or_not m rows met.2 e.content both.0)),
)
  where
    unset : (i : ℕ) → i < length rows → get_or rows i blank_row ≡ root → get_or ms i false ≡ false
    unset i lt at = refused (λ set. none (subst (Refuted m) at (right.1 i lt set)))

    begins_at : (rows : List Row) (ms : List Bool) → get_or ms 0 false ≡ false →
        (more : List Row) × (unmarked (root ∷ rows) ms ≡ root ∷ more)
    begins_at rows [] e = (rows, refl)
    begins_at rows (true ∷ ms) e = elim (false≢true (sym e)) [ ]
    begins_at rows (false ∷ ms) e = (unmarked rows ms, refl)

    begins : (rows : List Row) (ms : List Bool) → (more : List Row) × (rows ≡ root ∷ more) → get_or ms 0 false ≡ false →
        (more : List Row) × (unmarked rows ms ≡ root ∷ more)
    begins rows ms first e =
        let at = begins_at first.0 ms e in
        (at.0, ap (λ l. unmarked l ms) first.1 ∙ at.1)

-- the table has no repeats
pub unmarked_distinct : (rows : List Row) (ms : List Bool) → Distinct same_row rows → Distinct same_row (unmarked rows ms)
unmarked_distinct [] ms d = tt
unmarked_distinct (r ∷ rows) [] d = d
unmarked_distinct (r ∷ rows) (true ∷ ms) d = unmarked_distinct rows ms d.1
unmarked_distinct (r ∷ rows) (false ∷ ms) d = (
  none_any (same_row r) (unmarked rows ms) (λ x p.
      let at = unmarked_found rows ms x p in
      any_none (same_row r) d.0 (subst (λ y. Member y rows) at.2 (member_at rows at.0 blank_row at.1))),
  unmarked_distinct rows ms d.1,
)

-- the root of a list that is closed under sides is excluded exactly when it is refuted
pub excluded_refuted : (m : Machine) (root : Row) (rows : List Row) → (more : List Row) × (rows ≡ root ∷ more) →
    Sided m rows → (excluded m rows ≡ true) ↔ Refuted m root
unfolding excluded
excluded_refuted m root rows first sided = (
  (λ set. subst (Refuted m) at (right.1 0 some set)),
  (λ ref. right.2 0 some (subst (Refuted m) (sym at) ref)),
)
  where
    some : 0 < length rows
    some = omega (arith, ap length first.1)

    at : get_or rows 0 blank_row ≡ root
    at = ap (λ l. get_or l 0 blank_row) first.1

    right : Right m rows (marks m rows)
    right = marks_right m rows sided

-- the verdict on a root whose reachable inequalities were all met
pub verdict_true : (m : Machine) → Fits m → Named m → (limit : ℕ) (root : Row) → 1 ≤ limit →
    (meet m limit root).end ≡ all → TrueVerdict m root (meet m limit root).rows
unfolding table
verdict_true m fits named limit root pos e = (
  (λ yes'. refuted_witness m fits root (decides.0 yes')),
  (λ no'. (
    unrefuted_holds m fits named root (unrefuted no'),
    unmarked_shows m root rows (marks m rows) first met (marks_right m rows met.2) (unrefuted no'),
  )),
)
  where
    rows : List Row
    rows = (meet m limit root).rows

    met : MetAll m root rows
    met = meet_all m limit root pos e

    first : (more : List Row) × (rows ≡ root ∷ more)
    first = (meet_begun m limit root pos).0

    decides : (excluded m rows ≡ true) ↔ Refuted m root
    decides = excluded_refuted m root rows first met.2

    unrefuted : excluded m rows ≡ false → Refuted m root → ⊥
    unrefuted no' ref = false≢true (sym no' ∙ decides.1 ref)
