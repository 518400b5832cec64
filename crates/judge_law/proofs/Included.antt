-- An accepted included sheet is a closed table, and a closed table that leans on nothing is accepted.
use Rattle.std.proofs.Common.{◌≡◌, ℕ, ◌+◌, Bool, true, false, cond, not, eqb, ltb, ◌⊎◌, List, [], ◌∷◌, Some, None, Option, sym, refl, ap, ◌∙◌, subst, inl, inr, ⊎_elim}
use Rattle.std.proofs.lemmas.Bool.{and_parts, and_cases, and_left, and_right, or_cases, or_left, cond-true, cond-false, not-false, not_from_true, eqb-true, false≢true}
use Rattle.std.specs.Option.{option_or}
use Rattle.model.specs.declared.rows.Row.{Row}
use Rattle.model.specs.Sets.{insert}
use Rattle.ledger.specs.Settled.{Settled}
use Rattle.model.specs.declared.verdict.Verdict.TheVariants.{Included, Excluded}
use Rattle.theory.specs.Count.{any}
use Rattle.theory.specs.Machine.{Machine}
use Rattle.theory.specs.Inequality.{row, same_row, Holds, inconsistent, wide, EitherOr, either_ors, Member, here, there}
use Rattle.inequality.specs.Tables.{Closed}
use Rattle.inequality.proofs.Lists.{any_found, any_from, any_none, none_any, some_found}
use Rattle.inequality.proofs.Marking.{tells_row}
use Rattle.inequality.proofs.Truth.{closed_true}
use Rattle.judge.specs.declared.fault.SheetFault.{SheetFault}
use Rattle.judge.specs.declared.fault.SheetFault.TheVariants.{Inconsistent, Wide, Gap, Root}
use Rattle.gaps.specs.Shows.{included?, leans_on, leans, shown, unshown, gap}
use Rattle.judge.specs.Judgement.{row_fault, first_fault, rooted, included_fault}
use Rattle.judge_law.specs.Laws.{SettledTrue, RowsTrue, IncludedTrue, IncludedExchange}

-- nothing is at fault where the first of two is not and the second is not
both_none : (f g : Option SheetFault) → option_or f g ≡ None → (f ≡ None) × (g ≡ None)
both_none (Some x) g e = (e, cc)
both_none None g e = (refl, e)

-- a fault that is given under a test
untold : (b : Bool) (f : SheetFault) (o : Option SheetFault) → cond b (Some f) o ≡ None → (b ≡ false) × (o ≡ None)
untold true f o e = (cc, cc)
untold false f o e = (refl, e)

-- a row without a fault is not inconsistent, not wide and has no gap
row_sound : (m : Machine) (S : Row → Bool) (n : ℕ) (r : Row) → row_fault m S n r ≡ None →
    (inconsistent m r ≡ false) × (wide m r ≡ false) × (gap m S r ≡ false)
unfolding row_fault
row_sound m S n r e =
    let a = untold (inconsistent m r) (Inconsistent n) _ e in
    let b = untold (wide m r) (Wide n) _ a.1 in
    let c = untold (gap m S r) (Gap n) None b.1 in
    (a.0, b.0, c.0)

row_clear : (m : Machine) (S : Row → Bool) (n : ℕ) (r : Row) → inconsistent m r ≡ false → wide m r ≡ false →
    gap m S r ≡ false → row_fault m S n r ≡ None
unfolding row_fault
row_clear m S n r a b c = cond-false _ _ _ a ∙ cond-false _ _ _ b ∙ cond-false _ _ _ c

-- all rows are without a fault
rows_sound : (m : Machine) (S : Row → Bool) (n : ℕ) (rows : List Row) → first_fault m S n rows ≡ None →
    {r : Row} → Member r rows → (inconsistent m r ≡ false) × (wide m r ≡ false) × (gap m S r ≡ false)
rows_sound m S n [] e mem = elim mem [ ]
rows_sound m S n (r ∷ rows) e here = row_sound m S n r (both_none _ _ e).0
rows_sound m S n (r ∷ rows) e (there mem) = rows_sound m S (n + 1) rows (both_none _ _ e).1 mem

rows_clear : (m : Machine) (S : Row → Bool) (n : ℕ) (rows : List Row) →
    ((r : Row) → Member r rows → (inconsistent m r ≡ false) × (wide m r ≡ false) × (gap m S r ≡ false)) →
    first_fault m S n rows ≡ None
rows_clear m S n [] all = refl
rows_clear m S n (r ∷ rows) all =
    let one = all r here in
    ap (λ o. option_or o (first_fault m S (n + 1) rows)) (row_clear m S n r one.0 one.1 one.2)
    ∙ rows_clear m S (n + 1) rows (λ q mem. all q (there mem))

-- a side that is shown is a row, or leans on the register
shown_by : (settled : ℕ → ℕ → Settled) (rules : ℕ) (rows : List Row) (r : Row) → shown settled rules rows r ≡ true →
    Member r rows ⊎ (leans settled rules r ≡ true)
unfolding shown
shown_by settled rules rows r e = ⊎_elim
    (λ (found : any (same_row r) rows ≡ true).
    let one = any_found (same_row r) rows found in
    let P : Row → Type 0 = λ q. Member q rows in
    inl (subst P (sym (tells_row.equal r one.0 one.2)) one.1))
    (λ (lean : leans settled rules r ≡ true). inr lean)
    (or_cases _ _ e)

row_shown : (settled : ℕ → ℕ → Settled) (rules : ℕ) (rows : List Row) (r : Row) → Member r rows →
    shown settled rules rows r ≡ true
unfolding shown
row_shown settled rules rows r mem = or_left _ _ (any_from (same_row r) mem (tells_row.itself r))

-- one of the sides of an either-or that is not unshown is shown
sides_shown : (S : Row → Bool) (e : EitherOr) → unshown S e ≡ false → (S e.content ≡ true) ⊎ (S e.rest ≡ true)
sides_shown S e is = ⊎_elim
    (λ a. inl (not-false _ a))
    (λ b. inr (not-false _ b))
    (and_cases (not (S e.content)) (not (S e.rest)) is)

included_is : (s : Settled) → included? s ≡ true → s ≡ Some Included
included_is None e = elim (false≢true e) [ ]
included_is (Some Included) e = refl
included_is (Some Excluded) e = elim (false≢true e) [ ]

-- what leans on the register holds if the register is true
leans_true : (m : Machine) (settled : ℕ → ℕ → Settled) (rules : ℕ) → SettledTrue m settled → (r : Row) →
    leans settled rules r ≡ true → Holds m r
unfolding leans
leans_true m settled rules true_pairs r e =
    let one = some_found rules (leans_on settled r) (and_parts (ltb r.left rules) _ e).1 in
    let parts = and_parts (included? (settled r.left one.0)) (eqb r.right.bits (insert 0 one.0)) one.2 in
    let P : ℕ → Type 0 = λ s. Holds m (row r.left s) in
    subst P (sym (eqb-true _ _ parts.1)) (true_pairs r.left one.0 (included_is _ parts.0))

-- the rows of an accepted sheet are a closed table
sheet_closed : (m : Machine) (settled : ℕ → ℕ → Settled) (rules : ℕ) (rows : List Row) →
    first_fault m (shown settled rules rows) 3 rows ≡ None →
    Closed m (λ r. Member r rows) (λ r. leans settled rules r ≡ true)
unfolding gap
sheet_closed m settled rules rows none = (
  (λ r mem. (rows_sound m (shown settled rules rows) 3 rows none mem).0),
  (λ r e mem_r mem_e. ⊎_elim
      (λ a. inl (shown_by settled rules rows e.content a))
      (λ b. inr (shown_by settled rules rows e.rest b))
      (sides_shown (shown settled rules rows) e
      (any_none (unshown (shown settled rules rows)) (rows_sound m (shown settled rules rows) 3 rows none mem_r).2 mem_e))),
)

-- an accepted sheet begins with its root, and its rows are without a fault
accepted : (m : Machine) (settled : ℕ → ℕ → Settled) (rules a b : ℕ) (rows : List Row) →
    included_fault m settled rules a b rows ≡ None →
    (rooted a b rows ≡ true) × (first_fault m (shown settled rules rows) 3 rows ≡ None)
unfolding included_fault
accepted m settled rules a b rows e = go (rooted a b rows) (first_fault m (shown settled rules rows) 3 rows) e
  where
    go : (t : Bool) (o : Option SheetFault) → cond t o (Some Root) ≡ None → (t ≡ true) × (o ≡ None)
    go true o is = (refl, is)
    go false o is = (cc, cc)

root_row : (a b : ℕ) (rows : List Row) → rooted a b rows ≡ true → Member (row a (insert 0 b)) rows
root_row a b [] e = elim (false≢true e) [ ]
root_row a b (r ∷ rows) e =
    let P : Row → Type 0 = λ q. Member q (r ∷ rows) in
    subst P (tells_row.equal r (row a (insert 0 b)) e) here

pub rows_true : RowsTrue
rows_true m fits named settled rules a b rows true_pairs e =
    closed_true m fits named (λ r. Member r rows) (λ r. leans settled rules r ≡ true)
    (sheet_closed m settled rules rows (accepted m settled rules a b rows e).1)
    (leans_true m settled rules true_pairs)

pub included_true : IncludedTrue
included_true m fits named settled rules a b rows true_pairs e =
    rows_true m fits named settled rules a b rows true_pairs e (row a (insert 0 b))
    (root_row a b rows (accepted m settled rules a b rows e).0)

-- rows that begin with the root are rooted
rooted_at : (a b : ℕ) (rows more : List Row) → rows ≡ row a (insert 0 b) ∷ more → rooted a b rows ≡ true
rooted_at a b rows more e = ap (rooted a b) e ∙ tells_row.itself (row a (insert 0 b))

pub included_exchange : IncludedExchange
unfolding included_fault gap
included_exchange m settled rules a b rows shows =
    let S : Row → Bool = shown settled rules rows in
    cond-true _ _ _ (rooted_at a b rows shows.0.0 shows.0.1)
    ∙ rows_clear m S 3 rows (λ r mem_r. (
      (shows.1 r mem_r).0,
      (shows.1 r mem_r).1,
      none_any (unshown S) (either_ors m r) (λ e mem_e. ⊎_elim
          (λ c. and_left _ _ (not_from_true _ (row_shown settled rules rows e.content c)))
          (λ d. and_right _ _ (not_from_true _ (row_shown settled rules rows e.rest d)))
          (shows.2 r e mem_r mem_e)),
    ))
