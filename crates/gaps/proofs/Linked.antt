-- Chains: a row that is the same as another is in its chain.
use Rattle.std.proofs.Common.{◌≡◌, ℕ, zero, suc, ◌+◌, ◌<◌, ◌≤◌, Bool, true, false, cond, ◌||◌, eqb, ◌≢◌, List, length, get_or, set, Some, None, Option, sym, refl, ap, ◌∙◌, subst, ⊎_elim, add-one, arith, below_more}
use Rattle.std.proofs.Math.Bool.{or-false}
use Rattle.std.proofs.lemmas.List.{get_or-set_same, get_or-set_other}
use Rattle.std.proofs.lemmas.Bool.{cases_Bool, cases_eq, cond-true, cond-false, eq-eqb, eqb-true, ne_eqb, both_ways}
use Rattle.model.specs.declared.rows.Row.{Row}
use Rattle.model.specs.Blank.{blank_row}
use Rattle.theory.specs.Count.{some, any}
use Rattle.theory.specs.Inequality.{same_row}
use Rattle.meaning.proofs.Members.{some_any}
use Rattle.sides.proofs.Some.{some_at}
use Rattle.inequality.proofs.Marking.{tells_row}
use Rattle.gaps.specs.Chains.{slot_of, slot_at, last, Heads, Links}

-- how many numbers there are up to this one; 0 where there is none
abbrev pub up_to : Option ℕ → ℕ
up_to None = 0
up_to (Some i) = suc i

-- the last one is below
last_below : (n : ℕ) (p : ℕ → Bool) → up_to (last n p) ≤ n
last_below zero p = omega arith
last_below (suc n) p = ⊎_elim
    (λ (e : p n ≡ true). subst (λ o. up_to o ≤ suc n) (sym (cond-true (p n) (Some n) (last n p) e)) (omega arith))
    (λ (e : p n ≡ false). subst (λ o. up_to o ≤ suc n) (sym (cond-false (p n) (Some n) (last n p) e)) (omega (arith, last_below n p)))
    (cases_Bool (p n))

-- it passes
last_passes : (n : ℕ) (p : ℕ → Bool) (i : ℕ) → last n p ≡ Some i → p i ≡ true
last_passes zero p i is = cc
last_passes (suc n) p i is = ⊎_elim
    (λ (e : p n ≡ true).
    let same : Some n ≡ Some i = sym (cond-true (p n) (Some n) (last n p) e) ∙ is in
    let at : n ≡ i = cc in
    ap p (sym at) ∙ e)
    (λ (e : p n ≡ false). last_passes n p i (sym (cond-false (p n) (Some n) (last n p) e) ∙ is))
    (cases_Bool (p n))

or_off : (x : Bool) {y : Bool} → y ≡ false → (x || y) ≡ x
or_off x e = ap (λ y. x || y) e ∙ or-false x

-- nothing that passes is passed over
last_skips : (n : ℕ) (p q : ℕ → Bool) → ((i : ℕ) → q i ≡ true → p i ≡ true) → some (up_to (last n p)) q ≡ some n q
last_skips zero p q within = refl
last_skips (suc n) p q within = ⊎_elim
    (λ (e : p n ≡ true). ap (λ o. some (up_to o) q) (cond-true (p n) (Some n) (last n p) e))
    (λ (e : p n ≡ false).
    let fails : q n ≡ false = ⊎_elim (λ (t : q n ≡ true). elim (both_ways (p n) e (within n t)) [ ]) (λ f. f) (cases_Bool (q n)) in
    ap (λ o. some (up_to o) q) (cond-false (p n) (Some n) (last n p) e) ∙ last_skips n p q within ∙ sym (or_off (some n q) fails))
    (cases_Bool (p n))

-- the row number i is the same as the side
abbrev pub same_at : Row → List Row → ℕ → Bool
same_at side rows i = same_row side (get_or rows i blank_row)

-- What a search along a chain keeps: the rows that are left are those up to the next one of the chain.
pub record Ahead (side : Row) (rows : List Row) (next : Option ℕ) : Type 0 where
  pub within : up_to next ≤ length rows
  pub chained : (i : ℕ) → next ≡ Some i → slot_at rows i ≡ slot_of side
  pub left : some (up_to next) (same_at side rows) ≡ any (same_row side) rows

-- the last of the first n rows in a chain is ahead, where the rows from n on are done with
last_ahead : (side : Row) (rows : List Row) (n h : ℕ) (next : Option ℕ) → h ≡ slot_of side → n ≤ length rows →
    some n (same_at side rows) ≡ any (same_row side) rows → next ≡ last n (λ i. eqb (slot_at rows i) h) → Ahead side rows next
last_ahead side rows n h next is le left at =
    let p : ℕ → Bool = λ i. eqb (slot_at rows i) h in record {
      within = subst (λ o. up_to o ≤ length rows) (sym at) (omega (arith, last_below n p));
      chained = λ i e. eqb-true _ _ (last_passes n p i (sym at ∙ e)) ∙ is;
      left = ap (λ o. some (up_to o) (same_at side rows)) at
          ∙ last_skips n p (same_at side rows)
          (λ i e. eq-eqb _ _ (ap slot_of (sym (tells_row.equal side (get_or rows i blank_row) e)) ∙ sym is))
          ∙ left;
    }

-- the search begins at the head of the chain
pub chain_head : (side : Row) (rows : List Row) (heads : List (Option ℕ)) (h : ℕ) → h ≡ slot_of side → h < 256 →
    Heads rows (length rows) heads → Ahead side rows (get_or heads h None)
chain_head side rows heads h is lt ok =
    last_ahead side rows (length rows) h (get_or heads h None) is (omega arith) (some_any (same_row side) rows blank_row) (ok h lt)

-- it goes on along the links, past a row that differs
pub chain_link : (side : Row) (rows : List Row) (links : List (Option ℕ)) (next : Option ℕ) (i : ℕ) → next ≡ Some i →
    Ahead side rows next → Links rows (length rows) links → same_at side rows i ≡ false → Ahead side rows (get_or links i None)
chain_link side rows links None i is ahead ok differs = cc
chain_link side rows links (Some j) i is ahead ok differs =
    let same : j ≡ i = cc in
    let lt : i < length rows = omega (arith, ahead.within) in
    last_ahead side rows i (slot_at rows i) (get_or links i None) (ahead.chained i is) (omega arith)
    (sym (or_off (some i (same_at side rows)) differs)
    ∙ ap (λ k. some (suc k) (same_at side rows)) (sym same) ∙ ahead.left) (ok i lt)

-- the links fall
pub link_falls : (side : Row) (rows : List Row) (links : List (Option ℕ)) (next : Option ℕ) (i : ℕ) → next ≡ Some i →
    Ahead side rows next → Links rows (length rows) links → up_to (get_or links i None) < up_to next
link_falls side rows links None i is ahead ok = cc
link_falls side rows links (Some j) i is ahead ok =
    let same : j ≡ i = cc in
    let lt : i < length rows = omega (arith, ahead.within) in
    let p : ℕ → Bool = λ k. eqb (slot_at rows k) (slot_at rows i) in
    subst (λ o. up_to o < suc j) (sym (ok i lt)) (omega (arith, last_below i p))

-- a row that is met
pub chain_found : (side : Row) (rows : List Row) (i : ℕ) → Ahead side rows (Some i) →
    same_at side rows i ≡ true → true ≡ any (same_row side) rows
chain_found side rows i ahead is = sym (some_at (same_at side rows) i (suc i) (omega arith) is) ∙ ahead.left

-- one row more at the head of its chain
pub heads_more : (rows : List Row) (n h : ℕ) (heads : List (Option ℕ)) → length heads ≡ 256 → h ≡ slot_at rows n → Heads rows n heads →
    Heads rows (n + 1) (set heads h (Some n))
heads_more rows n h heads size is ok k lt =
    let p : ℕ → Bool = λ i. eqb (slot_at rows i) k in
    let grown : last (n + 1) p ≡ cond (p n) (Some n) (last n p) = ap (λ j. last j p) (add-one n) in
    ⊎_elim
    (λ (e : k ≡ h). ap (λ j. get_or (set heads h (Some n)) j None) e ∙ get_or-set_same heads h (Some n) None (omega arith)
    ∙ sym (grown ∙ cond-true (p n) _ _ (eq-eqb _ _ (sym is ∙ sym e))))
    (λ ne. get_or-set_other heads h k (Some n) None ne ∙ ok k lt
    ∙ sym (grown ∙ cond-false (p n) _ _ (ne_eqb _ _ (λ same. ne (sym same ∙ sym is)))))
    (cases_eq k h)

-- one link more
pub links_more : (rows : List Row) (n h : ℕ) (heads links : List (Option ℕ)) → n < length links → h < 256 → h ≡ slot_at rows n →
    Heads rows n heads → Links rows n links → Links rows (n + 1) (set links n (get_or heads h None))
links_more rows n h heads links room lt is heads_ok ok =
    below_more _ _
    (λ j below. let ne : j ≢ n = omega arith in get_or-set_other links n j (get_or heads h None) None ne ∙ ok j below)
    (get_or-set_same links n (get_or heads h None) None room ∙ heads_ok h lt
    ∙ ap (λ s. last n (λ i. eqb (slot_at rows i) s)) is)
