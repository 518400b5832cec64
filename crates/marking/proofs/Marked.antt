-- Marking: how it begins, what one more mark keeps, and what marks that no further step changes say.
use Rattle.std.proofs.Common.{◌≡◌, ℕ, zero, suc, ◌+◌, ◌^◌, ◌<◌, ◌≤◌, Bool, true, false, cond, ◌≢◌, ◌⊎◌, List, [], ◌∷◌, ◌++◌, length, get_or, take, set, Some, None, Option, sym, refl, ap, ◌∙◌, subst, inl, inr, ⊎_elim, arith}
use Rattle.std.specs.Option.{is_some}
use Rattle.std.proofs.lemmas.List.{length_push, length-map, length-take-le, get_or-set_same, get_or-set_other, get_or-map, get_or-take}
use Rattle.std.proofs.lemmas.Bool.{cases_eq, cases_lt, cases_Bool, cond-true, cond-false, lt-ltb, le-ltb, false≢true}
use Rattle.model.specs.declared.rows.Row.{Row}
use Rattle.model.specs.declared.rows.Item.{Item}
use Rattle.model.specs.Machine.{Derivative}
use Rattle.model.specs.Blank.{blank_row}
use Rattle.theory.specs.Hedge.{Hedge, nothing, item}
use Rattle.theory.specs.Machine.{Machine, accepts}
use Rattle.theory.specs.Inequality.{Pair, same_row, Refuted, by_empty, by_either_or, EitherOr, either_or, either_ors, Member, derivative, derivative_count, pairs, inconsistent}
use Rattle.theory.specs.Items.{from_item, hedges}
use Rattle.inequality.specs.Fits.{Fits, Witness}
use Rattle.inequality.specs.Marks.{Sided, Right}
use Rattle.inequality.proofs.Lists.{member_at, member_cases}
use Rattle.inequality.proofs.Sides.{either_or_found, either_or_from}
use Rattle.inequality.proofs.Subsets.{witness_item, inconsistent_witness}
use Rattle.inequality.proofs.Marking.{tells_row}
use Rattle.book.specs.Place.{place}
use Rattle.marking.specs.Refutes.{Marks, mark_of, first, joined, of_subset, of_covered, of_derivatives, refutation}
use Rattle.marking.specs.Marks.{mark_at, free, unset, SetAt, Had, LeftHad, Marked, StillFrom, flags}
use Rattle.marking.proofs.First.{first_found, first_none}
use Rattle.marking.proofs.Spelling.{hedges_old, hedges_new, earlier_push}

-- the row at the place of r is r
place_same : {A : Type 0} (same : A → A → Bool) (l : List A) (x d : A) → place same l x < length l →
    same x (get_or l (place same l x) d) ≡ true
place_same same [] x d lt = absurd (omega arith)
place_same {A} same (y ∷ l) x d lt = go (same x y) refl lt (place_same same l x d)
  where
    go : (b : Bool) → same x y ≡ b → cond b 0 (suc (place same l x)) < suc (length l) →
        (place same l x < length l → same x (get_or l (place same l x) d) ≡ true) →
        same x (get_or (y ∷ l) (cond b 0 (suc (place same l x))) d) ≡ true
    go true e h rec = e
    go false e h rec = rec (omega arith)

-- a mark is that of a row
mark_found : (rows : List Row) (marks : Marks) (r : Row) (k : ℕ) → mark_of rows marks r ≡ Some k →
    (p : ℕ) × (p < length rows) × (get_or rows p blank_row ≡ r) × (mark_at marks p ≡ Some k)
mark_found rows marks r k is = ⊎_elim
    (λ (lt : place same_row rows r < length rows). (
      place same_row rows r,
      lt,
      sym (tells_row.equal r (get_or rows (place same_row rows r) blank_row) (place_same same_row rows r blank_row lt)),
      sym (cond-true _ _ _ (lt-ltb (place same_row rows r) (length rows) lt)) ∙ is,
    ))
    (λ ge. let z : None ≡ Some k = sym (cond-false _ _ _ (le-ltb (place same_row rows r) (length rows) ge)) ∙ is in cc)
    (cases_lt (place same_row rows r) (length rows))

-- where an item is joined, both sides are marked
joined_found : (t : ℕ) (a b : Option ℕ) (x : Item) → joined t a b ≡ Some x →
    (k : ℕ) × (l : ℕ) × (a ≡ Some k) × (b ≡ Some l) × (x ≡ record { name = t; child = k; next = l })
joined_found t None b x e = cc
joined_found t (Some k) None x e = cc
joined_found t (Some k) (Some l) x e = (k, l, refl, refl, cc)

joined_none : (t : ℕ) (a b : Option ℕ) → joined t a b ≡ None → (a ≡ None) ⊎ (b ≡ None)
joined_none t None b e = inl refl
joined_none t (Some k) None e = inr refl
joined_none t (Some k) (Some l) e = cc

when_some : {x : Item} (b : Bool) (o : Option Item) → cond b o None ≡ Some x → (b ≡ true) × (o ≡ Some x)
when_some true o e = (refl, e)
when_some false o e = cc

-- one more mark is set
unset_same : (marks : Marks) (i : ℕ) (x : Option ℕ) (n : ℕ) → n ≤ i → unset (set marks i x) n ≡ unset marks n
unset_same marks i x zero le = refl
unset_same marks i x (suc n) le =
    let ne : n ≢ i = omega arith in
    ap (λ k. k + free (mark_at (set marks i x) n)) (unset_same marks i x n (omega arith))
    ∙ ap (λ v. unset marks n + free v) (get_or-set_other marks i n x None ne)

pub unset_less : (marks : Marks) (i k n : ℕ) → i < n → n ≤ length marks → mark_at marks i ≡ None →
    unset (set marks i (Some k)) n + 1 ≡ unset marks n
unset_less marks i k zero lt le was = absurd (omega arith)
unset_less marks i k (suc n) lt le was = ⊎_elim
    (λ (e : i ≡ n).
    let before = unset_same marks i (Some k) n (omega arith) in
    let within : i < length marks = omega arith in
    let a : free (mark_at (set marks i (Some k)) n) ≡ 0 =
    ap (λ j. free (mark_at (set marks i (Some k)) j)) (sym e) ∙ ap free (get_or-set_same marks i (Some k) None within) in
    let b : free (mark_at marks n) ≡ 1 = ap (λ j. free (mark_at marks j)) (sym e) ∙ ap free was in
    omega arith)
    (λ ne.
    let rec = unset_less marks i k n (omega arith) (omega arith) was in
    let other : n ≢ i = omega arith in
    let a : free (mark_at (set marks i (Some k)) n) ≡ free (mark_at marks n) =
    ap free (get_or-set_other marks i n (Some k) None other) in
    omega arith)
    (cases_eq i n)

pub unset_most : (marks : Marks) (n : ℕ) → unset marks n ≤ n
unset_most marks zero = omega arith
unset_most marks (suc n) =
    let rec = unset_most marks n in
    let one : free (mark_at marks n) ≤ 1 = at_most (mark_at marks n) in
    omega arith
  where
    at_most : (o : Option ℕ) → free o ≤ 1
    at_most None = omega arith
    at_most (Some _) = omega arith

-- an unmarked row makes at least one
pub unset_one : (marks : Marks) (i n : ℕ) → i < n → mark_at marks i ≡ None → 1 ≤ unset marks n
unset_one marks i zero lt is = absurd (omega arith)
unset_one marks i (suc n) lt is = ⊎_elim
    (λ (e : i ≡ n).
    let b : free (mark_at marks n) ≡ 1 = ap (λ j. free (mark_at marks j)) (sym e) ∙ ap free is in
    omega arith)
    (λ ne. let rec = unset_one marks i n (omega arith) is in omega arith)
    (cases_eq i n)

-- the left of a row is some state
some_state : (m : Machine) (rows : List Row) (items : List Item) → LeftHad m rows items → Had m items
some_state m rows items left k lt = let h = left k lt in ((get_or rows h.0 blank_row).left, h.2)

-- how marking begins: the inconsistent rows are marked by the empty hedge
pub marked_start : (m : Machine) (rows : List Row) (marks : Marks) →
    ((i : ℕ) → i < length rows → mark_at marks i ≡ cond (inconsistent m (get_or rows i blank_row)) (Some 0) None) → Marked m rows marks []
marked_start m rows marks begun = record {
  refuted = λ i li is_set. by_empty (is_inconsistent i li is_set);
  witness = λ i k li is fits.
      let inc = is_inconsistent i li (λ z. let e : None ≡ Some k = sym z ∙ is in cc) in
      let e : Some k ≡ Some 0 = sym is ∙ begun i li ∙ cond-true _ _ _ inc in
      let z : k ≡ 0 = cc in
      subst (λ k. Witness m (get_or rows i blank_row) (get_or (hedges []) k nothing)) (sym z)
      (inconsistent_witness m (get_or rows i blank_row) inc);
  known = λ i k li is.
      let inc = is_inconsistent i li (λ z. let e : None ≡ Some k = sym z ∙ is in cc) in
      let e : Some k ≡ Some 0 = sym is ∙ begun i li ∙ cond-true _ _ _ inc in
      let z : k ≡ 0 = cc in
      omega arith;
  inconsistent_set = λ i li is z. let e : None ≡ Some 0 = sym z ∙ begun i li ∙ cond-true _ _ _ is in cc;
  earlier = λ k lt. absurd (omega arith);
  had = λ fits k lt. absurd (omega arith);
  left_had = λ fits k lt. absurd (omega arith);
  few = let h = unset_most marks (length rows) in omega arith;
}
  where
    is_inconsistent : (i : ℕ) → i < length rows → SetAt marks i → inconsistent m (get_or rows i blank_row) ≡ true
    is_inconsistent i li is_set = ⊎_elim (λ yes'. yes')
        (λ (no' : inconsistent m (get_or rows i blank_row) ≡ false). absurd (is_set (begun i li ∙ cond-false _ _ _ no')))
        (cases_Bool (inconsistent m (get_or rows i blank_row)))

-- one more mark: the item that refutes row i becomes the last, and its number the mark
module _ (m : Machine) (rows : List Row) (marks : Marks) (items : List Item) (ok : Marked m rows marks items)
    (i : ℕ) (li : i < length rows) (long : length rows ≤ length marks) (was : mark_at marks i ≡ None)
    (x : Item) (found : refutation m rows marks (get_or rows i blank_row) ≡ Some x) where
  abbrev r : Row
  r = get_or rows i blank_row

  abbrev n_items : ℕ
  n_items = length items

  in_name : (t : ℕ) × (t < m.names) × (of_derivatives m rows marks t r.left (pairs m t r.right.bits) ≡ Some x)
  in_name = first_found m.names (λ t. of_derivatives m rows marks t r.left (pairs m t r.right.bits)) x found

  abbrev t : ℕ
  t = in_name.0

  abbrev ps : List Pair
  ps = pairs m t r.right.bits

  in_derivative : (j : ℕ) × (j < derivative_count m r.left) × (of_covered m.covers rows marks t ps (derivative m r.left j) ≡ Some x)
  in_derivative = first_found (derivative_count m r.left) (λ j. of_covered m.covers rows marks t ps (derivative m r.left j)) x in_name.2

  abbrev j : ℕ
  j = in_derivative.0

  abbrev d : Derivative
  d = derivative m r.left j

  covered : (m.covers d.0 t ≡ true) × (first (2 ^ length ps) (of_subset rows marks t d ps) ≡ Some x)
  covered = when_some (m.covers d.0 t) (first (2 ^ length ps) (of_subset rows marks t d ps)) in_derivative.2

  in_subset : (k : ℕ) × (k < 2 ^ length ps) × (of_subset rows marks t d ps k ≡ Some x)
  in_subset = first_found (2 ^ length ps) (of_subset rows marks t d ps) x covered.1

  abbrev k : ℕ
  k = in_subset.0

  abbrev content : Row
  content = (either_or d ps k).content

  abbrev rest : Row
  rest = (either_or d ps k).rest

  both : (k : ℕ) × (l : ℕ) × (mark_of rows marks content ≡ Some k) × (mark_of rows marks rest ≡ Some l)
      × (x ≡ record { name = t; child = k; next = l })
  both = joined_found t (mark_of rows marks content) (mark_of rows marks rest) x in_subset.2

  -- what is known of a side
  side : (s : Row) (n : ℕ) → mark_of rows marks s ≡ Some n →
      Refuted m s × (Fits m → Witness m s (get_or (hedges items) n nothing)) × (n ≤ n_items)
  side s n is =
      let at = mark_found rows marks s n is in (
        subst (Refuted m) at.2 (ok.refuted at.0 at.1 (λ z. let e : None ≡ Some n = sym z ∙ at.3 in cc)),
        (λ fits. subst (λ row. Witness m row (get_or (hedges items) n nothing)) at.2 (ok.witness at.0 n at.1 at.3 fits)),
        ok.known at.0 n at.1 at.3,
      )

  new_refuted : Refuted m r
  new_refuted = by_either_or (either_or_from m r t j k in_name.1 in_derivative.1 in_subset.1 covered.0)
      (side content both.0 both.2).0 (side rest both.1 both.3).0

  abbrev hedge : Hedge
  hedge = get_or (hedges (items ++ x ∷ [])) (n_items + 1) nothing

  new_witness : Fits m → Witness m r hedge
  new_witness fits =
      let v = get_or (hedges items) both.0 nothing in
      let w = get_or (hedges items) both.1 nothing in
      let spells : hedge ≡ item t v w = hedges_new items x ∙ ap (from_item (hedges items)) both.4 in
      subst (Witness m r) (sym spells)
      (witness_item m fits r t j k v w in_derivative.1 covered.0 ((side content both.0 both.2).1 fits) ((side rest both.1 both.3).1 fits))

  abbrev more : Marks
  more = set marks i (Some (n_items + 1))

  here_is : mark_at more i ≡ Some (n_items + 1)
  here_is = get_or-set_same marks i (Some (n_items + 1)) None (omega arith)

  here_number : (p n : ℕ) → p ≡ i → mark_at more p ≡ Some n → n ≡ n_items + 1
  here_number p n e is = let h : Some n ≡ Some (n_items + 1) = sym is ∙ ap (mark_at more) e ∙ here_is in cc

  other_is : (p : ℕ) → (p ≡ i → ⊥) → mark_at more p ≡ mark_at marks p
  other_is p ne = get_or-set_other marks i p (Some (n_items + 1)) None ne

  left_more : Fits m → LeftHad m rows (items ++ x ∷ [])
  left_more fits p lp = ⊎_elim
      (λ (lt : p < n_items). let old = ok.left_had fits p lt in
      (old.0, old.1, ap (λ (h : Hedge). accepts m h (get_or rows old.0 blank_row).left) (hedges_old items x (p + 1) (omega arith)) ∙ old.2))
      (λ (ge : n_items ≤ p).
      let e : p ≡ n_items = let l = length_push items x in omega arith in
      (i, li, ap (λ q. accepts m (get_or (hedges (items ++ x ∷ [])) (q + 1) nothing) r.left) e ∙ (new_witness fits).0))
      (cases_lt p n_items)

  pub marked_more : Marked m rows more (items ++ x ∷ [])
  marked_more = record {
    refuted = λ p lp is_set. ⊎_elim
        (λ (e : p ≡ i). subst (λ q. Refuted m (get_or rows q blank_row)) (sym e) new_refuted)
        (λ ne. ok.refuted p lp (λ z. is_set (other_is p ne ∙ z)))
        (cases_eq p i);
    witness = λ p n lp is fits. ⊎_elim
        (λ (e : p ≡ i).
        subst (λ q. Witness m (get_or rows q blank_row) (get_or (hedges (items ++ x ∷ [])) n nothing)) (sym e)
        (subst (λ q. Witness m r (get_or (hedges (items ++ x ∷ [])) q nothing)) (sym (here_number p n e is)) (new_witness fits)))
        (λ ne.
        let was_is : mark_at marks p ≡ Some n = sym (other_is p ne) ∙ is in
        subst (Witness m (get_or rows p blank_row)) (sym (hedges_old items x n (ok.known p n lp was_is)))
        (ok.witness p n lp was_is fits))
        (cases_eq p i);
    known = λ p n lp is. ⊎_elim
        (λ (e : p ≡ i). let h = here_number p n e is in let l = length_push items x in omega arith)
        (λ ne. let h = ok.known p n lp (sym (other_is p ne) ∙ is) in let l = length_push items x in omega arith)
        (cases_eq p i);
    inconsistent_set = λ p lp is z. ⊎_elim
        (λ (e : p ≡ i). let h : None ≡ Some (n_items + 1) = sym z ∙ ap (mark_at more) e ∙ here_is in cc)
        (λ ne. ok.inconsistent_set p lp is (sym (other_is p ne) ∙ z))
        (cases_eq p i);
    earlier = earlier_push items x ok.earlier
        (let a = (side content both.0 both.2).2 in let e = ap (λ (y : Item). y.child) both.4 in omega arith)
        (let a = (side rest both.1 both.3).2 in let e = ap (λ (y : Item). y.next) both.4 in omega arith);
    had = λ fits. some_state m rows (items ++ x ∷ []) (left_more fits);
    left_had = left_more;
    few = let a = unset_less marks i (n_items + 1) (length rows) li long was in
        let b = ok.few in let l = length_push items x in omega arith;
  }

place_in : (rows : List Row) (r : Row) → Member r rows → place same_row rows r < length rows
place_in [] r mem = elim mem [ ]
place_in (y ∷ rows) r mem = go (same_row r y) refl (member_cases mem) (place_in rows r)
  where
    go : (b : Bool) → same_row r y ≡ b → (r ≡ y) ⊎ Member r rows → (Member r rows → place same_row rows r < length rows) →
        cond b 0 (suc (place same_row rows r)) < suc (length rows)
    go true e at rec = omega arith
    go false e at rec = ⊎_elim
        (λ (is : r ≡ y). elim (false≢true (sym e ∙ ap (same_row r) (sym is) ∙ tells_row.itself r)) [ ])
        (λ later. let h = rec later in omega arith)
        at

-- the place of a row of the list, and its mark
mark_is : (rows : List Row) (marks : Marks) (r : Row) → Member r rows →
    (p : ℕ) × (p < length rows) × (get_or rows p blank_row ≡ r) × (mark_of rows marks r ≡ mark_at marks p)
mark_is rows marks r mem =
    let lt = place_in rows r mem in (
      place same_row rows r,
      lt,
      sym (tells_row.equal r (get_or rows (place same_row rows r) blank_row) (place_same same_row rows r blank_row lt)),
      cond-true _ _ _ (lt-ltb (place same_row rows r) (length rows) lt),
    )

-- marks that no further step changes mark every refuted row
module _ (m : Machine) (rows : List Row) (marks : Marks) (items : List Item) (sided : Sided m rows)
    (long : length rows ≤ length marks) (ok : Marked m rows marks items) (still : StillFrom m rows marks 0) where
  -- an either-or of an unmarked row has an unmarked side
  open_side : (p : ℕ) → p < length rows → mark_at marks p ≡ None → (e : EitherOr) → Member e (either_ors m (get_or rows p blank_row)) →
      (mark_of rows marks e.content ≡ None) ⊎ (mark_of rows marks e.rest ≡ None)
  open_side p lp free_at e mem =
      let r = get_or rows p blank_row in
      let at = either_or_found m r e mem in
      let ps = pairs m at.0 r.right.bits in
      let d = derivative m r.left at.1 in
      let none_name = first_none m.names (λ t. of_derivatives m rows marks t r.left (pairs m t r.right.bits)) (still p (omega arith) lp free_at) at.0 at.3 in
      let none_der = first_none (derivative_count m r.left) (λ j. of_covered m.covers rows marks at.0 ps (derivative m r.left j)) none_name at.1 at.4 in
      let none_all : first (2 ^ length ps) (of_subset rows marks at.0 d ps) ≡ None = sym (cond-true _ _ _ at.6) ∙ none_der in
      let none_here = first_none (2 ^ length ps) (of_subset rows marks at.0 d ps) none_all at.2 at.5 in
      subst (λ (x : EitherOr). (mark_of rows marks x.content ≡ None) ⊎ (mark_of rows marks x.rest ≡ None)) (sym at.7)
      (joined_none at.0 _ _ none_here)

  refuted_set : {r : Row} → Refuted m r → Member r rows → mark_of rows marks r ≡ None → ⊥
  refuted_set (by_empty {r = r} inc) mem z =
      let at = mark_is rows marks r mem in
      ok.inconsistent_set at.0 at.1 (ap (inconsistent m) at.2 ∙ inc) (sym at.3 ∙ z)
  refuted_set (by_either_or {r = r} {e = e} mem_e a b) mem z =
      let in_rows = sided r e mem mem_e in
      let at = mark_is rows marks r mem in
      ⊎_elim (refuted_set a in_rows.0) (refuted_set b in_rows.1)
      (open_side at.0 at.1 (sym at.3 ∙ z) e (subst (λ row. Member e (either_ors m row)) (sym at.2) mem_e))

  -- the same by number
  numbered_set : (i : ℕ) → i < length rows → {r : Row} → Refuted m r → get_or rows i blank_row ≡ r → mark_at marks i ≡ None → ⊥
  numbered_set i li (by_empty {r = r} inc) is z = ok.inconsistent_set i li (ap (inconsistent m) is ∙ inc) z
  numbered_set i li (by_either_or {r = r} {e = e} mem_e a b) is z =
      let in_rows = sided r e (subst (λ row. Member row rows) is (member_at rows i blank_row li)) mem_e in
      ⊎_elim (refuted_set a in_rows.0) (refuted_set b in_rows.1)
      (open_side i li z e (subst (λ row. Member e (either_ors m row)) (sym is) mem_e))

  flag_at : (i : ℕ) → i < length rows → get_or (flags marks (length rows)) i false ≡ is_some (mark_at marks i)
  flag_at i li =
      let e = length-take-le (length rows) marks long in
      let within : i < length (take (length rows) marks) = omega arith in
      get_or-map is_some (take (length rows) marks) i None false within
      ∙ ap is_some (get_or-take (length rows) marks i None li)

  -- so they are right
  pub still_right : Right m rows (flags marks (length rows))
  still_right = (
    (length-map (take (length rows) marks) is_some ∙ length-take-le (length rows) marks long),
    (λ i li is. ok.refuted i li (λ z. false≢true (sym (ap is_some z) ∙ sym (flag_at i li) ∙ is))),
    (λ i li ref. flag_at i li ∙ set_flag (mark_at marks i) (numbered_set i li ref refl)),
  )
    where
      set_flag : (o : Option ℕ) → (o ≡ None → ⊥) → is_some o ≡ true
      set_flag None is_set = absurd (is_set refl)
      set_flag (Some _) is_set = refl
