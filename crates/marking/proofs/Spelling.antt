-- The hedges that items spell, one item more.
use Rattle.std.proofs.Common.{◌≡◌, ℕ, ◌+◌, ◌<◌, ◌≤◌, List, [], ◌∷◌, ◌++◌, length, get_or, sym, refl, ap, ◌∙◌, subst, ⊎_elim, arith}
use Rattle.std.proofs.lemmas.List.{length_push, get_or_append_left, get_or_push}
use Rattle.std.proofs.lemmas.Bool.{cases_lt}
use Rattle.model.specs.declared.rows.Item.{Item}
use Rattle.model.specs.Blank.{blank_item}
use Rattle.theory.specs.Hedge.{Hedge, nothing}
use Rattle.theory.specs.Items.{from_item, spelling, hedges, Earlier}

spelling_append : (before : List Hedge) (xs ys : List Item) → spelling before (xs ++ ys) ≡ spelling (spelling before xs) ys
spelling_append before [] ys = refl
spelling_append before (x ∷ xs) ys = spelling_append (before ++ from_item before x ∷ []) xs ys

spelling_length : (before : List Hedge) (xs : List Item) → length (spelling before xs) ≡ length before + length xs
spelling_length before [] = omega arith
spelling_length before (x ∷ xs) =
    let e = spelling_length (before ++ from_item before x ∷ []) xs in
    let f = length_push before (from_item before x) in
    omega arith

pub hedges_length : (items : List Item) → length (hedges items) ≡ length items + 1
hedges_length items = let e = spelling_length (nothing ∷ []) items in omega arith

pub hedges_push : (items : List Item) (i : Item) → hedges (items ++ i ∷ []) ≡ hedges items ++ from_item (hedges items) i ∷ []
hedges_push items i = spelling_append (nothing ∷ []) items (i ∷ [])

-- the hedges so far stay
pub hedges_old : (items : List Item) (i : Item) (k : ℕ) → k ≤ length items →
    get_or (hedges (items ++ i ∷ [])) k nothing ≡ get_or (hedges items) k nothing
hedges_old items i k le =
    let lt : k < length (hedges items) = omega (arith, hedges_length items) in
    ap (λ l. get_or l k nothing) (hedges_push items i) ∙ get_or_append_left (hedges items) (from_item (hedges items) i ∷ []) nothing k lt

-- the new one
pub hedges_new : (items : List Item) (i : Item) →
    get_or (hedges (items ++ i ∷ [])) (length items + 1) nothing ≡ from_item (hedges items) i
hedges_new items i =
    ap (λ l. get_or l (length items + 1) nothing) (hedges_push items i)
    ∙ get_or_push (hedges items) (from_item (hedges items) i) nothing (length items + 1) (hedges_length items)

-- one more item that refers to earlier ones
pub earlier_push : (items : List Item) (i : Item) → Earlier items → i.child ≤ length items → i.next ≤ length items →
    Earlier (items ++ i ∷ [])
earlier_push items i old child next k lt = ⊎_elim
    (λ (small : k < length items).
    let e = get_or_append_left items (i ∷ []) blank_item k small in
    subst (λ (x : Item). (x.child ≤ k) × (x.next ≤ k)) (sym e) (old k small))
    (λ (large : length items ≤ k).
    let at : length items ≡ k = omega (arith, length_push items i) in
    let e = get_or_push items i blank_item k at in
    let c : i.child ≤ k = omega arith in
    let n : i.next ≤ k = omega arith in
    subst (λ (x : Item). (x.child ≤ k) × (x.next ≤ k)) (sym e) (c, n))
    (cases_lt k (length items))
