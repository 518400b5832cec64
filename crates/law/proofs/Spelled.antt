-- The items of an excluded answer fit their places.
use Rattle.std.proofs.Common.{◌≡◌, ℕ, zero, suc, ◌+◌, ◌<◌, ◌≤◌, Bool, true, false, ◌&&◌, ◌||◌, eqb, ltb, leb, ◌⊎◌, List, [], ◌∷◌, ◌++◌, length, get_or, sym, refl, ap, ◌∙◌, subst, inl, inr, arith}
use mathlib.Core.Bool.{Bool-set}
use mathlib.Core.Logic.{∥∥₁_elim}
use Rattle.std.proofs.lemmas.List.{get_or_append_left, get_or_at, length-append}
use Rattle.std.proofs.lemmas.Bool.{cases_eq, and_from, or_left, or_right, lt-ltb, le-leb, eq-eqb, false≢true}
use Rattle.model.specs.declared.names.Kind.{Kind}
use Rattle.model.specs.declared.names.Kind.TheVariants as kind
use Rattle.model.specs.declared.names.Name.{Name}
use Rattle.model.specs.declared.rows.Row.{Row}
use Rattle.model.specs.declared.rows.Item.{Item}
use Rattle.model.specs.Blank.{blank_row, blank_item}
use Rattle.model.specs.Relation.{kind_of}
use Rattle.theory.specs.Hedge.{Hedge, nothing, item}
use Rattle.theory.specs.Language.{none}
use Rattle.theory.specs.Items.{from_item, spelling, hedges, Earlier}
use Rattle.theory.specs.Machine.{Machine}
use Rattle.theory.specs.Inequality.{Reachable, Member}
use Rattle.meaning.specs.Names.{Over}
use Rattle.meaning.proofs.Members.{member_at}
use Rattle.meaning.proofs.Names.{hedges_over_names}
use Rattle.meaning.proofs.Simulation.{accepted_in}
use Rattle.marking.specs.Marks.{LeftHad}
use Rattle.records.specs.Places.{is_element, item_fits}
use Rattle.search.specs.Answered.{root_of}
use Rattle.tables.specs.Plain.{Plain}
use Rattle.load.specs.Loaded.{bodies_of, rules_of}
use Rattle.law.specs.Grounded.{Grounded}
use Rattle.law.proofs.Kinded.{bodies_kinded, reachable_kinded}

-- hedges that are there stay
spelling_keeps : (before : List Hedge) (items : List Item) (j : ℕ) → j < length before → get_or (spelling before items) j nothing ≡ get_or before j nothing
spelling_keeps before [] j lt = refl
spelling_keeps before (x ∷ items) j lt =
    spelling_keeps (before ++ from_item before x ∷ []) items j (omega (arith, length-append before (from_item before x ∷ [])))
    ∙ get_or_append_left before (from_item before x ∷ []) nothing j lt

-- the hedge that begins at an item is that item with the hedges of its child and its next
spelled_at : (before : List Hedge) (items : List Item) (k : ℕ) → k < length items →
    (get_or items k blank_item).child < length before + k → (get_or items k blank_item).next < length before + k →
    get_or (spelling before items) (length before + k) nothing
    ≡ item (get_or items k blank_item).name (get_or (spelling before items) (get_or items k blank_item).child nothing) (get_or (spelling before items) (get_or items k blank_item).next nothing)
spelled_at before [] k lt lc ln = absurd (omega arith)
spelled_at before (x ∷ items) zero lt lc ln =
    let more : List Hedge = before ++ from_item before x ∷ [] in
    let long = length-append before (from_item before x ∷ []) in
    let here : get_or (spelling more items) (length before + 0) nothing ≡ from_item before x =
    spelling_keeps more items (length before + 0) (omega arith) ∙ get_or_at before (from_item before x) [] nothing (length before + 0) (omega arith) in
    let old : (j : ℕ) → j < length before → get_or before j nothing ≡ get_or (spelling more items) j nothing =
    λ j lj. sym (spelling_keeps more items j (omega arith) ∙ get_or_append_left before (from_item before x ∷ []) nothing j lj) in
    here
    ∙ ap (λ h. item x.name h (get_or before x.next nothing)) (old x.child (omega arith))
    ∙ ap (λ h. item x.name (get_or (spelling more items) x.child nothing) h) (old x.next (omega arith))
spelled_at before (x ∷ items) (suc k) lt lc ln =
    let more : List Hedge = before ++ from_item before x ∷ [] in
    let long = length-append before (from_item before x ∷ []) in
    let e : length before + suc k ≡ length more + k = omega arith in
    ap (λ j. get_or (spelling more items) j nothing) e
    ∙ spelled_at more items k (omega arith) (omega arith) (omega arith)

pub hedge_at : (items : List Item) → Earlier items → (k : ℕ) → k < length items →
    get_or (hedges items) (k + 1) nothing
    ≡ item (get_or items k blank_item).name (get_or (hedges items) (get_or items k blank_item).child nothing) (get_or (hedges items) (get_or items k blank_item).next nothing)
hedge_at items earlier k lt =
    let e = earlier k lt in
    let one : k + 1 ≡ 1 + k = omega arith in
    ap (λ j. get_or (hedges items) j nothing) one ∙ spelled_at (nothing ∷ []) items k lt (omega (arith, e.0)) (omega (arith, e.1))

-- a number that is not 0 begins an item
not_nothing : (items : List Item) → Earlier items → (j : ℕ) → 1 ≤ j → j ≤ length items → get_or (hedges items) j nothing ≡ nothing → ⊥
not_nothing items earlier zero lo hi e = omega arith
not_nothing items earlier (suc k) lo hi e =
    let at = hedge_at items earlier k hi in
    let one : k + 1 ≡ suc k = omega arith in
    let z : false ≡ true = differ (sym at ∙ ap (λ j. get_or (hedges items) j nothing) one ∙ e) in
    false≢true z
  where
    is_nothing : Hedge → Bool
    is_nothing nothing = true
    is_nothing (item t v w) = false

    differ : {t : ℕ} {v w : Hedge} → item t v w ≡ nothing → false ≡ true
    differ e = ap is_nothing e

-- an item whose hedge is over the names fits its place
over_fits : (names : List Name) (items : List Item) → Earlier items → (k : ℕ) → k < length items →
    Over names (get_or (hedges items) (k + 1) nothing) → item_fits names k (get_or items k blank_item) ≡ true
over_fits names items earlier k lt over =
    let x : Item = get_or items k blank_item in
    let e = earlier k lt in
    let is : Over names (item x.name (get_or (hedges items) x.child nothing) (get_or (hedges items) x.next nothing)) = subst (Over names) (hedge_at items earlier k lt) over in
    and_from (ltb x.name (length names) && leb x.child k && leb x.next k) _
    (and_from (ltb x.name (length names) && leb x.child k) _
    (and_from (ltb x.name (length names)) _ (lt-ltb x.name (length names) is.0) (le-leb x.child k e.0))
    (le-leb x.next k e.1))
    (bare (kind_of names x.name) is.1 (cases_eq x.child 0))
  where
    bare : (kd : Kind) → (kd ≡ kind.Simple → get_or (hedges items) (get_or items k blank_item).child nothing ≡ nothing) →
        ((get_or items k blank_item).child ≡ 0) ⊎ ((get_or items k blank_item).child ≡ 0 → ⊥) → (eqb (get_or items k blank_item).child 0 || is_element kd) ≡ true
    bare kd inside (inl z) = or_left (eqb (get_or items k blank_item).child 0) (is_element kd) (eq-eqb (get_or items k blank_item).child 0 z)
    bare kind.Element inside (inr nz) = or_right (eqb (get_or items k blank_item).child 0) true refl
    bare kind.Simple inside (inr nz) =
        let e = earlier k lt in absurd (not_nothing items earlier (get_or items k blank_item).child (omega arith) (omega (arith, e.0)) (inside refl))

-- every item of a list whose hedges are had by the left states of reachable rows fits its place
pub had_fits : (t : Plain) (m : Machine) → ∥ Grounded t m ∥₁ → (a b : ℕ) → a < rules_of t → (rows : List Row) → ((r : Row) → Member r rows → Reachable m (root_of a b) r) →
    (items : List Item) → Earlier items → LeftHad m rows items → (k : ℕ) → k < length items → item_fits t.names k (get_or items k blank_item) ≡ true
had_fits t m g a b la rows reach items earlier had k lt = ∥∥₁_elim g (Bool-set _ _) (λ w.
    let h = had k lt in
    let q : ℕ = (get_or rows h.0 blank_row).left in
    let is = reachable_kinded t m w.loaded a b la (reach (get_or rows h.0 blank_row) (member_at rows h.0 blank_row h.1)) in
    over_fits t.names items earlier k lt
    (hedges_over_names t.names (bodies_of t) m.covers w.relation (bodies_kinded t m.states w.loaded)
    (get_or w.loaded.exprs q none) _ is.1
    (accepted_in (bodies_of t) (rules_of t) m w.loaded.exprs w.loaded.stand _ q is.0 h.2)))
