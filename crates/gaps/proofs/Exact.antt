-- A row that is not wide has a gap exactly when a first one is found.
use Rattle.std.proofs.Common.{◌≡◌, ℕ, zero, suc, ◌^◌, ◌<◌, Bool, true, false, cond, ◌&&◌, ◌||◌, ltb, List, length, is_some, Some, None, Option, sym, refl, ap, ◌∙◌, subst, ⊎_elim, arith}
use Rattle.std.proofs.lemmas.List.{take_all}
use Rattle.std.proofs.lemmas.Bool.{and_cases, ltb-false, both_ways, false≢true}
use Rattle.model.specs.declared.rows.Row.{Row}
use Rattle.theory.specs.Count.{some}
use Rattle.theory.specs.Machine.{Machine}
use Rattle.theory.specs.Inequality.{Pair, derivative, derivative_count, pairs, wide, either_or, either_ors}
use Rattle.meaning.proofs.Members.{same_test}
use Rattle.inequality.proofs.Lists.{some_found, some_from, some_none, any_found, any_from}
use Rattle.inequality.proofs.Sides.{either_or_found, either_or_from}
use Rattle.std.specs.Option.{option_or}
use Rattle.gaps.specs.Shows.{unshown, gap}
use Rattle.gaps.specs.Gaps.{first, known, subset_gap, subset_count, derivative_gap, name_gap, first_gap}

-- there is a first answer when there is one at all
is_either : {X : Type 0} (a b : Option X) → is_some (option_or a b) ≡ (is_some a || is_some b)
is_either (Some x) b = refl
is_either None b = refl

is_first : {X : Type 0} (n : ℕ) (f : ℕ → Option X) → is_some (first n f) ≡ some n (λ i. is_some (f i))
is_first zero f = refl
is_first (suc n) f = is_either (first n f) (f n) ∙ ap (λ b. b || is_some (f n)) (is_first n f)

-- all pairs are looked at under a name that the left has, unless the row is wide
all_known : (m : Machine) (r : Row) (t i : ℕ) → wide m r ≡ false → t < m.names → i < derivative_count m r.left →
    m.covers (derivative m r.left i).0 t ≡ true → known m t r.right.bits ≡ pairs m t r.right.bits
unfolding wide known
all_known m r t i narrow lt li covered =
    let crowd : ℕ → ℕ → Bool = λ u j. m.covers (derivative m r.left j).0 u && ltb 8 (length (pairs m u r.right.bits)) in
    let one : crowd t i ≡ false = some_none (derivative_count m r.left) (crowd t) (some_none m.names (λ u. some (derivative_count m r.left) (crowd u)) narrow t lt) i li in
    ⊎_elim
    (λ (e : m.covers (derivative m r.left i).0 t ≡ false). elim (both_ways _ e covered) [ ])
    (λ (e : ltb 8 (length (pairs m t r.right.bits)) ≡ false). take_all 8 _ (ltb-false 8 _ e))
    (and_cases _ _ one)

is_when : {X : Type 0} (b : Bool) (x : X) → is_some (cond b (Some x) None) ≡ b
is_when true x = refl
is_when false x = refl

-- a number below a count that a test may make 0
below_when : (b : Bool) (n k : ℕ) → k < cond b n 0 → (b ≡ true) × (k < n)
below_when true n k lt = (refl, lt)
below_when false n k lt = absurd (omega arith)

when_below : (b : Bool) (n k : ℕ) → b ≡ true → k < n → k < cond b n 0
when_below true n k e lt = lt
when_below false n k e lt = elim (false≢true e) [ ]

found_gap : (m : Machine) (S : Row → Bool) (r : Row) → wide m r ≡ false → is_some (first_gap m S r) ≡ true → gap m S r ≡ true
unfolding first_gap name_gap derivative_gap subset_count subset_gap gap
found_gap m S r narrow e =
    let by_name = some_found m.names (λ t. is_some (name_gap m S r t)) (sym (is_first m.names (name_gap m S r)) ∙ e) in
    let t : ℕ = by_name.0 in
    let by_derivative = some_found (derivative_count m r.left) (λ i. is_some (derivative_gap m S r t i))
    (sym (is_first (derivative_count m r.left) (derivative_gap m S r t)) ∙ by_name.2) in
    let i : ℕ = by_derivative.0 in
    let by_subset = some_found (subset_count m r t i) (λ k. is_some (subset_gap m S r t i k))
    (sym (is_first (subset_count m r t i) (subset_gap m S r t i)) ∙ by_derivative.2) in
    let k : ℕ = by_subset.0 in
    let parts = below_when (m.covers (derivative m r.left i).0 t) (2 ^ length (known m t r.right.bits)) k by_subset.1 in
    let same = all_known m r t i narrow by_name.1 by_derivative.1 parts.0 in
    let below : k < 2 ^ length (pairs m t r.right.bits) = subst (λ (ps : List Pair). k < 2 ^ length ps) same parts.1 in
    any_from (unshown S) (either_or_from m r t i k by_name.1 by_derivative.1 below parts.0)
    (ap (λ (ps : List Pair). unshown S (either_or (derivative m r.left i) ps k)) (sym same) ∙ sym (is_when _ _) ∙ by_subset.2)

gap_found : (m : Machine) (S : Row → Bool) (r : Row) → wide m r ≡ false → gap m S r ≡ true → is_some (first_gap m S r) ≡ true
unfolding first_gap name_gap derivative_gap subset_count subset_gap gap
gap_found m S r narrow e =
    let one = any_found (unshown S) (either_ors m r) e in
    let (t, i, k, lt, li, lk, covered, is) = either_or_found m r one.0 one.1 in
    let same = all_known m r t i narrow lt li covered in
    let below : k < 2 ^ length (known m t r.right.bits) = subst (λ (ps : List Pair). k < 2 ^ length ps) (sym same) lk in
    let here : is_some (subset_gap m S r t i k) ≡ true = is_when _ _
    ∙ ap (λ (ps : List Pair). unshown S (either_or (derivative m r.left i) ps k)) same ∙ ap (unshown S) (sym is) ∙ one.2 in
    is_first m.names (name_gap m S r) ∙ some_from m.names _ t lt
    (is_first (derivative_count m r.left) (derivative_gap m S r t) ∙ some_from (derivative_count m r.left) _ i li
    (is_first (subset_count m r t i) (subset_gap m S r t i)
    ∙ some_from (subset_count m r t i) _ k (when_below (m.covers (derivative m r.left i).0 t) (2 ^ length (known m t r.right.bits)) k covered below) here))

pub gap_exact : (m : Machine) (S : Row → Bool) (r : Row) → wide m r ≡ false → is_some (first_gap m S r) ≡ gap m S r
gap_exact m S r narrow = same_test _ _ (found_gap m S r narrow) (gap_found m S r narrow)
