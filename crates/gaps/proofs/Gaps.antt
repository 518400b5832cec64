-- The steps of the search for a gap.
use Rattle.std.proofs.Common.{◌≡◌, ℕ, ◌^◌, ◌<◌, Bool, true, false, cond, List, length, get_or, take, Some, None, sym, ap, ◌∙◌, ap₂}
use Rattle.std.proofs.lemmas.Bool.{cond-true, cond-false}
use Rattle.model.specs.declared.rows.Row.{Row}
use Rattle.model.specs.Machine.{Derivative, derivatives_at}
use Rattle.theory.specs.Machine.{Machine}
use Rattle.theory.specs.Inequality.{Pair, no_derivative, derivative, derivative_count, pairs, either_or}
use Rattle.sides.specs.Steps.{labelled_by}
use Rattle.inequality.proofs.Lists.{some_none}
use Rattle.gaps.specs.declared.place.Place.{Place}
use Rattle.gaps.specs.Shows.{unshown}
use Rattle.gaps.specs.Gaps.{first, known, subset_gap, subset_count, derivative_gap, name_gap, first_gap}
use Rattle.gaps.proofs.First.{first_none, first_at, first_end}

abbrev place : ℕ → ℕ → ℕ → Place
place t i k = record { name = t; derivative = i; subset = k }

-- the pairs that are looked at
pub known_pairs : (m : Machine) (t s : ℕ) {items ps : List Pair} → items ≡ take 8 (pairs m t s) → ps ≡ items → ps ≡ known m t s
unfolding known
known_pairs m t s is same = same ∙ is

-- what a test of the two sides says of the subset k
told : (m : Machine) (S : Row → Bool) (r : Row) (t i k : ℕ) (ds : List Derivative) (ps : List Pair) (b : Bool) →
    ds ≡ derivatives_at m.states r.left → ps ≡ known m t r.right.bits →
    b ≡ unshown S (either_or (get_or ds i no_derivative) ps k) →
    subset_gap m S r t i k ≡ cond b (Some (place t i k)) None
unfolding subset_gap
told m S r t i k ds ps b same_ds same_ps is =
    ap (λ x. cond x (Some (place t i k)) None)
    (sym (is ∙ ap₂ (λ (xs : List Derivative) (ys : List Pair). unshown S (either_or (get_or xs i no_derivative) ys k)) same_ds same_ps))

pub subset_none : (m : Machine) (S : Row → Bool) (r : Row) (t i k : ℕ) (ds : List Derivative) (ps : List Pair) (b : Bool) →
    ds ≡ derivatives_at m.states r.left → ps ≡ known m t r.right.bits →
    b ≡ unshown S (either_or (get_or ds i no_derivative) ps k) → b ≡ false → subset_gap m S r t i k ≡ None
subset_none m S r t i k ds ps b same_ds same_ps is shown =
    told m S r t i k ds ps b same_ds same_ps is ∙ cond-false b _ _ shown

pub subset_some : (m : Machine) (S : Row → Bool) (r : Row) (t i k : ℕ) (ds : List Derivative) (ps : List Pair) (b : Bool) →
    ds ≡ derivatives_at m.states r.left → ps ≡ known m t r.right.bits →
    b ≡ unshown S (either_or (get_or ds i no_derivative) ps k) → b ≡ true →
    subset_gap m S r t i k ≡ Some (place t i k)
subset_some m S r t i k ds ps b same_ds same_ps is open_one =
    told m S r t i k ds ps b same_ds same_ps is ∙ cond-true b _ _ open_one

-- the number of subsets
pub counted : (m : Machine) (r : Row) (t i n : ℕ) (ds : List Derivative) (number : ℕ) →
    ds ≡ derivatives_at m.states r.left → n ≡ length (known m t r.right.bits) →
    number ≡ cond (m.covers (get_or ds i no_derivative).0 t) (2 ^ n) 0 → number ≡ subset_count m r t i
unfolding subset_count
counted m r t i n ds number same_ds same_n is =
    is ∙ ap₂ (λ (xs : List Derivative) k. cond (m.covers (get_or xs i no_derivative).0 t) (2 ^ k) 0) same_ds same_n

-- no subset is a gap
pub derivative_none : (m : Machine) (S : Row → Bool) (r : Row) (t i k : ℕ) → k ≡ subset_count m r t i →
    first k (subset_gap m S r t i) ≡ None → derivative_gap m S r t i ≡ None
unfolding derivative_gap
derivative_none m S r t i k all none = first_end (subset_gap m S r t i) all none

-- no derivative has a gap
pub name_none : (m : Machine) (S : Row → Bool) (r : Row) (t i : ℕ) → i ≡ derivative_count m r.left →
    first i (derivative_gap m S r t) ≡ None → name_gap m S r t ≡ None
unfolding name_gap
name_none m S r t i all none = first_end (derivative_gap m S r t) all none

-- a name that no label of the left covers has no gap
pub name_unlabelled : (m : Machine) (S : Row → Bool) (r : Row) (t : ℕ) → labelled_by m r.left t ≡ false → name_gap m S r t ≡ None
unfolding name_gap derivative_gap subset_count
name_unlabelled m S r t none = first_none (derivative_gap m S r t) (derivative_count m r.left)
    (λ i lt. ap (λ n. first n (subset_gap m S r t i))
    (cond-false _ _ _ (some_none (derivative_count m r.left) (λ j. m.covers (derivative m r.left j).0 t) none i lt)))

-- no name has a gap
pub gap_none : (m : Machine) (S : Row → Bool) (r : Row) (t : ℕ) → t ≡ m.names →
    first t (name_gap m S r) ≡ None → first_gap m S r ≡ None
unfolding first_gap
gap_none m S r t all none = first_end (name_gap m S r) all none

-- the place found is the first
pub gap_found : (m : Machine) (S : Row → Bool) (r : Row) (t i k : ℕ) →
    t < m.names → first t (name_gap m S r) ≡ None →
    i < derivative_count m r.left → first i (derivative_gap m S r t) ≡ None →
    k < subset_count m r t i → first k (subset_gap m S r t i) ≡ None →
    subset_gap m S r t i k ≡ Some (place t i k) → first_gap m S r ≡ Some (place t i k)
unfolding first_gap name_gap derivative_gap
gap_found m S r t i k lt_t before_t lt_i before_i lt_k before_k here =
    first_at (name_gap m S r) t m.names _ lt_t before_t
    (first_at (derivative_gap m S r t) i _ _ lt_i before_i
    (first_at (subset_gap m S r t i) k _ _ lt_k before_k here))
