-- The first gap of a row, by its place among the either-ors.
use Rattle.std.specs.Prelude.{ℕ, zero, suc, ◌^◌, Bool, cond, List, length, take, Some, None, Option}
use Rattle.std.specs.Option.{option_or}
use Rattle.model.specs.declared.rows.Row.{Row}
use Rattle.theory.specs.Machine.{Machine}
use Rattle.theory.specs.Inequality.{Pair, derivative, derivative_count, pairs, either_or}
use Rattle.gaps.specs.declared.place.Place.{Place}
use Rattle.gaps.specs.Shows.{unshown}

-- the first answer among f 0, f 1, up to f (n - 1)
abbrev pub first : {X : Type 0} → ℕ → (ℕ → Option X) → Option X
first zero f = None
first (suc n) f = option_or (first n f) (f n)

-- the pairs that are looked at: the first eight, which are all of them unless the row is wide
unfoldable pub known : Machine → ℕ → ℕ → List Pair
known m t s = take 8 (pairs m t s)

-- the subset k is a gap
unfoldable pub subset_gap : Machine → (Row → Bool) → Row → ℕ → ℕ → ℕ → Option Place
subset_gap m is_shown r t i k =
    cond (unshown is_shown (either_or (derivative m r.left i) (known m t r.right.bits) k))
    (Some (record { name = t; derivative = i; subset = k })) None

-- how many subsets there are: none where the label of the derivative number i does not cover t
unfoldable pub subset_count : Machine → Row → ℕ → ℕ → ℕ
subset_count m r t i =
    cond (m.covers (derivative m r.left i).0 t) (2 ^ length (known m t r.right.bits)) 0

-- the first gap of the name t and the derivative number i of the left, by rising subset
unfoldable pub derivative_gap : Machine → (Row → Bool) → Row → ℕ → ℕ → Option Place
derivative_gap m is_shown r t i = first (subset_count m r t i) (subset_gap m is_shown r t i)

-- the first gap of the name t, by the derivatives of the left in order
unfoldable pub name_gap : Machine → (Row → Bool) → Row → ℕ → Option Place
name_gap m is_shown r t = first (derivative_count m r.left) (derivative_gap m is_shown r t)

-- the first gap of a row, by rising name
unfoldable pub first_gap : Machine → (Row → Bool) → Row → Option Place
first_gap m is_shown r = first m.names (name_gap m is_shown r)
