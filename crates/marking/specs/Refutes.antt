-- Looking for an either-or both of whose sides are marked. The mark of a row is the number of the
-- hedge that refutes it, where 0 is the empty hedge; a row that is not refuted so far has none.
use Rattle.std.specs.Prelude.{ℕ, zero, suc, ◌^◌, Bool, cond, List, length, Some, None, Option, nat_lt, slice_index_or}
use Rattle.model.specs.declared.rows.Row.{Row}
use Rattle.model.specs.declared.rows.Item.{Item}
use Rattle.model.specs.Machine.{Derivative}
use Rattle.theory.specs.Machine.{Machine}
use Rattle.theory.specs.Inequality.{Pair, same_row, derivative, derivative_count, pairs, either_or}
use Rattle.book.specs.Place.{place}

-- a mark for each row
abbrev pub Marks : Type 0
Marks = List (Option ℕ)

-- the mark of the row that is the same as r, or none where there is no such row
abbrev pub mark_of : List Row → Marks → Row → Option ℕ
mark_of rows marks r = cond (nat_lt (place same_row rows r) (length rows)) (slice_index_or marks (place same_row rows r) None) None

-- the first that f has at a number below n
abbrev pub first : ℕ → (ℕ → Option Item) → Option Item
first zero f = None
first (suc n) f = elim (first n f) [ Some x ↦ Some x | None ↦ f n ]

-- the item t of two marked sides
abbrev pub joined : ℕ → Option ℕ → Option ℕ → Option Item
joined t None b = None
joined t (Some a) None = None
joined t (Some a) (Some b) = Some (record { name = t; child = a; next = b })

-- the item of an either-or both of whose sides are marked
abbrev pub of_subset : List Row → Marks → ℕ → Derivative → List Pair → ℕ → Option Item
of_subset rows marks t d ps k =
    joined t (mark_of rows marks (either_or d ps k).content) (mark_of rows marks (either_or d ps k).rest)

-- the same over all subsets, if the derivative's label covers t
abbrev pub of_covered : (ℕ → ℕ → Bool) → List Row → Marks → ℕ → List Pair → Derivative → Option Item
of_covered covers rows marks t ps d = cond (covers d.0 t) (first (2 ^ length ps) (of_subset rows marks t d ps)) None

-- the same over all derivatives of the state q
abbrev pub of_derivatives : Machine → List Row → Marks → ℕ → ℕ → List Pair → Option Item
of_derivatives m rows marks t q ps = first (derivative_count m q) (λ i. of_covered m.covers rows marks t ps (derivative m q i))

-- the same over all names
abbrev pub refutation : Machine → List Row → Marks → Row → Option Item
refutation m rows marks r = first m.names (λ t. of_derivatives m rows marks t r.left (pairs m t r.right.bits))
