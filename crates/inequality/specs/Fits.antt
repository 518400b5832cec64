-- Machines whose tables fit, and witnesses against an inequality.
use Rattle.std.specs.Prelude.{◌≡◌, ℕ, ◌<◌, ◌≤◌, true, false, not, length, slice_index_or}
use Rattle.model.specs.declared.rows.Row.{Row}
use Rattle.model.specs.Sets.{has}
use Rattle.theory.specs.Hedge.{Hedge, item}
use Rattle.theory.specs.Machine.{Machine, accepts}
use Rattle.theory.specs.Inequality.{derivative, derivative_count, pairs, bit, either_or}

-- A machine fits: it has at most 128 states, and the content and the rest of every derivative are
-- states.
abbrev pub Fits : Machine → Type 0
Fits m = (length m.states ≤ 128) × ((q i : ℕ) → i < derivative_count m q →
    ((derivative m q i).1 < length m.states) × ((derivative m q i).2 < length m.states))

-- Only names of the machine are covered.
abbrev pub Named : Machine → Type 0
Named m = (h t : ℕ) → m.covers h t ≡ true → t < m.names

-- A witness against an inequality: the left has the hedge, and no state on the right has it.
abbrev pub Witness : Machine → Row → Hedge → Type 0
Witness m r h = (accepts m h r.left ≡ true) ×
    ((q : ℕ) → has r.right.bits q ≡ true → accepts m h q ≡ false)

-- The subset of the pairs under a name t whose content does not have the hedge v.
abbrev pub Without : Machine → ℕ → ℕ → Hedge → ℕ → Type 0
Without m t s v k = (i : ℕ) → i < length (pairs m t s) →
    bit k i ≡ not (accepts m v (slice_index_or (pairs m t s) i (0, 0)).0)

-- The subset rule: where an item t with v inside, followed by w, is a witness through a derivative
-- of the left, the either-or of that derivative and of the subset of the pairs whose content does
-- not have v has v for a witness against its content side and w for one against its rest side.
abbrev pub SubsetRule : Machine → Type 0
SubsetRule m = (r : Row) (t i k : ℕ) (v w : Hedge) → i < derivative_count m r.left →
    accepts m v (derivative m r.left i).1 ≡ true → accepts m w (derivative m r.left i).2 ≡ true →
    ((q : ℕ) → has r.right.bits q ≡ true → accepts m (item t v w) q ≡ false) →
    Without m t r.right.bits v k →
    Witness m (either_or (derivative m r.left i) (pairs m t r.right.bits) k).content v
    × Witness m (either_or (derivative m r.left i) (pairs m t r.right.bits) k).rest w
