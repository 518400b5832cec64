-- What the marks of a list of rows and the items so far hold.
use Rattle.std.specs.Prelude.{◌≡◌, ℕ, zero, suc, ◌+◌, ◌<◌, ◌≤◌, Bool, true, false, cond, List, map, length, get_or, take, Some, None, Option, slice_index_or}
use Rattle.std.specs.Option.{is_some}
use Rattle.model.specs.declared.rows.Row.{Row}
use Rattle.model.specs.declared.rows.Item.{Item}
use Rattle.model.specs.Blank.{blank_row}
use Rattle.theory.specs.Hedge.{nothing}
use Rattle.theory.specs.Machine.{Machine, accepts}
use Rattle.theory.specs.Inequality.{Refuted, inconsistent, wide}
use Rattle.theory.specs.Items.{hedges, Earlier}
use Rattle.inequality.specs.Fits.{Fits, Witness}
use Rattle.marking.specs.Refutes.{Marks, refutation}

-- the mark of the row number i
abbrev pub mark_at : Marks → ℕ → Option ℕ
mark_at marks i = slice_index_or marks i None

-- 1 where there is no mark, else 0
abbrev pub free : Option ℕ → ℕ
free mark = cond (is_some mark) 0 1

-- how many of the first n rows are not marked
abbrev pub unset : Marks → ℕ → ℕ
unset marks zero = 0
unset marks (suc n) = unset marks n + free (mark_at marks n)

-- the row number i is marked
abbrev pub SetAt : Marks → ℕ → Type 0
SetAt marks i = mark_at marks i ≡ None → ⊥

-- each hedge that an item begins is had by some state
abbrev pub Had : Machine → List Item → Type 0
Had m items = (k : ℕ) → k < length items → (q : ℕ) × (accepts m (slice_index_or (hedges items) (k + 1) nothing) q ≡ true)

-- each hedge that an item begins is had by the left state of some row
abbrev pub LeftHad : Machine → List Row → List Item → Type 0
LeftHad m rows items = (k : ℕ) → k < length items →
    (i : ℕ) × (i < length rows) × (accepts m (slice_index_or (hedges items) (k + 1) nothing) (get_or rows i blank_row).left ≡ true)

-- Marks and items agree: a marked row is refuted, and where the machine's tables fit, the hedge of its
-- mark is a witness against it; inconsistent rows are marked; children and nexts of items are
-- earlier, and each item's hedge is had by some state, the left of some row; there are no more items than marked rows.
pub record Marked (m : Machine) (rows : List Row) (marks : Marks) (items : List Item) : Type 0 where
  pub refuted : (i : ℕ) → i < length rows → SetAt marks i → Refuted m (slice_index_or rows i blank_row)
  pub witness : (i k : ℕ) → i < length rows → mark_at marks i ≡ Some k → Fits m →
      Witness m (slice_index_or rows i blank_row) (slice_index_or (hedges items) k nothing)
  pub known : (i k : ℕ) → i < length rows → mark_at marks i ≡ Some k → k ≤ length items
  pub inconsistent_set : (i : ℕ) → i < length rows → inconsistent m (slice_index_or rows i blank_row) ≡ true → SetAt marks i
  pub earlier : Earlier items
  pub had : Fits m → Had m items
  pub left_had : Fits m → LeftHad m rows items
  pub few : length items + unset marks (length rows) ≤ length rows

-- no row is wide
abbrev pub Narrow : Machine → List Row → Type 0
Narrow m rows = (i : ℕ) → i < length rows → wide m (slice_index_or rows i blank_row) ≡ false

-- no unmarked row from number i on is refuted by marked ones
abbrev pub StillFrom : Machine → List Row → Marks → ℕ → Type 0
StillFrom m rows marks i = (k : ℕ) → i ≤ k → k < length rows → mark_at marks k ≡ None →
    refutation m rows marks (slice_index_or rows k blank_row) ≡ None

-- the first row is not marked, or by the last of so many items
abbrev pub Rooted : Marks → ℕ → Type 0
Rooted marks used = (k : ℕ) → mark_at marks 0 ≡ Some k → k ≡ used

-- whether each of the first n rows is marked
abbrev pub flags : Marks → ℕ → List Bool
flags marks n = map is_some (take n marks)
