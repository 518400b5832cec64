-- Hedges spelled by items. Items are numbered from 1; an item names the item that begins what is
-- inside it and the one that follows it, both earlier, and 0 stands for the empty hedge.
use Rattle.std.specs.Prelude.{ℕ, ◌<◌, ◌≤◌, List, [], ◌∷◌, ◌++◌, length, get_or}
use Rattle.model.specs.declared.rows.Item.{Item}
use Rattle.model.specs.Blank.{blank_item}
use Rattle.theory.specs.Hedge.{Hedge, nothing, item}

-- the hedge that begins at an item, given the hedges of all numbers before it
abbrev pub from_item : List Hedge → Item → Hedge
from_item before i = item i.name (get_or before i.child nothing) (get_or before i.next nothing)

-- the hedges of all numbers so far, and of each item after them
abbrev pub spelling : List Hedge → List Item → List Hedge
spelling before [] = before
spelling before (i ∷ items) = spelling (before ++ from_item before i ∷ []) items

-- the hedge of every number: 0 is the empty hedge, k the one that begins at item k
abbrev pub hedges : List Item → List Hedge
hedges items = spelling (nothing ∷ []) items

-- the hedge that items spell: the last item is the hedge, and without items it is empty
abbrev pub spelled : List Item → Hedge
spelled items = get_or (hedges items) (length items) nothing

-- each item's child and next are earlier than itself (item k stands at place k - 1)
abbrev pub Earlier : List Item → Type 0
Earlier items = (k : ℕ) → k < length items →
    ((get_or items k blank_item).child ≤ k) × ((get_or items k blank_item).next ≤ k)
