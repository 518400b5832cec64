-- What is allowed at a record's place.
use Rattle.std.specs.Prelude.{◌≡◌, ℕ, ◌^◌, ◌<◌, ◌≤◌, Bool, true, false, ◌&&◌, ◌||◌, List, length, ◌==◌, nat_le, nat_lt, slice_index_or}
use Rattle.model.specs.declared.names.Kind.{Kind}
use Rattle.model.specs.declared.names.Kind.TheVariants.{Simple, Element}
use Rattle.model.specs.declared.names.Name.{Name}
use Rattle.model.specs.declared.rows.Row.{Row}
use Rattle.model.specs.declared.rows.Item.{Item}
use Rattle.model.specs.Relation.{kind_of}
use Rattle.model.specs.Sets.{has}
use Rattle.model.specs.Blank.{blank_item}
use Rattle.records.specs.declared.sheet.Step.{Step}
use Rattle.records.specs.declared.sheet.Step.TheVariants.{Opened, Begun, Paired, Row as a_row, Item as an_item, Ended as the_end}

-- whether a kind is that of elements
abbrev pub is_element : Kind → Bool
is_element Simple = false
is_element Element = true

-- whether t is an element name
abbrev pub element : List Name → ℕ → Bool
element names t = is_element (kind_of names t)

-- an item after k others: its name is a name, child and next are earlier, a simple name has no child
abbrev pub item_fits : List Name → ℕ → Item → Bool
item_fits names k i =
    nat_lt i.name (length names) && nat_le i.child k && nat_le i.next k && (i.child == 0 || element names i.name)

-- a row of states: its left state and all its right states are below the number of states
pub record RowFits (states : ℕ) (r : Row) : Type 0 where
  pub left_state : r.left < states
  pub right_bits : r.right.bits < 2 ^ states
  pub right_states : (q : ℕ) → has r.right.bits q ≡ true → q < states

-- an item after k others, in the words of its parts
pub record ItemSound (names : List Name) (k : ℕ) (i : Item) : Type 0 where
  pub named : i.name < length names
  pub child_earlier : i.child ≤ k
  pub next_earlier : i.next ≤ k
  pub simple_empty : kind_of names i.name ≡ Simple → i.child ≡ 0

-- the items of a list fit their places
abbrev pub ItemsFit : List Name → List Item → Type 0
ItemsFit names items = (k : ℕ) → k < length items → item_fits names k (slice_index_or items k blank_item) ≡ true

-- the record of a step has its place
abbrev pub HasPlace : ℕ → ℕ → Step → Type 0
HasPlace count room (Opened v) = Unit {0}
HasPlace count room Begun = Unit {0}
HasPlace count room (Paired a b) = Unit {0}
HasPlace count room (a_row r) = count < room
HasPlace count room (an_item i) = count < room
HasPlace count room the_end = Unit {0}
