-- Which states have the hedge of each item: a table of state sets, computed item by item.
use Rattle.std.specs.Prelude.{◌≡◌, ℕ, zero, suc, ◌<◌, ◌≤◌, Bool, true, cond, ◌&&◌, ◌↔◌, List, [], ◌∷◌, ◌++◌, length, slice_index_or}
use Rattle.model.specs.declared.rows.Item.{Item}
use Rattle.model.specs.Sets.{has, insert}
use Rattle.model.specs.Machine.{nullable_at}
use Rattle.theory.specs.Hedge.{nothing}
use Rattle.theory.specs.Language.{Expr, rule, In}
use Rattle.theory.specs.Count.{some}
use Rattle.theory.specs.Items.{hedges, spelled}
use Rattle.theory.specs.Machine.{Machine, accepts}
use Rattle.theory.specs.Inequality.{derivative, derivative_count}
use Rattle.theory.specs.Stands.{Stands}

-- the set of the states below n that pass p
abbrev pub gather : ℕ → (ℕ → Bool) → ℕ
gather zero p = 0
gather (suc n) p = cond (p n) (insert (gather n p) n) (gather n p)

-- the states that have the empty hedge
unfoldable pub nullable_set : Machine → ℕ
nullable_set m = gather (length m.states) (nullable_at m.states)

-- whether the derivative number i of q allows an item t with a hedge inside that the states of
-- `inside` have, before one that the states of `following` have
unfoldable pub allows : Machine → ℕ → ℕ → ℕ → ℕ → ℕ → Bool
allows m t inside following q i = m.covers (derivative m q i).0 t &&
    (has inside (derivative m q i).1 && has following (derivative m q i).2)

-- whether some derivative of q does
unfoldable pub takes : Machine → ℕ → ℕ → ℕ → ℕ → Bool
takes m t inside following q = some (derivative_count m q) (allows m t inside following q)

-- the states that have the hedge number k, by the sets of the numbers so far; a number that is not
-- there stands for the empty hedge
unfoldable pub set_at : Machine → List ℕ → ℕ → ℕ
set_at m before k = slice_index_or before k (nullable_set m)

-- the states that have the hedge that begins at an item
unfoldable pub item_set : Machine → List ℕ → Item → ℕ
item_set m before i = gather (length m.states)
    (takes m i.name (set_at m before i.child) (set_at m before i.next))

-- the sets of all numbers so far, and of each item after them
abbrev pub tabling : Machine → List ℕ → List Item → List ℕ
tabling m before [] = before
tabling m before (i ∷ items) = tabling m (before ++ item_set m before i ∷ []) items

-- for each hedge number the states that have it: 0 is the empty hedge, k begins at item k
unfoldable pub state_sets : Machine → List Item → List ℕ
state_sets m items = tabling m (nullable_set m ∷ []) items

-- whether the state q has the hedge that items spell
unfoldable pub has_spelled : Machine → List Item → ℕ → Bool
has_spelled m items q = has (set_at m (state_sets m items) (length items)) q

-- the set of each number has exactly the states that accept its hedge
abbrev pub TableLaw : Type 0
TableLaw = (m : Machine) (items : List Item) → length m.states ≤ 128 → (k q : ℕ) →
    has (set_at m (state_sets m items) k) q ≡ accepts m (slice_index_or (hedges items) k nothing) q

-- membership of the hedge that items spell
abbrev pub MembershipLaw : Type 0
MembershipLaw = (m : Machine) (items : List Item) → length m.states ≤ 128 → (q : ℕ) →
    has_spelled m items q ≡ accepts m (spelled items) q

-- the membership test of a rule: its state has the hedge that items spell exactly when the rule has
abbrev pub RuleMembership : Type 0
RuleMembership = (bodies : ℕ → Expr) (rules : ℕ) (m : Machine) (exprs : List Expr) →
    Stands bodies rules m.states exprs → length m.states ≤ 128 →
    (items : List Item) (k : ℕ) → k < rules →
    (has_spelled m items k ≡ true) ↔ In bodies m.covers (rule k) (spelled items)
