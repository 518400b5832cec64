-- The state sets of a table, as numbers, and the set of the states that have a spelled hedge.
use Rattle.std.specs.Prelude.{◌≡◌, ℕ, ◌<◌, Bool, List, map, length}
use Rattle.model.specs.declared.sets.StateSet.{StateSet}
use Rattle.model.specs.declared.rows.Item.{Item}
use Rattle.theory.specs.Machine.{Machine}
use Rattle.meaning.specs.Tables.{gather, set_at, state_sets}

abbrev pub bits_of : List StateSet → List ℕ
bits_of sets = map (λ (s : StateSet). s.bits) sets

-- s is the set of the states below n that pass a test, where `gives` says what the test answers
abbrev pub Gathered : (ℕ → Bool → Type 0) → ℕ → ℕ → Type 0
Gathered gives n s = (p : ℕ → Bool) → ((q : ℕ) (b : Bool) → q < n → gives q b → b ≡ p q) → s ≡ gather n p

-- the states that have the hedge that items spell: those of the last number of the table
unfoldable pub spelled_set : Machine → List Item → StateSet
spelled_set m items = record { bits = set_at m (state_sets m items) (length items) }
