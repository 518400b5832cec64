-- A machine that belongs to a loaded grammar under a lawful name relation.
use Rattle.std.specs.Prelude.{◌≡◌, ℕ, Bool, List, length}
use Rattle.model.specs.Machine.{Plain as State}
use Rattle.model.specs.Relation.{Lawful}
use Rattle.theory.specs.Machine.{Machine}
use Rattle.tables.specs.Plain.{Plain}
use Rattle.load.specs.Loaded.{Loaded}

-- the machine of a grammar's states under a name relation
abbrev pub under : Plain → List State → (ℕ → ℕ → Bool) → Machine
under t states covers = record { states = states; names = length t.names; covers = covers }

-- its states are those of the grammar, its names the grammar's, and which name covers which is lawful
pub record Grounded (t : Plain) (m : Machine) : Type 0 where
  pub loaded : Loaded t m.states
  pub relation : Lawful t.names m.covers
  pub names : m.names ≡ length t.names
