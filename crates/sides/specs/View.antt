-- The machine that the tables of a program stand for.
use Rattle.std.specs.Prelude.{ℕ, Bool, false, List, [], map, length, vec_items, slice_index_or}
use Rattle.model.specs.declared.machine.Machine.{Machine as States}
use Rattle.model.specs.Machine.{states_of}
use Rattle.theory.specs.Machine.{Machine}
use Rattle.sides.specs.declared.covers.Covers.{Covers}
use Rattle.sides.specs.declared.setting.Setting.{Setting}

-- for each name in order, whether it covers each name
abbrev pub table_of : Covers → List (List Bool)
table_of c = map vec_items (vec_items c.table)

-- the number of names
abbrev pub names_of : Covers → ℕ
names_of c = length (table_of c)

-- whether h covers t
abbrev pub covers_of : Covers → ℕ → ℕ → Bool
covers_of c h t = slice_index_or (slice_index_or (table_of c) h []) t false

-- the states, the number of names, and which name covers which
abbrev pub view : States → Covers → Machine
view m c = record { states = states_of m; names = names_of c; covers = covers_of c }

-- the same of a setting
abbrev pub seen : Setting → Machine
seen s = view s.machine.now s.covers.now
