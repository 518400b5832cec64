-- What a register stands on, as tables and as a machine.
use Rattle.sides.specs.View.{view}
use Rattle.tables.specs.Plain.{Plain, plain}
use Rattle.theory.specs.Machine.{Machine}
use Rattle.register.specs.declared.basis.Basis.{Basis}

-- the tables of its grammar
abbrev pub tables_of : Basis → Plain
tables_of b = plain b.grammar.now.tables

-- its grammar's states, and which name covers which
abbrev pub machine_of : Basis → Machine
machine_of b = view b.grammar.now.machine b.covers
