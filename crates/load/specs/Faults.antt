-- What a grammar's fault tells: its number, its line and its layer.
use Rattle.text.specs.declared.fault.Layer.TheVariants.{Grammar}
use Rattle.text.specs.declared.fault.Told.{Told}
use Rattle.text.specs.Faults.{table_told}
use Rattle.load.specs.declared.fault.GrammarFault.{GrammarFault}
use Rattle.load.specs.declared.fault.GrammarFault.TheVariants.{Table, Recursion, Size}

-- a grammar's fault: a table fault whole, 6 unlawful recursion, 7 too large
abbrev pub grammar_told : GrammarFault → Told
grammar_told (Table f) = table_told f
grammar_told (Recursion n) = record { cause = 6; at_line = n; found_by = Grammar }
grammar_told Size = record { cause = 7; at_line = 0; found_by = Grammar }
