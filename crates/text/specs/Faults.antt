-- What a fault tells: its number, its line and its layer.
use Rattle.text.specs.declared.fault.Told.{Told}
use Rattle.text.specs.declared.fault.Layer.TheVariants.{Line as line_layer, Table as table_layer}
use Rattle.text.specs.declared.fault.LineFault.{LineFault}
use Rattle.text.specs.declared.fault.LineFault.TheVariants.{Form, Number, Spelling}
use Rattle.text.specs.declared.fault.TableFault.{TableFault}
use Rattle.text.specs.declared.fault.TableFault.TheVariants.{Line, Full, Place}

-- a line fault: 1 a wrong form, 2 a malformed number, 3 a malformed or repeated spelling
abbrev pub line_told : LineFault → Told
line_told (Form n) = record { cause = 1; at_line = n; found_by = line_layer }
line_told (Number n) = record { cause = 2; at_line = n; found_by = line_layer }
line_told (Spelling n) = record { cause = 3; at_line = n; found_by = line_layer }

-- a table fault: a line fault whole, 4 one entry too many, 5 a number not allowed at its place
abbrev pub table_told : TableFault → Told
table_told (Line f) = line_told f
table_told (Full n) = record { cause = 4; at_line = n; found_by = table_layer }
table_told (Place n) = record { cause = 5; at_line = n; found_by = table_layer }
