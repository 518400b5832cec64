-- What a call's fault tells: its number, its line and its layer.
use Rattle.text.specs.declared.fault.Layer.TheVariants.{Call}
use Rattle.text.specs.declared.fault.Told.{Told}
use Rattle.text.specs.Faults.{table_told}
use Rattle.records.specs.declared.fault.CallFault.{CallFault}
use Rattle.records.specs.declared.fault.CallFault.TheVariants.{Table, Rule, Room, Output}

-- a call's fault: a table fault whole, 8 an absent rule, 9 rows or items, 15 the output
abbrev pub call_told : CallFault → Told
call_told (Table f) = table_told f
call_told (Rule n) = record { cause = 8; at_line = n; found_by = Call }
call_told (Room n) = record { cause = 9; at_line = n; found_by = Call }
call_told Output = record { cause = 15; at_line = 0; found_by = Call }
