-- What a sheet's fault tells: its number, its line and its layer.
use Rattle.text.specs.declared.fault.Layer.TheVariants.{Sheet}
use Rattle.text.specs.declared.fault.Told.{Told}
use Rattle.records.specs.declared.fault.CallFault.TheVariants.{Room}
use Rattle.records.specs.Faults.{call_told}
use Rattle.judge.specs.declared.fault.SheetFault.{SheetFault}
use Rattle.judge.specs.declared.fault.SheetFault.TheVariants.{Call, Root, Inconsistent, Gap, Wide, Witness}

-- a sheet's fault: a call's fault whole, 10 row 0 is not the root, 11 an inconsistent row, 12 a gap,
-- 13 a wide row, 14 a hedge that is no witness
abbrev pub sheet_told : SheetFault → Told
sheet_told (Call f) = call_told f
sheet_told Root = record { cause = 10; at_line = 2; found_by = Sheet }
sheet_told (Inconsistent n) = record { cause = 11; at_line = n; found_by = Sheet }
sheet_told (Gap n) = record { cause = 12; at_line = n; found_by = Sheet }
sheet_told (Wide n) = record { cause = 13; at_line = n; found_by = Sheet }
sheet_told Witness = record { cause = 14; at_line = 2; found_by = Sheet }

-- the working memory has no room for the items
abbrev pub no_memory : SheetFault
no_memory = Call (Room 0)
