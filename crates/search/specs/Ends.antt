-- How a meeting ended, as the program says it.
use Rattle.std.specs.Prelude.{List, Result, Ok, Err}
use Rattle.model.specs.declared.rows.Row.{Row}
use Rattle.theory.specs.Meeting.{End as Ended, all, wide_row, out_of_rows, Met as Meeting}
use Rattle.sides.specs.declared.entering.Stop.{Stop}
use Rattle.sides.specs.declared.entering.Stop.TheVariants.{Wide, OutOfRows}

-- all reachable inequalities have a row, a wide one was taken, or one more had no row
abbrev pub end_of : Result Unit Stop → Ended
end_of (Ok _) = all
end_of (Err Wide) = wide_row
end_of (Err OutOfRows) = out_of_rows

-- a meeting from its end and its rows
abbrev pub met_by : Result Unit Stop → List Row → Meeting
met_by e rows = record { end = end_of e; rows = rows }
