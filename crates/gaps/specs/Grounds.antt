-- What the rows of a sheet and the settled pairs show.
use Rattle.std.specs.Prelude.{Bool}
use Rattle.model.specs.declared.rows.Row.{Row}
use Rattle.ledger.specs.Settled.{at}
use Rattle.gaps.specs.declared.grounds.Grounds.{Grounds}
use Rattle.gaps.specs.Shows.{shown}

-- whether a side is shown on these grounds
abbrev pub shown_on : Grounds → Row → Bool
shown_on g = shown (at g.ledger.now) g.rules g.rows.now
