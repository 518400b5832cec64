use Rattle.sides.specs.View.{seen}
use Rattle.marking.specs.Steps.{Sweeping}
use Rattle.search.proofs.met.MetRows.sweep.Given as goal

abbrev pub invariant-loop-i : goal.invariant-loop-i
invariant-loop-i l = Sweeping (seen l.self.setting.now) l.self.rows.now l.i l.initial.marks l.marks l.items l.used l.count
