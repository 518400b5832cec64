use Rattle.search.proofs.Filling.{Keeping}
use Rattle.search.proofs.blank.keep_unmarked.Given as goal

abbrev pub invariant-loop-i : goal.invariant-loop-i
invariant-loop-i l = Keeping l.initial.rows l.rows l.marks l.i l.place
