use Rattle.std.proofs.Common.{◌≡◌, ℕ, ◌<◌, cond, get_or, Some, None}
use Rattle.model.specs.Blank.{blank_row}
use Rattle.theory.specs.Inequality.{inconsistent}
use Rattle.sides.specs.View.{seen}
use Rattle.marking.specs.Marks.{mark_at}
use Rattle.search.proofs.met.MetRows.begin.Given as goal

abbrev pub invariant-loop-i : goal.invariant-loop-i
invariant-loop-i l = (k : ℕ) → k < l.i →
    mark_at l.marks k ≡ cond (inconsistent (seen l.self.setting.now) (get_or l.self.rows.now k blank_row)) (Some 0) None
