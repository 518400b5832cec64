use Rattle.std.proofs.Common.{◌-◌, length}
use Rattle.sides.specs.View.{seen}
use Rattle.marking.specs.Marks.{Rooted}
use Rattle.marking.specs.Steps.{Ready}
use Rattle.search.proofs.met.MetRows.settle.Given as goal

abbrev pub invariant-loop-marks : goal.invariant-loop-marks
invariant-loop-marks l = Ready (seen l.self.setting.now) l.self.rows.now l.marks l.items l.used × Rooted l.marks l.used

abbrev pub decreases-loop-marks : goal.decreases-loop-marks
decreases-loop-marks l = length l.self.rows.now - l.used
