use Rattle.std.proofs.Common.{◌≡◌, None}
use Rattle.sides.specs.View.{seen}
use Rattle.gaps.specs.Grounds.{shown_on}
use Rattle.gaps.specs.Gaps.{first, subset_gap, derivative_gap, name_gap}
use Rattle.gaps.proofs.gap.find_gap.Given as goal

abbrev pub invariant-loop-subset : goal.invariant-loop-subset
invariant-loop-subset l = first l.subset (subset_gap (seen l.setting) (shown_on l.grounds) l.row l.name l.i) ≡ None

abbrev pub invariant-loop-i : goal.invariant-loop-i
invariant-loop-i l = first l.i (derivative_gap (seen l.setting) (shown_on l.grounds) l.row l.name) ≡ None

abbrev pub invariant-loop-name : goal.invariant-loop-name
invariant-loop-name l = first l.name (name_gap (seen l.setting) (shown_on l.grounds) l.row) ≡ None
