use Rattle.std.proofs.Common.{◌≡◌, ◌+◌, drop}
use Rattle.sides.specs.View.{seen}
use Rattle.gaps.specs.Grounds.{shown_on}
use Rattle.judge.specs.Judgement.{first_fault}
use Rattle.judge.proofs.rows.judge_rows.Given as goal

abbrev pub invariant-loop-i : goal.invariant-loop-i
invariant-loop-i l = first_fault (seen l.setting) (shown_on l.grounds) (l.i + 3) (drop l.i l.grounds.rows.now)
    ≡ first_fault (seen l.setting) (shown_on l.grounds) 3 l.grounds.rows.now
