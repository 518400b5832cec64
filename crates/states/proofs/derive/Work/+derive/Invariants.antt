use Rattle.expressions.specs.Numbers.{rank}
use Rattle.states.proofs.derive.Work.+derive.Given as goal

abbrev pub decreases-derive : goal.decreases-derive
decreases-derive l = rank l.rule l.node
