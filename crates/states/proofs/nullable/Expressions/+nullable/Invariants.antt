use Rattle.expressions.specs.Numbers.{rank}
use Rattle.states.proofs.nullable.Expressions.+nullable.Given as goal

abbrev pub decreases-nullable : goal.decreases-nullable
decreases-nullable l = rank l.rule l.node
