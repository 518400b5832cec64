use Rattle.std.proofs.Common.{true}
use Rattle.theory.specs.Count.{each}
use Rattle.sides.specs.Gathers.{Gathers}
use Rattle.sides.specs.View.{seen}
use Rattle.sides.specs.Steps.{pair_step}
use Rattle.sides.proofs.setting.Setting.enter_state.Given as goal

abbrev pub invariant-loop-derivative : goal.invariant-loop-derivative
invariant-loop-derivative g l = Gathers g.row.N l.initial.pairs.items l.pairs.items (each l.derivative-index (pair_step (seen l.self) l.t l.q)) true
