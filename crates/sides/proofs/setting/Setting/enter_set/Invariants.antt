use Rattle.std.proofs.Common.{true}
use Rattle.theory.specs.Count.{each}
use Rattle.sides.specs.Gathers.{Gathers}
use Rattle.sides.specs.View.{seen}
use Rattle.sides.specs.Steps.{state_step}
use Rattle.sides.proofs.setting.Setting.enter_set.Given as goal

abbrev pub invariant-loop-q : goal.invariant-loop-q
invariant-loop-q g l = Gathers g.row.N l.initial.pairs.items l.pairs.items (each l.q (state_step (seen l.self) l.t l.set.bits)) true
