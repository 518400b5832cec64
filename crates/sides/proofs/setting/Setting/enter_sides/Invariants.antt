use Rattle.std.proofs.Common.{true}
use Rattle.theory.specs.Count.{each}
use Rattle.theory.specs.Inequality.{same_row, of_name}
use Rattle.theory.specs.Meeting.{sides_of}
use Rattle.book.specs.Feeding.{Fills}
use Rattle.sides.specs.View.{seen}
use Rattle.sides.proofs.setting.Setting.enter_sides.Given as goal

abbrev pub invariant-loop-t : goal.invariant-loop-t
invariant-loop-t l = Fills same_row l.initial.book l.book (each l.t (λ t. sides_of (of_name (seen l.self) l.row t))) true
