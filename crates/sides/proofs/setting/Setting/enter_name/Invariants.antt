use Rattle.std.proofs.Common.{◌≡◌, ◌++◌, true}
use Rattle.theory.specs.Inequality.{same_row}
use Rattle.book.specs.Feeding.{Fills}
use Rattle.sides.specs.Ors.{rows_of}
use Rattle.sides.specs.Left.{left_of}
use Rattle.sides.proofs.setting.Setting.enter_name.Given as goal

abbrev pub invariant-loop-sides : goal.invariant-loop-sides
invariant-loop-sides l = record {
  fills : Fills same_row l.fn.book l.book (rows_of l.yielded) true;
  rest : l.yielded ++ left_of l.sides-iterator ≡ left_of l.initial.sides-iterator;
}
