use Rattle.std.proofs.Common.{◌≡◌, ◌++◌, None}
use Rattle.sides.specs.Left.{left_of}
use Rattle.search.proofs.Finding.{item_at, found}
use Rattle.search.proofs.met.MetRows.of_name.Given as goal

abbrev pub invariant-loop-sides : goal.invariant-loop-sides
invariant-loop-sides l = record {
  none : found (item_at l.self.rows.now l.marks l.t) l.yielded ≡ None;
  rest : l.yielded ++ left_of l.sides-iterator ≡ left_of l.initial.sides-iterator;
}
