use Rattle.std.proofs.Common.{◌≡◌, None}
use Rattle.theory.specs.Inequality.{pairs}
use Rattle.sides.specs.View.{seen}
use Rattle.marking.specs.Refutes.{first, of_derivatives}
use Rattle.search.proofs.met.MetRows.refutation.Given as goal

abbrev pub invariant-loop-t : goal.invariant-loop-t
invariant-loop-t l = let m = seen l.self.setting.now in
    first l.t (λ t. of_derivatives m l.self.rows.now l.marks t l.row.left (pairs m t l.row.right.bits)) ≡ None
