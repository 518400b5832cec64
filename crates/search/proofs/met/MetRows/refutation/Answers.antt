use Rattle.std.proofs.Common.{ℕ, ◌<◌, Option, sym, arith}
use Rattle.model.specs.declared.rows.Item.{Item}
use Rattle.theory.specs.Inequality.{pairs}
use Rattle.sides.specs.View.{seen, names_of}
use Rattle.marking.specs.Refutes.{of_derivatives}
use Rattle.marking.proofs.First.{first_at}
use Rattle.search.proofs.met.MetRows.refutation.Goals as goal

pub returns-in-Some : goal.returns-in-Some
returns-in-Some c =
    let m = seen c.args.self.now.setting.now in
    let of : ℕ → Option Item = λ t. of_derivatives m c.args.self.now.rows.now c.args.marks.now t c.args.row.now.left (pairs m t c.args.row.now.right.bits) in
    let lt : c.loop-t.t < names_of c.args.self.now.setting.now.covers.now = omega (arith, c.names-t-end.ensures) in
    sym (first_at of c.loop-t.t _ c.in-Some.item lt c.loop-t.invariant (sym c.in-Some.ensures))
