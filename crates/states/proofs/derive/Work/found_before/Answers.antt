use Rattle.std.proofs.Common.{◌≡◌, IfSome, Some, None, refl, arith, ◌∙◌, sym}
use Rattle.states.specs.Derive.{Went}
use Rattle.states.proofs.Going.{went_past, went_known}
use Rattle.states.proofs.derive.Work.found_before.Goals as goal

pub returns-then-node-len-clause-known : goal.returns-then-node-len-clause-known
returns-then-node-len-clause-known c =
    let ok = c.args.self.now.expressions.nodes.ok.0 in
    went_past c.args.self.now c.args.rule c.args.node c.default.result (omega arith) c.default.ensures

pub returns-clause-known : goal.returns-clause-known
returns-clause-known c =
    let w = c.args.self.now in
    let r = c.args.rule in
    let i = c.args.node in
    let ok = w.expressions.nodes.ok.0 in
    let few = w.expressions.fine.0 in
    elim c.get.result as (λ o. c.get.result ≡ o → IfSome o (λ s. Went w w r i s)) [
      | None ↦ λ e. tt
      | Some s ↦ λ e. went_known w r i s (omega arith) (sym e ∙ c.get.ensures)
    ] refl
