use Rattle.std.proofs.Common.{Err, sym, ap, ◌∙◌, subst}
use Rattle.std.proofs.lemmas.Result.{err_from_is_err_and}
use Rattle.tables.specs.Plain.{plain}
use Rattle.load.specs.Loads.{Loads}
use Rattle.load.proofs.Loading.{loaded_from, failed_from, mapped_ok, mapped_err}
use Rattle.states.specs.Build.{Built}
use Rattle.load.proofs.load.load.Goals as goal

pub invariant_of-result : goal.invariant_of-result
invariant_of-result c =
    let is = mapped_ok c.build.result c.map_err.result c.in_ok-machine.machine _ c.map_err.ensures.cases c.in_ok-machine.was in
    record {
      loaded = ∣ loaded_from (plain c.in_ok-tables.tables) c.nodes.result.now c.bodies.result.now c.in_ok-machine.machine
          c.nodes.ensures c.bodies.ensures c.in_ok-tables.ensures.lawful (subst (Built c.nodes.result.now c.bodies.result.now) is c.build.ensures) ∣₁;
    }

pub returns-in_err-machine : goal.returns-in_err-machine
returns-in_err-machine c =
    let text = c.args.text.now in
    let told = mapped_err c.build.result c.map_err.result c.in_err-machine.field-0.0 _ c.map_err.ensures.cases c.in_err-machine.was in
    let p = err_from_is_err_and c.from_residual-in_err-machine.result c.from_residual-in_err-machine.ensures.1 in
    subst (Loads text) (sym (p.1 ∙ ap Err (p.2 ∙ told.2)))
    (failed_from text (plain c.in_ok-tables.tables) c.nodes.result.now c.bodies.result.now c.rule_lines-lines.result.now told.0
    (sym c.in_ok-tables.ensures.exact) c.nodes.ensures c.bodies.ensures c.rule_lines-lines.ensures
    (subst (Built c.nodes.result.now c.bodies.result.now) told.1 c.build.ensures))
