use Rattle.std.proofs.Common.{◌≤◌, [], ◌∷◌, length, get_or, take, vec_items, sym, ap, ◌∙◌, arith}
use Rattle.std.proofs.lemmas.List.{take_all, take_more}
use Rattle.theory.specs.Count.{enter, entered}
use Rattle.meaning.proofs.Members.{entered_append}
use Rattle.expressions.specs.Records.{same_derivative}
use Rattle.states.proofs.entering.carry.Goals as goal

pub loop-derivative-preserved : goal.loop-derivative-preserved
loop-derivative-preserved c =
    let before = vec_items c.args.list.now in
    let all = c.args.derivatives.now in
    let k = c.loop-derivative.derivative-index in
    let d = get_or all k (0, 0, 0) in
    c.in_ok-enter.ensures.1
    ∙ ap (λ l. enter same_derivative l d) c.loop-derivative.invariant
    ∙ sym (ap (entered same_derivative before) (take_more all k (0, 0, 0) c.loop-derivative-test.true)
    ∙ entered_append same_derivative before (take k all) (d ∷ []))

pub returns : goal.returns
returns c =
    let past : length c.args.derivatives.now ≤ c.loop-derivative.derivative-index = omega arith in
    c.loop-derivative.invariant
    ∙ ap (entered same_derivative (vec_items c.args.list.now)) (take_all c.loop-derivative.derivative-index c.args.derivatives.now past)
