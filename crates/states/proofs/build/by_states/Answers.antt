use Rattle.std.proofs.Common.{◌≤◌, length, vec_items, subst, arith}
use Rattle.std.proofs.lemmas.List.{take_all}
use Rattle.states.specs.Build.{Named}
use Rattle.states.proofs.Building.{named_none, named_more}
use Rattle.states.proofs.build.by_states.Goals as goal

pub loop-derivative-init : goal.loop-derivative-init
loop-derivative-init c =
    named_none (vec_items c.args.numbers.now) (vec_items c.new-derivatives.result) c.requires c.new-derivatives.ensures.items

pub loop-derivative-preserved : goal.loop-derivative-preserved
loop-derivative-preserved c =
    named_more (vec_items c.args.numbers.now) (vec_items c.loop-derivative.numbers) (vec_items c.enter.new.records) (vec_items c.enter-in-loop-derivative.new.records)
    c.args.found.now (vec_items c.loop-derivative.derivatives) (vec_items c.push.new.self) c.loop-derivative.derivative-index
    c.in_ok-inside.inside c.in_ok-following.following c.loop-derivative-test.true c.loop-derivative.invariant
    c.in_ok-inside.ensures c.in_ok-following.ensures c.in_ok-push.ensures.items

pub returns : goal.returns
returns c =
    let past : length c.args.found.now ≤ c.loop-derivative.derivative-index = omega arith in
    subst (λ l. Named (vec_items c.args.numbers.now) (vec_items c.loop-derivative.numbers) l (vec_items c.loop-derivative.derivatives))
    (take_all c.loop-derivative.derivative-index c.args.found.now past) c.loop-derivative.invariant
