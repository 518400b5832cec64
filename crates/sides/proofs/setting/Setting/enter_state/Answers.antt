use Rattle.std.proofs.Common.{◌<◌, ◌≤◌, List, length, get_or, refl, ap, arith}
use Rattle.model.specs.Machine.{Derivative}
use Rattle.theory.specs.Inequality.{no_derivative, derivative_count, pairs_of}
use Rattle.sides.specs.View.{seen}
use Rattle.sides.specs.Steps.{pair_of, pair_step}
use Rattle.sides.proofs.Failing.{gather_err}
use Rattle.sides.proofs.Gathering.{gather_as, gather_turn, gather_stop, gather_end}
use Rattle.sides.proofs.setting.Setting.enter_state.Goals as goal

pub loop-derivative-preserved : goal.loop-derivative-preserved
loop-derivative-preserved g c =
    let m = seen c.args.self.now in
    gather_turn c.args.pairs.now.items c.loop-derivative.pairs.items c.enter_pair.new.pairs.items (pair_step m c.args.t c.args.q) c.loop-derivative.derivative-index
    c.loop-derivative.invariant
    (gather_as (ap (λ (l : List Derivative). pair_of m.covers c.args.t (get_or l c.loop-derivative.derivative-index no_derivative)) c.derivatives-derivative-items.ensures)
    refl c.in_ok-enter_pair.ensures)

pub returns-in_err-enter_pair : goal.returns-in_err-enter_pair
unfolding pairs_of
returns-in_err-enter_pair g c =
    let m = seen c.args.self.now in
    let lt : c.loop-derivative.derivative-index < derivative_count m c.args.q = omega (arith, ap length c.derivatives-derivative-items.ensures) in
    gather_err c.from_residual.result c.from_residual.ensures.0
    (gather_stop c.args.pairs.now.items c.loop-derivative.pairs.items c.enter_pair.new.pairs.items (pair_step m c.args.t c.args.q) c.loop-derivative.derivative-index _ lt
    c.loop-derivative.invariant
    (gather_as (ap (λ (l : List Derivative). pair_of m.covers c.args.t (get_or l c.loop-derivative.derivative-index no_derivative)) c.derivatives-derivative-items.ensures)
    refl c.in_err-enter_pair.ensures))

pub returns : goal.returns
unfolding pairs_of
returns g c =
    let m = seen c.args.self.now in
    let le : c.loop-derivative.derivative-index ≤ derivative_count m c.args.q = omega (arith, ap length c.derivatives-derivative-items.ensures) in
    let ge : derivative_count m c.args.q ≤ c.loop-derivative.derivative-index = omega (arith, ap length c.derivatives-derivative-items.ensures) in
    gather_end c.args.pairs.now.items c.loop-derivative.pairs.items (pair_step m c.args.t c.args.q) c.loop-derivative.derivative-index _ le ge c.loop-derivative.invariant
