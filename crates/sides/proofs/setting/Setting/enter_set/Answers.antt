use Rattle.std.proofs.Common.{◌<◌, ◌≤◌, length, sym, ap, ◌∙◌, arith}
use Rattle.arrayvec.specs.ArrayVec.{ArrayVec}
use Rattle.theory.specs.Inequality.{Pair, all_pairs}
use Rattle.sides.specs.View.{seen}
use Rattle.sides.specs.Steps.{state_step}
use Rattle.sides.proofs.Failing.{gather_err}
use Rattle.sides.proofs.Gathering.{gather_to, gather_when, gather_unless, gather_turn, gather_stop, gather_end}
use Rattle.sides.proofs.setting.Setting.enter_set.Goals as goal
use Rattle.sides.proofs.setting.Setting.enter_set.Goals.{then-contains+in_ok-enter_state, else-contains}

pub loop-q-preserved : goal.loop-q-preserved
loop-q-preserved g c =
    let m = seen c.args.self.now in
    gather_turn c.args.pairs.now.items c.loop-q.pairs.items c.if-contains.pairs.items (state_step m c.args.t c.args.set.now.bits) c.loop-q.q
    c.loop-q.invariant
    (elim c.if-contains.branch [
      | then-contains+in_ok-enter_state w ↦ gather_to (ap (λ (v : ArrayVec Pair). v.items) w.pairs-is)
          (gather_when _ _ _ _ _ (sym c.contains.ensures ∙ w.if-contains.true) w.in_ok-enter_state.ensures)
      | else-contains w ↦ gather_to (ap (λ (v : ArrayVec Pair). v.items) w.pairs-is)
          (gather_unless _ _ _ (sym c.contains.ensures ∙ w.if-contains.false))
    ])

pub returns-in_err-enter_state : goal.returns-in_err-enter_state
unfolding all_pairs
returns-in_err-enter_state g c =
    let m = seen c.args.self.now in
    let lt : c.loop-q.q < length m.states = omega (arith, c.count-q-end.ensures) in
    gather_err c.from_residual.result c.from_residual.ensures.0
    (gather_stop c.args.pairs.now.items c.loop-q.pairs.items c.enter_state.new.pairs.items (state_step m c.args.t c.args.set.now.bits) c.loop-q.q _ lt
    c.loop-q.invariant
    (gather_when _ _ _ _ _ (sym c.contains.ensures ∙ c.if-contains.true) c.in_err-enter_state.ensures))

pub returns : goal.returns
unfolding all_pairs
returns g c =
    let m = seen c.args.self.now in
    let le : c.loop-q.q ≤ length m.states = omega (arith, c.count-q-end.ensures) in
    let ge : length m.states ≤ c.loop-q.q = omega (arith, c.count-q-end.ensures) in
    gather_end c.args.pairs.now.items c.loop-q.pairs.items (state_step m c.args.t c.args.set.now.bits) c.loop-q.q _ le ge c.loop-q.invariant
