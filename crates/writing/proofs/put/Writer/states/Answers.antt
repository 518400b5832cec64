use Rattle.std.proofs.Common.{map, decimal, sym, ap, ◌∙◌, arith}
use Rattle.writing.specs.Texts.{further}
use Rattle.writing.proofs.Laid.{wrote_none, wrote_then, wrote_as}
use Rattle.writing.proofs.Spelled.{members_zero, states_with, states_without}
use Rattle.writing.proofs.put.Writer.states.Goals as goal
use Rattle.writing.proofs.put.Writer.states.Goals.{then-contains, else-contains}

pub loop-q-init : goal.loop-q-init
loop-q-init c = wrote_as (sym (ap (λ qs. further (map decimal qs)) (members_zero 0 c.args.set.bits))) (wrote_none _ (omega arith))

pub loop-q-preserved : goal.loop-q-preserved
loop-q-preserved c =
    let q = c.loop-q.q in
    let s = c.args.set.bits in
    elim c.if-contains.branch [
      | then-contains w ↦ rw w.self-is (wrote_as (sym (states_with q s (sym c.contains.ensures ∙ w.if-contains.true))) (wrote_then c.loop-q.invariant w.further.ensures))
      | else-contains w ↦ rw w.self-is (wrote_as (sym (states_without q s (sym c.contains.ensures ∙ w.if-contains.false))) c.loop-q.invariant)
    ]
