use Rattle.std.proofs.Common.{ℕ, ◌+◌, ◌<◌, List, length, sym, subst₂, arith}
use Rattle.model.specs.declared.rows.Row.{Row}
use Rattle.search.proofs.Filling.{Keeping, keep_skip, keep_take}
use Rattle.search.proofs.blank.keep_unmarked.Goals as goal
use Rattle.search.proofs.blank.keep_unmarked.Goals.{then-is_none, else-is_none}

pub loop-i-preserved : goal.loop-i-preserved
loop-i-preserved c =
    let lm : c.loop-i.i < length c.args.marks.now = omega arith in
    let lr : c.loop-i.i < length c.args.rows.now = omega arith in
    let P : List Row → ℕ → Type 0 = λ rs k. Keeping c.args.rows.now rs c.args.marks.now (c.loop-i.i + 1) k in
    elim c.if-is_none.branch [
      | then-is_none w ↦ subst₂ P (sym w.rows-is) (sym w.place-is)
          (keep_take c.args.rows.now c.loop-i.rows c.args.marks.now c.loop-i.i c.loop-i.place lr lm w.if-is_none.ensures c.loop-i.invariant)
      | else-is_none w ↦ subst₂ P (sym w.rows-is) (sym w.place-is)
          (keep_skip c.args.rows.now c.loop-i.rows c.args.marks.now c.loop-i.i c.loop-i.place lr lm w.if-is_none.ensures c.loop-i.invariant)
    ]
