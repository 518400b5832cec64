use Rattle.std.proofs.Common.{sym, ◌∙◌, arith}
use Rattle.sides.specs.View.{seen}
use Rattle.marking.proofs.Turns.{used_below, step_new, unmarked}
use Rattle.search.proofs.met.MetRows.mark_row.Goals as goal

pub bounds-items-used : goal.bounds-items-used
bounds-items-used c =
    let h = used_below (seen c.args.self.now.setting.now) c.args.self.now.rows.now c.args.marks.now c.args.items.now c.args.used c.args.i c.requires.ready c.requires.row
    (unmarked c.args.marks.now c.args.i (sym c.is_some.ensures ∙ c.if-is_some.false)) in
    let g = c.requires.ready.roomy.items_long in
    omega arith

pub returns-in-Some : goal.returns-in-Some
returns-in-Some c =
    step_new (seen c.args.self.now.setting.now) c.args.self.now.rows.now c.args.i c.args.marks.now c.args.items.now c.args.used c.in-Some.item
    c.requires.ready c.requires.row (unmarked c.args.marks.now c.args.i (sym c.is_some.ensures ∙ c.if-is_some.false)) (sym c.in-Some.ensures)
