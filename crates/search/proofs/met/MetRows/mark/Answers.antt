use Rattle.std.proofs.Common.{None, sym, ◌∙◌, arith}
use Rattle.search.proofs.Looking.{mark_there, mark_none}
use Rattle.search.proofs.met.MetRows.mark.Goals as goal

pub returns-in_err-place : goal.returns-in_err-place
returns-in_err-place c = c.from_residual.ensures ∙ mark_none c.args.self.now.rows.now c.args.marks.now c.args.row.now (sym c.in_err-place.was ∙ c.find.ensures)

pub returns-in_err-get : goal.returns-in_err-get
returns-in_err-get c = c.from_residual-in_err-get.ensures ∙ c.in_err-get.ensures.lookup.4 (omega arith) None
    ∙ mark_there c.args.self.now.rows.now c.args.marks.now c.args.row.now c.in_ok-place.place (sym c.in_ok-place.was ∙ c.find.ensures)

pub returns : goal.returns
returns c = c.in_ok-get.ensures.lookup.4 (omega arith) None
    ∙ mark_there c.args.self.now.rows.now c.args.marks.now c.args.row.now c.in_ok-place.place (sym c.in_ok-place.was ∙ c.find.ensures)
