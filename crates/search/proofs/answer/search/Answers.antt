use Rattle.std.proofs.Common.{◌≡◌, ◌≤◌, length, get_or, take, subst, arith}
use Rattle.std.proofs.lemmas.List.{length-take-le}
use Rattle.model.specs.Blank.{blank_row}
use Rattle.sides.specs.View.{seen}
use Rattle.search.specs.Answered.{Decided}
use Rattle.search.proofs.AllMet.{suited, met_some, met_sided, met_roomy, met_decided}
use Rattle.search.proofs.answer.search.Goals as goal

pub decide-requires : goal.decide-requires
decide-requires c =
    let m = seen c.args.setting.now in
    let limit = length c.args.rows.now in
    let fit = suited limit (length c.args.items.now) (length c.args.marks.now) c.requires in
    let met = c.meet-meeting in
    let rows = take met.result.count met.new.rows in
    let le : met.result.count ≤ length met.new.rows = omega (arith, met.ensures.within, met.auto.rows) in
    let long : length rows ≡ met.result.count = length-take-le met.result.count met.new.rows le in
    let some = met_some m limit c.args.root fit.0 met.result.end c.in_default.field-0 c.in_default.is rows met.ensures.met in
    let within : length rows ≤ limit = omega (arith, long, met.ensures.within) in
    record {
      some = omega arith;
      within = le;
      sided = met_sided m limit c.args.root fit.0 met.result.end c.in_default.field-0 c.in_default.is rows met.ensures.met;
      roomy = met_roomy m limit c.args.root fit.0 met.result.end c.in_default.field-0 c.in_default.is rows met.ensures.met
          c.args.marks.now c.args.items.now within fit.1 fit.2 fit.3;
    }

pub returns-in_default : goal.returns-in_default
returns-in_default c =
    let m = seen c.args.setting.now in
    let limit = length c.args.rows.now in
    let fit = suited limit (length c.args.items.now) (length c.args.marks.now) c.requires in
    let met = c.meet-meeting in
    let rows = take met.result.count met.new.rows in
    met_decided m limit c.args.root fit.0 met.result.end c.in_default.field-0 c.in_default.is rows met.ensures.met
    (length c.args.items.now) c.decide.result c.decide.new.rows c.decide.new.items
    (subst (λ k. Decided m rows (get_or rows 0 blank_row) k (length c.args.items.now) c.decide.result c.decide.new.rows c.decide.new.items)
    met.auto.rows c.decide.ensures)
