use Rattle.std.proofs.Common.{◌≡◌, ◌-◌, ◌<◌, ◌≤◌, List, ◌++◌, map, length, take, replicate, sym, ap, ap₂, ◌∙◌, arith}
use Rattle.std.specs.Option.{is_some}
use Rattle.std.proofs.lemmas.List.{length-take-le, take_all}
use Rattle.model.specs.declared.rows.Row.{Row}
use Rattle.model.specs.Blank.{blank_row}
use Rattle.inequality.specs.Verdicts.{unmarked}
use Rattle.sides.specs.View.{seen}
use Rattle.marking.specs.Marks.{flags}
use Rattle.marking.proofs.Turns.{unmarked as no_mark}
use Rattle.search.proofs.Deciding.{decide_excluded, decide_included}
use Rattle.search.proofs.answer.decide.Goals as goal

pub returns-then-is_some : goal.returns-then-is_some
returns-then-is_some c =
    let m = seen c.args.setting.now in
    let rows = c.args.rows.now in
    let met = take c.args.count rows in
    let used = c.settle-used.result in
    let items = c.settle-used.new.items in
    let long : length met ≡ c.args.count = length-take-le c.args.count rows c.requires.within in
    let some : 0 < length met = omega (arith, long, c.requires.some) in
    let all : length rows - 0 ≡ length rows = omega arith in (
      sym long,
      decide_excluded m met c.settle-used.new.marks items used (length rows) (length c.args.items.now) some c.requires.sided c.settle-used.ensures
          c.blank_from.new.records c.blank_from-then-is_some.new.records (sym c.is_some.ensures ∙ c.if-is_some.true)
          (c.blank_from.ensures ∙ ap₂ replicate all c.blank.ensures)
          (c.blank_from-then-is_some.ensures
          ∙ ap₂ (λ k b. take used items ++ replicate (k - used) b) c.settle-used.auto.items c.blank-then-is_some.ensures),
    )

pub returns : goal.returns
returns c =
    let m = seen c.args.setting.now in
    let rows = c.args.rows.now in
    let met = take c.args.count rows in
    let items = c.settle-used.new.items in
    let marks = c.settle-used.new.marks in
    let keep = c.keep_unmarked-records in
    let long : length met ≡ c.args.count = length-take-le c.args.count rows c.requires.within in
    let some : 0 < length met = omega (arith, long, c.requires.some) in
    let enough : c.args.count ≤ length marks = omega (arith, long, c.settle-used.ensures.ready.roomy.marks_long) in
    let n : length (take c.args.count marks) ≡ c.args.count = length-take-le c.args.count marks enough in
    let fits : length (take c.args.count marks) ≤ length (take c.args.count marks) = omega arith in
    let same : unmarked (take (length (take c.args.count marks)) rows) (flags (take c.args.count marks) (length (take c.args.count marks)))
    ≡ unmarked met (flags marks (length met)) =
    ap₂ unmarked (ap (λ k. take k rows) n)
    (ap (map is_some) (take_all _ (take c.args.count marks) fits) ∙ ap (λ k. map is_some (take k marks)) (sym long)) in
    let all : length items - 0 ≡ length c.args.items.now = omega (arith, c.settle-used.auto.items) in (
      sym long,
      decide_included m met marks items c.settle-used.result (length rows) (length c.args.items.now) some c.requires.sided c.settle-used.ensures
          keep.result c.blank_from-2.new.records c.blank_from-3.new.records (no_mark marks 0 (sym c.is_some.ensures ∙ c.if-is_some.false))
          (keep.ensures.number ∙ ap length same)
          (c.blank_from-2.ensures
          ∙ ap₂ (λ (l : List Row) (b : Row). l ++ replicate (length keep.new.rows - keep.result) b) (keep.ensures.kept ∙ same) c.blank-2.ensures
          ∙ ap (λ k. unmarked met (flags marks (length met)) ++ replicate (k - keep.result) blank_row) keep.auto.rows)
          (c.blank_from-3.ensures ∙ ap₂ replicate all c.blank-3.ensures),
    )
