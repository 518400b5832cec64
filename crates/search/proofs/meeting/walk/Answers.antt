use Rattle.std.proofs.Common.{◌≡◌, ◌+◌, ◌-◌, ◌<◌, List, length, get_or, Err, sym, ap, ◌∙◌, arith}
use Rattle.std.proofs.lemmas.Result.{err_from_is_err_and}
use Rattle.model.specs.declared.rows.Row.{Row}
use Rattle.model.specs.Blank.{blank_row}
use Rattle.theory.specs.Meeting.{meet_on}
use Rattle.book.specs.Feeding.{holds, room}
use Rattle.book.proofs.Feeding.{holds_room, kept_more}
use Rattle.sides.proofs.Taking.{took_keeps}
use Rattle.sides.specs.View.{seen}
use Rattle.search.specs.Ends.{met_by}
use Rattle.search.proofs.Walk.{turn_stops, turn_more, meet_start}
use Rattle.search.proofs.meeting.walk.Goals as goal

pub loop-row-init : goal.loop-row-init
loop-row-init c =
    let m = seen c.args.setting.now in
    record {
      met = ap (λ n. meet_on m (room c.args.book.now) n 0 (holds c.put.new.self)) (omega arith)
          ∙ meet_start m c.args.root c.args.book.now c.put.new.self c.requires.empty c.requires.some c.in_ok-put.ensures;
      kept = c.put.ensures.kept;
    }

pub returns-in_err-take_row-clause-met : goal.returns-in_err-take_row-clause-met
returns-in_err-take_row-clause-met c =
    let m = seen c.args.setting.now in
    let book = c.loop-row.book in
    let taken = c.loop-row.taken in
    let inv = c.loop-row.invariant in
    let limit = room c.args.book.now in
    let stop = err_from_is_err_and c.from_residual-in_err-take_row.result c.from_residual-in_err-take_row.ensures.1 in
    let here : taken < length (holds book) = omega (arith, ap length c.records.ensures, c.in-Some.ensures.lookup.3.0) in
    let at : c.in-Some.field-0.now ≡ get_or (holds book) taken blank_row =
    c.in-Some.ensures.lookup.4 (omega arith) blank_row ∙ ap (λ (l : List Row). get_or l taken blank_row) c.records.ensures in
    let more : taken < limit + 1 = omega (arith, here, holds_room book, inv.kept.len) in
    ap (λ e. met_by e (holds c.take_row.new.book)) (stop.1 ∙ ap Err stop.2)
    ∙ turn_stops m (limit + 1) taken book c.take_row.new.book c.in-Some.field-0.now here at more c.in_err-take_row.field-0.0 c.in_err-take_row.ensures
    ∙ ap (λ n. meet_on m n (limit + 1 - taken) taken (holds book)) inv.kept.len
    ∙ inv.met

pub loop-row-preserved : goal.loop-row-preserved
loop-row-preserved c =
    let m = seen c.args.setting.now in
    let book = c.loop-row.book in
    let taken = c.loop-row.taken in
    let inv = c.loop-row.invariant in
    let limit = room c.args.book.now in
    let took = c.in_ok-take_row.ensures in
    let here : taken < length (holds book) = omega (arith, ap length c.records.ensures, c.in-Some.ensures.lookup.3.0) in
    let at : c.in-Some.field-0.now ≡ get_or (holds book) taken blank_row =
    c.in-Some.ensures.lookup.4 (omega arith) blank_row ∙ ap (λ (l : List Row). get_or l taken blank_row) c.records.ensures in
    let more : taken < limit + 1 = omega (arith, here, holds_room book, inv.kept.len) in
    record {
      met = ap (λ n. meet_on m n (limit + 1 - (taken + 1)) (taken + 1) (holds c.take_row.new.book)) (sym inv.kept.len)
          ∙ sym (turn_more m (limit + 1) taken book c.take_row.new.book c.in-Some.field-0.now here at more took.0 took.1)
          ∙ ap (λ n. meet_on m n (limit + 1 - taken) taken (holds book)) inv.kept.len
          ∙ inv.met;
      kept = kept_more c.args.book.now book c.take_row.new.book inv.kept took.1.kept;
    }

pub returns-in_err-take_row-clause-kept : goal.returns-in_err-take_row-clause-kept
returns-in_err-take_row-clause-kept c =
    kept_more c.args.book.now c.loop-row.book c.take_row.new.book c.loop-row.invariant.kept
    (took_keeps (seen c.args.setting.now) c.in-Some.field-0.now c.loop-row.book c.take_row.new.book (Err c.in_err-take_row.field-0.0) c.in_err-take_row.ensures)
