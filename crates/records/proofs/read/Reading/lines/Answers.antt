use Rattle.std.proofs.Common.{◌≡◌, ◌+◌, ◌-◌, ◌≤◌, [], length, replicate, Err, sym, refl, ap, ◌∙◌, arith}
use native.Mathlib.Nat.{sub-zero}
use Rattle.std.proofs.lemmas.List.{length-replicate}
use Rattle.std.proofs.lemmas.Result.{err_from_is_err_and, IfOk-from_err}
use Rattle.model.specs.Blank.{blank_row, blank_item}
use Rattle.text.specs.Pieces.{lines}
use Rattle.text.specs.Cursors.{lines_left}
use Rattle.records.specs.Reading.{Found, begun, entered, advanced, row_placed, item_placed, run, padded, finished, answer, itself, rows_in, items_in}
use Rattle.records.specs.Texts.{limits_of, lines_read}
use Rattle.records.proofs.Kept.{Good, says, kept_begun, kept_step, row_goes, item_goes, good_place, lines_few, run_step, run_stop, run_done, end_answer, end_holds}
use Rattle.records.proofs.read.Reading.lines.Goals as goal

pub loop-line-init : goal.loop-line-init
loop-line-init c =
    let L = c.new-judge.result.limits in
    let names = c.new-judge.result.names.now in
    let start = begun c.args.self.stage in
    let few : length (lines c.args.self.text.now) ≤ length c.args.self.text.now = lines_few c.args.self.text.now in
    let same : length (lines_left c.new-reader.result) ≡ length (lines c.args.self.text.now) = ap length c.new-reader.ensures.lines in
    let room : length c.args.rows.now ≡ L.room - 0 = sym (sub-zero L.room ∙ ap (λ k. k.room) c.new-judge.ensures.limits) in (
      start,
      sym c.started-progress.ensures,
      kept_begun L names c.args.self.stage c.args.self.opening,
      c.requires.rows ∙ ap (λ n. replicate n blank_row) room,
      c.requires.items ∙ ap (λ n. replicate n blank_item) room,
      ap (λ n. run L names start n (lines_left c.new-reader.result)) c.new-reader.ensures.count ∙ ap (run L names start 0) c.new-reader.ensures.lines,
      omega (arith, c.new-reader.ensures.count, c.requires.short),
    )

pub returns-in_err-step : goal.returns-in_err-step
returns-in_err-step c =
    let L = c.new-judge.result.limits in
    let names = c.new-judge.result.names.now in
    let f = c.loop-line.invariant.0 in
    let R = lines_read c.args.self (length c.args.rows.now) in
    let same : R ≡ run L names (begun c.args.self.stage) 0 (lines c.args.self.text.now) =
    sym (ap (λ k. run k names (begun c.args.self.stage) 0 (lines c.args.self.text.now)) c.new-judge.ensures.limits ∙ ap (λ ns. run (limits_of c.args.self (length c.args.rows.now)) ns (begun c.args.self.stage) 0 (lines c.args.self.text.now)) c.new-judge.ensures.names) in
    let g = c.in-Some.ensures in
    let stop : R ≡ Err c.in_err-step.field-0.0 =
    same ∙ sym c.loop-line.invariant.5 ∙ run_stop L names f c.loop-line.progress c.loop-line.reader.line c.in-Some.line.number c.in-Some.line.bytes.now _ _ c.in_err-step.field-0.0 c.loop-line.invariant.1 g.given g.counted.0 c.in_err-step.ensures in
    let p = err_from_is_err_and c.from_residual.result c.from_residual.ensures.1 in
    let r : c.from_residual.result ≡ Err c.in_err-step.field-0.0 = p.1 ∙ ap (λ e. Err e) p.2 in
    record {
      answered = r ∙ sym (ap (answer itself) stop);
      rows_left = IfOk-from_err c.from_residual.result _ c.from_residual.ensures.0;
      items_left = IfOk-from_err c.from_residual.result _ c.from_residual.ensures.0;
    }

pub place-requires : goal.place-requires
place-requires c =
    let L = c.new-judge.result.limits in
    let names = c.new-judge.result.names.now in
    let p = c.loop-line.progress in
    let f : Found = record { at = p; rows = []; items = [] } in
    let g = says L names f p c.in-Some.line.number c.in-Some.line.bytes.now c.in_ok-step.step refl c.in_ok-step.ensures in
    let room : L.room ≡ length c.args.rows.now = ap (λ k. k.room) c.new-judge.ensures.limits in
    record {
      rows_room = good_place L names p c.in_ok-step.step (length c.loop-line.rows) (room ∙ sym c.loop-line.auto.rows) g;
      items_room = good_place L names p c.in_ok-step.step (length c.loop-line.items) (room ∙ sym (c.loop-line.auto.items ∙ ap length c.requires.items ∙ length-replicate (length c.args.rows.now) blank_item)) g;
    }

pub advanced-progress-requires : goal.advanced-progress-requires
advanced-progress-requires c =
    let n : c.loop-line.invariant.0.at.count ≡ c.loop-line.progress.count = ap (λ p. p.count) c.loop-line.invariant.1 in
    let m : c.loop-line.invariant.0.at.count ≤ c.new-judge.result.limits.room = c.loop-line.invariant.2.within in
    omega (arith, c.requires.few, ap (λ k. k.room) c.new-judge.ensures.limits)

pub loop-line-preserved : goal.loop-line-preserved
loop-line-preserved c =
    let L = c.new-judge.result.limits in
    let names = c.new-judge.result.names.now in
    let f = c.loop-line.invariant.0 in
    let p = c.loop-line.progress in
    let s = c.in_ok-step.step in
    let g = c.in-Some.ensures in
    let at : f.at ≡ p = c.loop-line.invariant.1 in
    let good : Good L names f.at s = says L names f p c.in-Some.line.number c.in-Some.line.bytes.now s at c.in_ok-step.ensures in
    let left : length (lines_left c.loop-line.reader) ≡ length (lines_left c.next_line.new.self) + 1 = ap length g.given ∙ omega arith in (
      entered f s,
      ap (λ q. advanced q s) at ∙ sym c.advanced-progress.ensures,
      kept_step L names f s c.loop-line.invariant.2 good,
      c.place.ensures.rows ∙ ap (λ q. row_placed q.count c.loop-line.rows s) (sym at) ∙ ap (λ xs. row_placed f.at.count xs s) c.loop-line.invariant.3 ∙ row_goes L names f s blank_row c.loop-line.invariant.2 good,
      c.place.ensures.items ∙ ap (λ q. item_placed q.count c.loop-line.items s) (sym at) ∙ ap (λ xs. item_placed f.at.count xs s) c.loop-line.invariant.4 ∙ item_goes L names f s blank_item c.loop-line.invariant.2 good,
      ap (λ n. run L names (entered f s) n (lines_left c.next_line.new.self)) (g.counted.1 ∙ sym g.counted.0)
          ∙ sym (run_step L names f p c.loop-line.reader.line c.in-Some.line.number c.in-Some.line.bytes.now _ (lines_left c.next_line.new.self) s at g.given g.counted.0 c.in_ok-step.ensures)
          ∙ c.loop-line.invariant.5,
      omega (arith, left, g.counted.1, c.loop-line.invariant.6),
    )

pub returns : goal.returns
returns c =
    let L = c.new-judge.result.limits in
    let names = c.new-judge.result.names.now in
    let f = c.loop-line.invariant.0 in
    let p = c.loop-line.progress in
    let R = lines_read c.args.self (length c.args.rows.now) in
    let same : R ≡ run L names (begun c.args.self.stage) 0 (lines c.args.self.text.now) =
    sym (ap (λ k. run k names (begun c.args.self.stage) 0 (lines c.args.self.text.now)) c.new-judge.ensures.limits ∙ ap (λ ns. run (limits_of c.args.self (length c.args.rows.now)) ns (begun c.args.self.stage) 0 (lines c.args.self.text.now)) c.new-judge.ensures.names) in
    let g = c.in_default.ensures in
    let room : L.room ≡ length c.args.rows.now = ap (λ k. k.room) c.new-judge.ensures.limits in
    let m : c.next_number.result ≡ c.loop-line.reader.line + 1 = c.next_number.ensures ∙ ap (λ n. n + 1) g.counted in
    let done : R ≡ finished c.next_number.result f p.stage =
    same ∙ sym c.loop-line.invariant.5 ∙ run_done L names f p c.loop-line.reader.line c.next_number.result _ c.loop-line.invariant.1 g.given m in
    record {
      answered = c.finish.ensures ∙ end_answer c.next_number.result f p p.stage c.loop-line.invariant.1 ∙ sym (ap (answer itself) done);
      rows_left = end_holds (λ xs. c.loop-line.rows ≡ padded blank_row (length c.args.rows.now) xs) c.next_number.result f p p.stage rows_in c.finish.result R c.finish.ensures done (c.loop-line.invariant.3 ∙ ap (λ n. padded blank_row n f.rows) room);
      items_left = end_holds (λ xs. c.loop-line.items ≡ padded blank_item (length c.args.rows.now) xs) c.next_number.result f p p.stage items_in c.finish.result R c.finish.ensures done (c.loop-line.invariant.4 ∙ ap (λ n. padded blank_item n f.items) room);
    }
