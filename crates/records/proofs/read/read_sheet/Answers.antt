use Rattle.std.proofs.Common.{length}
use Rattle.records.specs.Reading.{sheet_of, sheet_read}
use Rattle.records.proofs.Sound.{answer_more, sheet_sound}
use Rattle.records.proofs.read.read_sheet.Goals as goal

pub returns : goal.returns
returns c =
    let names = c.args.bounds.names.now in
    let m = length c.args.rows.now in
    let n = length c.args.items.now in
    let bs = c.args.text.now in
    let R = sheet_read c.args.bounds.rules c.args.bounds.states names m n bs in
    let p = c.in_ok-progress.progress in
    let g = c.in_ok-progress.ensures in
    record {
      read = record { answered = answer_more sheet_of R p g.answered; rows_left = g.rows_left; items_left = g.items_left };
      sound = sheet_sound c.args.bounds.rules c.args.bounds.states names m n bs p _ _ g.answered g.rows_left g.items_left;
    }
