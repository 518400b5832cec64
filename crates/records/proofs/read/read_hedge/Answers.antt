use Rattle.std.proofs.Common.{length, replicate, ap, ◌∙◌}
use Rattle.model.specs.Blank.{blank_row}
use Rattle.records.specs.Reading.{count_of, hedge_read}
use Rattle.records.proofs.Sound.{answer_more, hedge_sound}
use Rattle.records.proofs.read.read_hedge.Goals as goal

pub returns : goal.returns
returns c =
    let names = c.args.names.now in
    let m = length c.args.rows.now in
    let n = length c.args.items.now in
    let bs = c.args.text.now in
    let R = hedge_read names m n bs in
    let p = c.in_ok-progress.progress in
    let g = c.in_ok-progress.ensures in
    let S = hedge_sound names m n bs p _ _ g.answered g.rows_left g.items_left in
    record {
      read = record { answered = answer_more count_of R p g.answered; rows_left = g.rows_left; items_left = g.items_left };
      rows = S.no_rows ∙ ap (λ k. replicate k blank_row) c.read.auto.rows;
      sound = S;
    }
