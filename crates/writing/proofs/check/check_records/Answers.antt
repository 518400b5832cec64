use Rattle.std.proofs.Common.{Err, sym, ap, ◌∙◌, arith}
use Rattle.writing.proofs.Checked.{check_refused, check_passed, check_ended}
use Rattle.writing.proofs.check.check_records.Goals as goal

pub returns-then-not-fits : goal.returns-then-not-fits
returns-then-not-fits g c =
    let fits = g.R.Record.fits_after c.args.bounds.states c.args.bounds.names.now in
    ap (λ e. Err e) c.into.ensures
    ∙ sym (check_refused fits c.args.records.now c.first-record-items.result.now c.loop-i.i c.args.count c.record-item.result c.first-record-items.ensures c.loop-i-test.true c.record-item.is c.if-not-fits.ensures)
    ∙ c.loop-i.invariant

pub loop-i-preserved : goal.loop-i-preserved
loop-i-preserved g c =
    let fits = g.R.Record.fits_after c.args.bounds.states c.args.bounds.names.now in
    sym (check_passed fits c.args.records.now c.first-record-items.result.now c.loop-i.i c.args.count c.record-item.result c.first-record-items.ensures c.loop-i-test.true c.record-item.is c.if-not-fits.ensures) ∙ c.loop-i.invariant

pub returns : goal.returns
returns g c =
    let fits = g.R.Record.fits_after c.args.bounds.states c.args.bounds.names.now in
    c.ensure.ensures
    ∙ sym (check_ended fits c.args.records.now c.first-record-items.result.now c.loop-i.i c.args.count c.first-record-items.ensures (omega (arith, c.loop-i-test.false, c.loop-i.auto)))
    ∙ c.loop-i.invariant
