use Rattle.std.proofs.Common.{◌^◌, ◌<◌, ◌∙◌, arith}
use Rattle.std.proofs.lemmas.Bool.{le-leb}
use Rattle.writing.proofs.Checked.{fits_few, fits_all}
use Rattle.writing.proofs.check.row_fits.Goals as goal

pub returns-else-states-ge128 : goal.returns-else-states-ge128
returns-else-states-ge128 c = fits_few c.args.states c.args.row c.if-row-states.true c.if-states-ge128.false

pub returns-then-states-ge128 : goal.returns-then-states-ge128
returns-then-states-ge128 c =
    let small : c.args.row.right.bits < 2 ^ 128 = omega arith in
    le-leb 128 c.args.states c.if-states-ge128.true ∙ fits_all c.args.states c.args.row c.if-row-states.true c.if-states-ge128.true small
