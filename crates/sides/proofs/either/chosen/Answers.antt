use Rattle.std.proofs.Common.{sym, ◌∙◌}
use Rattle.std.proofs.lemmas.Bool.{le-ltb}
use Rattle.sides.proofs.Subset.{bit_past}
use Rattle.sides.proofs.either.chosen.Goals as goal

pub returns-else-i-lt64 : goal.returns-else-i-lt64
returns-else-i-lt64 c =
    le-ltb c.args.i 64 c.if-i-lt64.false ∙ sym (bit_past c.args.subset c.args.i c.ranges.subset.fits c.if-i-lt64.false)
