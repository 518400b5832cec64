use Rattle.std.proofs.Common.{◌∙◌}
use Rattle.tables.proofs.Steps.{any_has}
use Rattle.tables.proofs.checks.holds.Goals as goal

pub returns : goal.returns
returns c = c.contains.ensures.value ∙ any_has c.args.spelling.now c.args.all.now
