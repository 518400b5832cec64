use Rattle.std.proofs.Common.{arith}
use Rattle.std.proofs.lemmas.Grind.{common_steps}
use Rattle.search.proofs.blank.blank_from.Goals as goal

pub returns : goal.returns
returns g c = let h = c.loop-record.auto in let k = c.loop-record-test.false in let i = c.loop-record.invariant in grind (arith, common_steps)
