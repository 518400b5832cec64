use Rattle.std.proofs.Common.{◌≡◌, drop}
use Rattle.tables.specs.Read.{present}
use Rattle.tables.proofs.read.check_mentions.Given as goal

abbrev pub invariant-loop-mention : goal.invariant-loop-mention
invariant-loop-mention l = present l.count (drop l.mention-index l.mentions) ≡ present l.count l.mentions
