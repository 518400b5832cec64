use Rattle.std.proofs.Common.{◌≡◌, ◌+◌, take}
use Rattle.meaning.specs.Tables.{state_sets}
use Rattle.sides.specs.View.{seen}
use Rattle.member.specs.Sets.{bits_of}
use Rattle.member.proofs.fill.Given as goal

abbrev pub invariant-loop-k : goal.invariant-loop-k
invariant-loop-k l = take (l.k + 1) (bits_of l.sets) ≡ state_sets (seen l.setting) (take l.k l.items)
