use Rattle.std.proofs.Common.{refl, arith}
use Rattle.gaps.specs.Chains.{slot_of}
use Rattle.gaps.proofs.chains.slot.Goals as goal

pub returns : goal.returns
unfolding slot_of
returns c = record { value = refl; below = omega arith }
