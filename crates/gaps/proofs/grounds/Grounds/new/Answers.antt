use Rattle.std.proofs.Common.{None, refl, arith}
use Rattle.std.proofs.lemmas.List.{get_or-replicate}
use Rattle.gaps.proofs.grounds.Grounds.new.Goals as goal

pub loop-i-init : goal.loop-i-init
loop-i-init c = record {
  head_count = refl;
  link_count = refl;
  headed = λ h lt. get_or-replicate 256 h None None lt;
  linked = λ j lt. absurd (omega arith);
}
