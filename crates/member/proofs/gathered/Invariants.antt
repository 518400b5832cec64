use Rattle.member.specs.Sets.{Gathered}
use Rattle.member.proofs.gathered.Given as goal

abbrev pub invariant-loop-q : goal.invariant-loop-q
invariant-loop-q g l = Gathered (λ q b. goal.P-post g l.passes q b) l.q l.set.bits
