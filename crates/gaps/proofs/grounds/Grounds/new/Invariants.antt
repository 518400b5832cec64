use Rattle.std.proofs.Common.{◌≡◌, length}
use Rattle.gaps.specs.Chains.{Heads, Links}
use Rattle.gaps.proofs.grounds.Grounds.new.Given as goal

abbrev pub invariant-loop-i : goal.invariant-loop-i
invariant-loop-i l = record {
  head_count : length l.heads ≡ 256;
  link_count : length l.links ≡ 512;
  headed : Heads l.rows l.i l.heads;
  linked : Links l.rows l.i l.links;
}
