use Rattle.std.proofs.Common.{◌≡◌, take, replicate}
use Rattle.search.proofs.blank.blank_from.Given as goal

abbrev pub invariant-loop-record : goal.invariant-loop-record
invariant-loop-record g l = take l.record-index l.record-items ≡ replicate l.record-index l.blank
