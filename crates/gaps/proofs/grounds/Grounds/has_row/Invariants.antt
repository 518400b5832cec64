use Rattle.gaps.proofs.Linked.{Ahead, up_to}
use Rattle.gaps.proofs.grounds.Grounds.has_row.Given as goal

abbrev pub invariant-loop-next : goal.invariant-loop-next
invariant-loop-next l = Ahead l.side l.self.rows.now l.next

abbrev pub decreases-loop-next : goal.decreases-loop-next
decreases-loop-next l = up_to l.next
