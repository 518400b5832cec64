use Rattle.std.proofs.Common.{◌≡◌, ◌+◌, ◌-◌}
use Rattle.theory.specs.Meeting.{meet_on, meet}
use Rattle.book.specs.Feeding.{holds, room, Kept}
use Rattle.sides.specs.View.{seen}
use Rattle.search.proofs.meeting.walk.Given as goal

abbrev pub invariant-loop-row : goal.invariant-loop-row
invariant-loop-row l = record {
  met : meet_on (seen l.setting) (room l.fn.book) (room l.fn.book + 1 - l.taken) l.taken (holds l.book) ≡ meet (seen l.setting) (room l.fn.book) l.fn.root;
  kept : Kept l.fn.book l.book;
}

abbrev pub decreases-loop-row : goal.decreases-loop-row
decreases-loop-row l = room l.fn.book - l.taken
