use Rattle.std.proofs.Common.{◌≡◌, length}
use Rattle.text.specs.Cursors.{fields_left}
use Rattle.records.specs.Lines.{right_states}
use Rattle.records.proofs.line.right_states.Given as goal

-- the fields that are left, after the states so far, decide as all of them do
abbrev pub invariant-loop-fields : goal.invariant-loop-fields
invariant-loop-fields l =
    (l.fields.line ≡ l.initial.fields.line)
    × (right_states l.line l.states l.low l.set.bits (fields_left l.fields) ≡ right_states l.line l.states 0 0 (fields_left l.initial.fields))

abbrev pub decreases-loop-fields : goal.decreases-loop-fields
decreases-loop-fields l = length (fields_left l.fields)
