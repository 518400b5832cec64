use Rattle.std.proofs.Common.{◌≡◌, length}
use Rattle.text.specs.Cursors.{fields_left}
use Rattle.records.specs.Lines.{all_numbers}
use Rattle.records.proofs.line.all_numbers.Given as goal

-- the fields that are left decide as all of them do
abbrev pub invariant-loop-fields : goal.invariant-loop-fields
invariant-loop-fields l =
    (l.fields.line ≡ l.initial.fields.line)
    × (all_numbers l.fields.line (fields_left l.fields) ≡ all_numbers l.initial.fields.line (fields_left l.initial.fields))

abbrev pub decreases-loop-fields : goal.decreases-loop-fields
decreases-loop-fields l = length (fields_left l.fields)
