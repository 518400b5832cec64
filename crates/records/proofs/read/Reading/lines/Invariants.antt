use Rattle.std.proofs.Common.{◌≡◌, ◌+◌, ◌≤◌, length}
use Rattle.model.specs.Blank.{blank_row, blank_item}
use Rattle.text.specs.Pieces.{lines}
use Rattle.text.specs.Cursors.{lines_left}
use Rattle.records.specs.Reading.{Found, run, begun, padded}
use Rattle.records.proofs.Kept.{Kept}
use Rattle.records.proofs.read.Reading.lines.Given as goal

-- the lines that are left, after the records so far, read as the whole text does
abbrev pub invariant-loop-line : goal.invariant-loop-line
invariant-loop-line l =
    let L = l.judge.limits in
    let names = l.judge.names.now in
    (f : Found)
    × (f.at ≡ l.progress)
    × Kept L names f
    × (l.rows ≡ padded blank_row L.room f.rows)
    × (l.items ≡ padded blank_item L.room f.items)
    × (run L names f l.reader.line (lines_left l.reader) ≡ run L names (begun l.self.stage) 0 (lines l.self.text.now))
    × (l.reader.line + length (lines_left l.reader) ≤ 262144)

abbrev pub decreases-loop-line : goal.decreases-loop-line
decreases-loop-line l = length (lines_left l.reader)
