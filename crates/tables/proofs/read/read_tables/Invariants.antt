use Rattle.std.proofs.Common.{◌≡◌, length}
use Rattle.text.specs.Pieces.{lines}
use Rattle.text.specs.Cursors.{lines_left}
use Rattle.tables.specs.Plain.{sketch}
use Rattle.tables.specs.Read.{read_lines, blank}
use Rattle.tables.proofs.read.read_tables.Given as goal

abbrev pub invariant-loop-line : goal.invariant-loop-line
invariant-loop-line l = read_lines (sketch l.draft) l.reader.line (lines_left l.reader) ≡ read_lines blank 0 (lines l.text)

abbrev pub decreases-loop-line : goal.decreases-loop-line
decreases-loop-line l = length (lines_left l.reader)
