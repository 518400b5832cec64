use Rattle.std.proofs.Common.{◌≡◌, ◌-◌, drop}
use Rattle.writing.specs.Checks.{places_checked}
use Rattle.writing.proofs.check.check_records.Given as goal

-- the records that are left decide as all of them do
abbrev pub invariant-loop-i : goal.invariant-loop-i
invariant-loop-i g l =
    let fits = g.R.Record.fits_after l.bounds.states l.bounds.names.now in
    places_checked fits l.i (l.count - l.i) (drop l.i l.records) ≡ places_checked fits 0 l.count l.records
