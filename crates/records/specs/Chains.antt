-- Tests one after the other, each with the fault that it may give.
use Rattle.std.specs.Prelude.{ℕ, Ok, Err, Result}
use Rattle.text.specs.declared.fault.LineFault.{LineFault}
use Rattle.text.specs.declared.fault.LineFault.TheVariants.{Form}
use Rattle.text.specs.declared.fault.TableFault.TheVariants.{Line, Place}
use Rattle.records.specs.declared.fault.CallFault.{CallFault}
use Rattle.records.specs.declared.fault.CallFault.TheVariants.{Table, Room}

-- first this, and where it succeeds then that
abbrev pub then : {X Y E : Type 0} → Result X E → (X → Result Y E) → Result Y E
then (Ok x) f = f x
then (Err e) f = Err e

-- a line's fault as a call's fault
abbrev pub of_line : {X : Type 0} → Result X LineFault → Result X CallFault
of_line (Ok x) = Ok x
of_line (Err e) = Err (Table (Line e))

-- line n has a wrong form
abbrev pub formless : {X : Type 0} → ℕ → Result X CallFault
formless n = Err (Table (Line (Form n)))

-- a number of line n is not allowed at its place
abbrev pub misplaced : {X : Type 0} → ℕ → Result X CallFault
misplaced n = Err (Table (Place n))

-- the record of line n has no place
abbrev pub roomless : {X : Type 0} → ℕ → Result X CallFault
roomless n = Err (Room n)
