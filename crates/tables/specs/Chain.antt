-- First this test, then that: the first fault is the answer.
use Rattle.std.specs.Prelude.{Ok, Err, Result}
use Rattle.text.specs.declared.fault.LineFault.{LineFault}
use Rattle.text.specs.declared.fault.TableFault.{TableFault}
use Rattle.text.specs.declared.fault.TableFault.TheVariants.{Line}

-- goes on where the first succeeds
abbrev pub then : {X Y E : Type 0} → Result X E → (X → Result Y E) → Result Y E
then (Ok x) f = f x
then (Err e) f = Err e

-- a line fault as a table fault
abbrev pub lift : {X : Type 0} → Result X LineFault → Result X TableFault
lift (Ok x) = Ok x
lift (Err e) = Err (Line e)
