-- What the errors of reading and of building are to a load.
use Rattle.std.specs.Prelude.{ℕ, List, slice_index}
use Rattle.tables.specs.declared.fault.ReadError.{ReadError}
use Rattle.tables.specs.declared.fault.ReadError.TheVariants as reading
use Rattle.states.specs.declared.error.BuildError.{BuildError}
use Rattle.states.specs.declared.error.BuildError.TheVariants as building
use Rattle.load.specs.declared.fault.GrammarFault.TheVariants.{Table, Recursion, Size}
use Rattle.load.specs.declared.fault.LoadError.{LoadError}
use Rattle.load.specs.declared.fault.LoadError.TheVariants.{Fault, Memory}

-- a reader's error
abbrev pub of_read : ReadError → LoadError
of_read (reading.Fault f) = Fault (Table f)
of_read reading.Memory = Memory

-- an error of building; rule k stands at the line number k of `lines`
abbrev pub of_build : BuildError → List ℕ → LoadError
of_build (building.Recursion k) lines = Fault (Recursion (slice_index lines k))
of_build building.TooLarge lines = Fault Size
of_build building.NoMemory lines = Memory
