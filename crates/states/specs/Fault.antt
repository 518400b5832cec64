-- A limit that was met, as a fault of building.
use Rattle.states.specs.declared.error.Limit.{Limit}
use Rattle.states.specs.declared.error.BuildError.{BuildError}
use Rattle.states.specs.declared.error.Limit.TheVariants as limit
use Rattle.states.specs.declared.error.BuildError.TheVariants as fault

abbrev pub fault_of : Limit → BuildError
fault_of limit.TooLarge = fault.TooLarge
fault_of limit.NoMemory = fault.NoMemory

abbrev pub memory_fault : BuildError
memory_fault = fault.NoMemory
