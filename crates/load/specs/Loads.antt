-- What comes of loading a text.
use Rattle.std.specs.Prelude.{◌≡◌, ℕ, List, Ok, Err, Result}
use Rattle.model.specs.Machine.{states_of}
use Rattle.tables.specs.Plain.{Plain, plain}
use Rattle.tables.specs.Read.{read}
use Rattle.load.specs.declared.fault.GrammarFault.TheVariants.{Table, Recursion, Size}
use Rattle.load.specs.declared.fault.LoadError.{LoadError}
use Rattle.load.specs.declared.fault.LoadError.TheVariants.{Fault, Memory}
use Rattle.load.specs.declared.grammar.Grammar.{Grammar}
use Rattle.load.specs.Loaded.{Loaded, Unlawful}

-- A grammar comes of a text only with the tables that the text gives. Else the fault is the text's, or
-- the line of the first rule that is not lawful, or that a lawful grammar is too large; or there was
-- no memory.
abbrev pub Loads : List ℕ → Result Grammar LoadError → Type 0
Loads text (Ok g) = (read text ≡ Ok (plain g.tables)) × Loaded (plain g.tables) (states_of g.machine)
Loads text (Err Memory) = Unit {0}
Loads text (Err (Fault (Table f))) = read text ≡ Err f
Loads text (Err (Fault (Recursion n))) = (t : Plain) × (read text ≡ Ok t) × Unlawful t n
Loads text (Err (Fault Size)) = (t : Plain) × (read text ≡ Ok t)
