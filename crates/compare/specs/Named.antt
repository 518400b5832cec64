-- The relation that a word names.
use Rattle.std.specs.Prelude.{ℕ, Bool, List}
use Rattle.model.specs.declared.names.Name.{Name}
use Rattle.model.specs.Relation.{Headed, Lawful, exact, heads}
use Rattle.model.specs.Climb.{exact_lawful, heads_lawful}
use Rattle.compare.specs.declared.named.Named.{Named}
use Rattle.compare.specs.declared.named.Named.TheVariants.{Exact, Heads}

-- whether h covers t under the named relation
abbrev pub named_covers : Named → List Name → ℕ → ℕ → Bool
named_covers Exact names h t = exact names h t
named_covers Heads names h t = heads names h t

-- either relation is lawful
pub named_lawful : (n : Named) (names : List Name) → Headed names → Lawful names (named_covers n names)
named_lawful Exact names ok = exact_lawful names ok
named_lawful Heads names ok = heads_lawful names ok
