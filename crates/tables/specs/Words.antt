-- The fixed words of a grammar text, and the order of its sections.
use Rattle.std.specs.Prelude.{ℕ, Bool, cond, ◌&&◌, List, Ok, Err, codes, Result, ◌==◌, nat_le, nat_lt}
use Rattle.model.specs.declared.names.Kind.{Kind}
use Rattle.model.specs.declared.names.Kind.TheVariants as kind
use Rattle.text.specs.declared.fault.LineFault.{LineFault}
use Rattle.text.specs.declared.fault.LineFault.TheVariants.{Form}
use Rattle.text.specs.Fields.{View, line_of, is_word}
use Rattle.tables.specs.declared.words.Key.{Key}
use Rattle.tables.specs.declared.words.Key.TheVariants as key
use Rattle.tables.specs.declared.words.Stage.{Stage}
use Rattle.tables.specs.declared.words.Stage.TheVariants as stage

-- the word of a kind of name
abbrev pub kind_word : Kind → List ℕ
kind_word kind.Simple = codes "simple"
kind_word kind.Element = codes "element"

-- the word of a key
abbrev pub key_word : Key → List ℕ
key_word key.Grammar = codes "grammar"
key_word key.Name = codes "name"
key_word key.Under = codes "under"
key_word key.Node = codes "node"
key_word key.Rule = codes "rule"
key_word key.End = codes "end"

-- the key that the field is
abbrev pub key_in : View → Result Key LineFault
key_in v =
    cond (is_word (key_word key.Grammar) v) (Ok key.Grammar)
    (cond (is_word (key_word key.Name) v) (Ok key.Name)
    (cond (is_word (key_word key.Under) v) (Ok key.Under)
    (cond (is_word (key_word key.Node) v) (Ok key.Node)
    (cond (is_word (key_word key.Rule) v) (Ok key.Rule)
    (cond (is_word (key_word key.End) v) (Ok key.End) (Err (Form (line_of v))))))))

-- the kind of name that the field is
abbrev pub kind_in : View → Result Kind LineFault
kind_in v = cond (is_word (kind_word kind.Simple) v) (Ok kind.Simple) (cond (is_word (kind_word kind.Element) v) (Ok kind.Element) (Err (Form (line_of v))))

-- the number of the format, which is 1
abbrev pub version_in : View → Result (Unit {0}) LineFault
version_in v = cond (is_word (codes "1") v) (Ok tt) (Err (Form (line_of v)))

-- the sections in their order
abbrev pub order : Stage → ℕ
order stage.Start = 0
order stage.Names = 1
order stage.Unders = 2
order stage.Nodes = 3
order stage.Rules = 4
order stage.Ended = 5

-- the section that a line of the key stands in, or after it
abbrev pub leads : Key → Stage
leads key.Grammar = stage.Names
leads key.Name = stage.Names
leads key.Under = stage.Unders
leads key.Node = stage.Nodes
leads key.Rule = stage.Rules
leads key.End = stage.Ended

-- the text has begun and not ended, and the key's section is not past
abbrev pub later : Stage → Key → Bool
later s k = nat_le 1 (order s) && nat_lt (order s) 5 && nat_le (order s) (order (leads k))

-- a text begins with `grammar`; after it no key goes back to an earlier section, and none follows the end
abbrev pub allowed : Stage → Key → Bool
allowed s key.Grammar = order s == 0
allowed s key.Name = later s key.Name
allowed s key.Under = later s key.Under
allowed s key.Node = later s key.Node
allowed s key.Rule = later s key.Rule
allowed s key.End = later s key.End
