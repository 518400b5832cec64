-- Which texts are grammars: a source, how it is written, and the tables that it stands for.
use Rattle.std.specs.Prelude.{◌≡◌, ℕ, zero, suc, ◌+◌, ◌≤◌, true, List, [], ◌∷◌, ◌++◌, map, length, None, Ok, Err, codes, decimal, Result}
use Rattle.model.specs.declared.names.Kind.{Kind}
use Rattle.model.specs.declared.names.Name.{Name}
use Rattle.model.specs.declared.nodes.Node.{Node}
use Rattle.model.specs.declared.nodes.Node.TheVariants.{Nothing, Empty, Simple, Rule, Element, Union, Seq, Star}
use Rattle.text_law.specs.Writing.{written, keyed}
use Rattle.tables.specs.declared.table.Tables.{Tables}
use Rattle.tables.specs.declared.fault.ReadError.{ReadError}
use Rattle.tables.specs.declared.fault.ReadError.TheVariants.{Fault, Memory}
use Rattle.tables.specs.Words.{kind_word}
use Rattle.tables.specs.Checks.{may_head}
use Rattle.tables.specs.Plain.{Plain, plain}
use Rattle.tables.specs.Read.{headed}
use Rattle.tables_law.specs.Lawful.{Lawful}

-- a name: its kind and its spelling
abbrev pub Named : Type 0
Named = Kind × List ℕ

-- a name and its head
abbrev pub Under : Type 0
Under = ℕ × ℕ

-- a rule: its spelling and its body
abbrev pub Ruled : Type 0
Ruled = List ℕ × ℕ

-- what a grammar's text says, section by section
pub record Source : Type 0 where
  pub names : List Named
  pub unders : List Under
  pub nodes : List Node
  pub rules : List Ruled

-- how a name is written
abbrev pub name_text : Named → List ℕ
name_text x = keyed (codes "name") (kind_word x.0 ∷ x.1 ∷ [])

-- how a head is written
abbrev pub under_text : Under → List ℕ
under_text u = keyed (codes "under") (decimal u.0 ∷ decimal u.1 ∷ [])

-- the fields of a node
abbrev pub node_fields : Node → List (List ℕ)
node_fields Nothing = codes "none" ∷ []
node_fields Empty = codes "empty" ∷ []
node_fields (Simple n) = codes "simple" ∷ decimal n ∷ []
node_fields (Rule k) = codes "rule" ∷ decimal k ∷ []
node_fields (Element n c) = codes "element" ∷ decimal n ∷ decimal c ∷ []
node_fields (Union a b) = codes "union" ∷ decimal a ∷ decimal b ∷ []
node_fields (Seq a b) = codes "seq" ∷ decimal a ∷ decimal b ∷ []
node_fields (Star a) = codes "star" ∷ decimal a ∷ []

-- how a node is written
abbrev pub node_text : Node → List ℕ
node_text x = keyed (codes "node") (node_fields x)

-- how a rule is written
abbrev pub rule_text : Ruled → List ℕ
rule_text r = keyed (codes "rule") (r.0 ∷ decimal r.1 ∷ [])

-- how the end is written, with the number of rules
abbrev pub end_text : ℕ → List ℕ
end_text n = keyed (codes "end") (decimal n ∷ [])

-- the lines after the first: names, unders, nodes, rules and the end, where there are `before` rules already
abbrev pub sections : ℕ → List Named → List Under → List Node → List Ruled → List (List ℕ)
sections before ns us xs rs = map name_text ns ++ (map under_text us ++ (map node_text xs ++ (map rule_text rs ++ end_text (before + length rs) ∷ [])))

-- the whole text
abbrev pub text_of : Source → List ℕ
text_of s = written (keyed (codes "grammar") (codes "1" ∷ []) ∷ sections 0 s.names s.unders s.nodes s.rules)

-- a name without a head
abbrev pub headless : Named → Name
headless x = record { kind = x.0; head = None }

-- a name's spelling
abbrev pub spelling_of : Named → List ℕ
spelling_of x = x.1

-- a rule's spelling
abbrev pub rule_spelling : Ruled → List ℕ
rule_spelling r = r.0

-- a rule's body
abbrev pub body_of : Ruled → ℕ
body_of r = r.1

-- the names with their heads
abbrev pub with_heads : List Name → List Under → List Name
with_heads ns [] = ns
with_heads ns (u ∷ us) = with_heads (headed ns u.0 u.1) us

-- each under line gives a name that has no head yet a lower head of its kind
abbrev pub GivenHeads : List Name → List Under → Type 0
GivenHeads ns [] = Unit {0}
GivenHeads ns (u ∷ us) = (may_head ns u.0 u.1 ≡ true) × GivenHeads (headed ns u.0 u.1) us

-- k lines from line n on
abbrev pub lines_from : ℕ → ℕ → List ℕ
lines_from n zero = []
lines_from n (suc k) = n ∷ lines_from (n + 1) k

-- tables with these entries more, of which the first stands at line n
abbrev pub grown : Plain → ℕ → List Named → List Under → List Node → List Ruled → Plain
grown p n ns us xs rs = record {
  names = with_heads (p.names ++ map headless ns) us;
  spellings = p.spellings ++ map spelling_of ns;
  nodes = p.nodes ++ xs;
  bodies = p.bodies ++ map body_of rs;
  rules = p.rules ++ map rule_spelling rs;
  rule_lines = p.rule_lines ++ lines_from (n + length ns + length us + length xs) (length rs);
}

-- tables without entries
abbrev pub no_tables : Plain
no_tables = record { names = []; spellings = []; nodes = []; bodies = []; rules = []; rule_lines = [] }

-- the tables that a source stands for: its entries begin at line 2
abbrev pub tables_of : Source → Plain
tables_of s = grown no_tables 2 s.names s.unders s.nodes s.rules

-- the text writes the tables, and they are lawful
abbrev pub Writes : List ℕ → Plain → Type 0
Writes text t = (s : Source) × (text_of s ≡ text) × (length text ≤ 65536) × (tables_of s ≡ t) × GivenHeads (map headless s.names) s.unders × Lawful t

-- the tables are given, or there was no memory
abbrev pub Gives : Result Tables ReadError → Plain → Type 0
Gives (Ok t) p = plain t ≡ p
Gives (Err (Fault f)) p = ⊥
Gives (Err Memory) p = Unit {0}

-- whatever lawful tables the text writes are given
abbrev pub Accepts : Result Tables ReadError → List ℕ → Type 0
Accepts r text = (t : Plain) → Writes text t → Gives r t
