-- How a text gives tables, line by line.
use Rattle.std.specs.Prelude.{◌≡◌, ℕ, ◌+◌, cond, List, [], ◌∷◌, ◌++◌, length, Some, None, Ok, Err, Result, ◌==◌, nat_lt, slice_set}
use Rattle.model.specs.declared.names.Name.{Name}
use Rattle.model.specs.declared.nodes.Node.{Node}
use Rattle.model.specs.declared.nodes.Node.TheVariants as nodes
use Rattle.text.specs.declared.fault.TableFault.{TableFault}
use Rattle.text.specs.declared.fault.TableFault.TheVariants.{Place}
use Rattle.text.specs.Pieces.{lines, whole_text}
use Rattle.tables.specs.declared.words.Stage.TheVariants.{Start, Names, Unders, Nodes, Rules, Ended}
use Rattle.tables.specs.declared.draft.Mention.{Mention}
use Rattle.tables.specs.declared.table.Tables.{Tables}
use Rattle.tables.specs.declared.fault.ReadError.{ReadError}
use Rattle.tables.specs.declared.fault.ReadError.TheVariants.{Fault, Memory}
use Rattle.tables.specs.Chain.{then, lift}
use Rattle.tables.specs.Words.{order}
use Rattle.tables.specs.Checks.{form, kind_at}
use Rattle.tables.specs.Plain.{Plain, Sketch, Fact, begin, name, under, node, rule, end, plain}
use Rattle.tables.specs.Judge.{judged}

-- the name t with the head h
abbrev pub headed : List Name → ℕ → ℕ → List Name
headed names t h = slice_set names t record { kind = kind_at names t; head = Some h }

-- the rule that a node mentions, with the node's line
abbrev pub mentioned : Node → ℕ → List Mention
mentioned nodes.Nothing n = []
mentioned nodes.Empty n = []
mentioned (nodes.Simple x) n = []
mentioned (nodes.Rule k) n = record { rule = k; line = n } ∷ []
mentioned (nodes.Element x c) n = []
mentioned (nodes.Union a b) n = []
mentioned (nodes.Seq a b) n = []
mentioned (nodes.Star a) n = []

-- the tables with one fact more
abbrev pub entered : Sketch → Fact → Sketch
entered d begin = record d { stage = Names }
entered d (name k s) = record d {
  tables = record d.tables { names = d.tables.names ++ record { kind = k; head = None } ∷ []; spellings = d.tables.spellings ++ s ∷ [] };
  stage = Names;
}
entered d (under t h) = record d { tables = record d.tables { names = headed d.tables.names t h }; stage = Unders }
entered d (node x n) = record d {
  tables = record d.tables { nodes = d.tables.nodes ++ x ∷ [] };
  mentions = d.mentions ++ mentioned x n;
  stage = Nodes;
}
entered d (rule s b n) = record d {
  tables = record d.tables { bodies = d.tables.bodies ++ b ∷ []; rules = d.tables.rules ++ s ∷ []; rule_lines = d.tables.rule_lines ++ n ∷ [] };
  stage = Rules;
}
entered d end = record d { stage = Ended }

-- each mentioned rule is among the `count` rules; else the first node that mentions another is at fault
abbrev pub present : ℕ → List Mention → Result (Unit {0}) TableFault
present count [] = Ok tt
present count (m ∷ ms) = cond (nat_lt m.rule count) (present count ms) (Err (Place m.line))

-- after the last line: the text has ended, so that line n is not missing, and the mentioned rules are there
abbrev pub closed : Sketch → ℕ → Result Plain TableFault
closed d n =
    then (lift (form (order d.stage == 5) n)) (λ _.
    then (present (length d.tables.bodies) d.mentions) (λ _. Ok d.tables))

-- the lines after line n, one after the other
abbrev pub read_lines : Sketch → ℕ → List (List ℕ) → Result Plain TableFault
read_lines d n [] = closed d (n + 1)
read_lines d n (l ∷ ls) = then (judged d (n + 1) l) (λ f. read_lines (entered d f) (n + 1) ls)

-- before the first line
abbrev pub blank : Sketch
blank = record { tables = record { names = []; spellings = []; nodes = []; bodies = []; rules = []; rule_lines = [] }; mentions = []; stage = Start }

-- the tables that a text gives, or its first fault
abbrev pub read : List ℕ → Result Plain TableFault
read text = then (lift (whole_text 65536 text)) (λ _. read_lines blank 0 (lines text))

-- the call's answer is the text's, or there was no memory
abbrev pub answers : Result Tables ReadError → Result Plain TableFault → Type 0
answers (Ok t) d = Ok (plain t) ≡ d
answers (Err (Fault f)) d = Err f ≡ d
answers (Err Memory) d = Unit {0}
