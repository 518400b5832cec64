-- The tables as plain lists.
use Rattle.std.specs.Prelude.{ℕ, List, map, vec_items}
use Rattle.model.specs.declared.names.Kind.{Kind}
use Rattle.model.specs.declared.names.Name.{Name}
use Rattle.model.specs.declared.nodes.Node.{Node}
use Rattle.tables.specs.declared.words.Stage.{Stage}
use Rattle.tables.specs.declared.table.Tables.{Tables}
use Rattle.tables.specs.declared.draft.Mention.{Mention}
use Rattle.tables.specs.declared.draft.Draft.{Draft}
use Rattle.tables.specs.declared.draft.Entry.{Entry}
use Rattle.tables.specs.declared.draft.Entry.TheVariants as code

-- the names with their spellings, the nodes, and the rules: their bodies, spellings and lines
pub record Plain : Type 0 where
  pub names : List Name
  pub spellings : List (List ℕ)
  pub nodes : List Node
  pub bodies : List ℕ
  pub rules : List (List ℕ)
  pub rule_lines : List ℕ

-- tables while their text is read: how far it has come, and the rules that nodes mention with the nodes' lines
pub record Sketch : Type 0 where
  pub tables : Plain
  pub mentions : List Mention
  pub stage : Stage

-- what a line enters into the tables
pub data Fact : Type 0 where
  begin : Fact
  name : Kind → List ℕ → Fact
  under : ℕ → ℕ → Fact
  node : Node → ℕ → Fact
  rule : List ℕ → ℕ → ℕ → Fact
  end : Fact

-- what the code's tables stand for
abbrev pub plain : Tables → Plain
plain t = record {
  names = vec_items t.names;
  spellings = map (λ x. x.now) (vec_items t.spellings);
  nodes = vec_items t.nodes;
  bodies = vec_items t.bodies;
  rules = map (λ x. x.now) (vec_items t.rules);
  rule_lines = vec_items t.rule_lines;
}

-- what the code's draft stands for
abbrev pub sketch : Draft → Sketch
sketch d = record { tables = plain d.tables; mentions = vec_items d.mentions; stage = d.stage }

-- what the code's entry stands for
abbrev pub fact : Entry → Fact
fact code.Begin = begin
fact (code.Name k s) = name k s.now
fact (code.Under t h) = under t h
fact (code.Node x n) = node x n
fact (code.Rule s b n) = rule s.now b n
fact code.End = end
