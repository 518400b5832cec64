-- What every loaded grammar keeps, and what comes of loading a text.
use Rattle.std.specs.Prelude.{◌≡◌, ℕ, ◌<◌, ◌≤◌, List, length, slice_index}
use Rattle.model.specs.Machine.{Plain as State}
use Rattle.theory.specs.Language.{Expr}
use Rattle.theory.specs.Recursion.{LawfulRule, LawfulRules}
use Rattle.theory.specs.Stands.{Stands}
use Rattle.theory.specs.Tree.{body_of}
use Rattle.tables.specs.Plain.{Plain}
use Rattle.tables_law.specs.Lawful.{Lawful}
use Rattle.expressions.specs.States.{total}

-- the body of each rule
abbrev pub bodies_of : Plain → ℕ → Expr
bodies_of t = body_of t.nodes t.bodies

-- the number of rules
abbrev pub rules_of : Plain → ℕ
rules_of t = length t.bodies

-- A loaded grammar: its tables keep every rule of their format, its rules are lawful, it has at most
-- 128 states, one for each rule at least, and at most 512 derivatives, and its states stand for
-- expressions.
pub record Loaded (t : Plain) (states : List State) : Type 0 where
  pub tables : Lawful t
  pub rules : LawfulRules (bodies_of t) (rules_of t)
  pub few_states : length states ≤ 128
  pub rule_states : rules_of t ≤ length states
  pub few_derivatives : total states ≤ 512
  pub exprs : List Expr
  pub stand : Stands (bodies_of t) (rules_of t) states exprs

-- rule k is the first that is not lawful, and stands at line n
pub record Unlawful (t : Plain) (n : ℕ) : Type 0 where
  pub at : ℕ
  pub at_rule : at < rules_of t
  pub line : n ≡ slice_index t.rule_lines at
  pub before : LawfulRules (bodies_of t) at
  pub not_lawful : LawfulRule (bodies_of t) at → ⊥
