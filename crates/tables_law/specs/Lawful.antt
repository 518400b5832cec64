-- Lawful tables: within their limits, and each number at a place where it may stand.
use Rattle.std.specs.Prelude.{◌≡◌, ℕ, ◌<◌, ◌≤◌, true, List, [], length, get_or, Some, ◌≢◌, slice_index_or}
use Rattle.std.specs.List.{AllByRecursion}
use Rattle.model.specs.declared.names.Name.{Name}
use Rattle.model.specs.declared.nodes.Node.{Node}
use Rattle.model.specs.declared.nodes.Node.TheVariants.{Nothing, Rule}
use Rattle.text.specs.Forms.{is_spelling}
use Rattle.tables.specs.Checks.{no_name, kind_at, may_stand}
use Rattle.tables.specs.Plain.{Plain}

-- no two spellings are the same
abbrev pub Apart : List (List ℕ) → Type 0
Apart xs = (i j : ℕ) → i < j → j < length xs → slice_index_or xs i [] ≢ slice_index_or xs j []

-- a head has a lower number and the same kind
abbrev pub Headed : List Name → Type 0
Headed names = (t h : ℕ) → t < length names → (get_or names t no_name).head ≡ Some h → (h < t) × (kind_at names t ≡ kind_at names h)

-- each node refers to names of its kind and to earlier nodes
abbrev pub Standing : List Name → List Node → Type 0
Standing names nodes = (i : ℕ) → i < length nodes → may_stand names i (slice_index_or nodes i Nothing) ≡ true

-- the tables keep every rule of their format
pub record Lawful (t : Plain) : Type 0 where
  pub few_names : length t.names ≤ 64
  pub few_nodes : length t.nodes ≤ 256
  pub few_rules : length t.bodies ≤ 32
  pub names_spelled : length t.spellings ≡ length t.names
  pub rules_spelled : length t.rules ≡ length t.bodies
  pub rules_lined : length t.rule_lines ≡ length t.bodies
  pub names_formed : AllByRecursion (λ s. is_spelling s ≡ true) t.spellings
  pub rules_formed : AllByRecursion (λ s. is_spelling s ≡ true) t.rules
  pub names_apart : Apart t.spellings
  pub rules_apart : Apart t.rules
  pub heads : Headed t.names
  pub standing : Standing t.names t.nodes
  pub bodies_in : AllByRecursion (λ b. b < length t.nodes) t.bodies
  pub mentions_in : (i k : ℕ) → i < length t.nodes → slice_index_or t.nodes i Nothing ≡ Rule k → k < length t.bodies
