-- The expressions of a file in a book.
use Rattle.std.specs.Prelude.{◌≡◌, ℕ, ◌<◌, List, [], ◌∷◌, length, vec_items, vec_len}
use Rattle.model.specs.declared.nodes.Node.{Node}
use Rattle.theory.specs.Language.{Expr, empty, rule}
use Rattle.theory.specs.Count.{each}
use Rattle.theory.specs.Tree.{body_of}
use Rattle.expressions.specs.Numbers.{tree}
use Rattle.expressions.specs.Fine.{PartsBelow, make, Fine, Below, Grows, shown}
use Rattle.states.specs.declared.grammar.Grammar.{Grammar}

-- i is the number of e in the book, which was added to
abbrev pub Numbered : List Node → List Node → ℕ → Expr → Type 0
Numbered old new i e = Fine new × Grows old new × (i < length new) × (tree new i ≡ e)

-- x is built of numbers in the book, which was added to, and is e
abbrev pub Moved : List Node → List Node → Node → Expr → Type 0
Moved old new x e = Fine new × Grows old new × PartsBelow (length new) x × (make (tree new) x ≡ e)

-- the numbers are in the book and stand for the expressions
abbrev pub StandFor : List Node → List ℕ → List Expr → Type 0
StandFor nodes numbers es = Fine nodes × Below (length nodes) numbers × (shown nodes numbers ≡ es)

-- the mentions of the first n rules
abbrev pub mentions : ℕ → List Expr
mentions n = each n (λ k. rule k ∷ [])

-- a grammar that was read from a file's nodes and the bodies of its rules
pub record Read (file : List Node) (rules : List ℕ) (g : Grammar) : Type 0 where
  pub fine : Fine (vec_items g.nodes)
  pub within : Below (length (vec_items g.nodes)) (vec_items g.rules.bodies)
  pub count : vec_len g.rules.bodies ≡ length rules
  pub bodies : body_of (vec_items g.nodes) (vec_items g.rules.bodies) ≡ body_of file rules
  pub empty_in : g.rules.empty < length (vec_items g.nodes)
  pub empty_is : tree (vec_items g.nodes) g.rules.empty ≡ empty
  pub mentions_in : Below (length (vec_items g.nodes)) (vec_items g.mentions)
  pub mentions_are : shown (vec_items g.nodes) (vec_items g.mentions) ≡ mentions (length rules)
