-- What is claimed of two rules of a grammar.
use Rattle.std.specs.Prelude.{ℕ, ◌<◌, Bool, Some, None}
use Rattle.theory.specs.Hedge.{Hedge}
use Rattle.theory.specs.Language.{Expr, rule, In}
use Rattle.ledger.specs.Settled.{Settled}
use Rattle.model.specs.declared.verdict.Verdict.TheVariants.{Included, Excluded}

-- the language of rule k has the hedge h
abbrev pub Has : (ℕ → Expr) → (ℕ → ℕ → Bool) → ℕ → Hedge → Type 0
Has bodies covers k h = ∥ In bodies covers (rule k) h ∥₁

-- rule b has every hedge of rule a
abbrev pub Includes : (ℕ → Expr) → (ℕ → ℕ → Bool) → ℕ → ℕ → Type 0
Includes bodies covers a b = (h : Hedge) → Has bodies covers a h → Has bodies covers b h

-- h is a hedge of rule a, and none of rule b
abbrev pub Offends : (ℕ → Expr) → (ℕ → ℕ → Bool) → ℕ → ℕ → Hedge → Type 0
Offends bodies covers a b h = Has bodies covers a h × (Has bodies covers b h → ⊥)

-- rule b lacks a hedge of rule a
abbrev pub Lacks : (ℕ → Expr) → (ℕ → ℕ → Bool) → ℕ → ℕ → Type 0
Lacks bodies covers a b = ∥ ((h : Hedge) × Offends bodies covers a b h) ∥₁

-- what a pair of rules is settled as is true of it; `count` is the number of rules
abbrev pub Truly : (ℕ → Expr) → ℕ → (ℕ → ℕ → Bool) → ℕ → ℕ → Settled → Type 0
Truly bodies count covers a b None = Unit {0}
Truly bodies count covers a b (Some Included) = (a < count) × (b < count) × Includes bodies covers a b
Truly bodies count covers a b (Some Excluded) = (a < count) × (b < count) × Lacks bodies covers a b

-- all that is settled is true
abbrev pub AllTrue : (ℕ → Expr) → ℕ → (ℕ → ℕ → Bool) → (ℕ → ℕ → Settled) → Type 0
AllTrue bodies count covers settled = (a b : ℕ) → Truly bodies count covers a b (settled a b)
