-- Statements about nullability, derivatives and languages, for all grammars and name relations.
use Rattle.std.specs.Prelude.{◌≡◌, ℕ, ◌<◌, Bool, true, ◌↔◌, List, length, slice_index_or}
use Rattle.theory.specs.Hedge.{Hedge, nothing, item}
use Rattle.theory.specs.Language.{Expr, none, rule, In}
use Rattle.theory.specs.Derivative.{Null, Der}
use Rattle.theory.specs.Machine.{Machine, accepts}
use Rattle.theory.specs.Stands.{Stands}

-- an expression is nullable exactly when it has the empty hedge
abbrev pub Nullability : Type 0
Nullability = (bodies : ℕ → Expr) (covers : ℕ → ℕ → Bool) (e : Expr) →
    Null bodies e ↔ In bodies covers e nothing

-- `By-derivative bodies covers e t v w`: a derivative of e has a label that covers t, a content
-- that has v and a rest that has w
abbrev pub ByDerivative : (ℕ → Expr) → (ℕ → ℕ → Bool) → Expr → ℕ → Hedge → Hedge → Type 0
ByDerivative bodies covers e t v w = (h : ℕ) × (c : Expr) × (r : Expr) × Der bodies e h c r ×
    (covers h t ≡ true) × In bodies covers c v × In bodies covers r w

-- an expression has an item with v inside, followed by w, exactly by one of its derivatives
abbrev pub DerivativeLaw : Type 0
DerivativeLaw = (bodies : ℕ → Expr) (covers : ℕ → ℕ → Bool) (e : Expr) (t : ℕ) (v w : Hedge) →
    In bodies covers e (item t v w) ↔ ByDerivative bodies covers e t v w

-- a state has exactly the hedges of the expression that it stands for
abbrev pub Simulation : Type 0
Simulation = (bodies : ℕ → Expr) (rules : ℕ) (m : Machine) (exprs : List Expr) →
    Stands bodies rules m.states exprs → (h : Hedge) (q : ℕ) → q < length m.states →
    (accepts m h q ≡ true) ↔ In bodies m.covers (slice_index_or exprs q none) h

-- the state of a rule has exactly the hedges of that rule
abbrev pub RuleSimulation : Type 0
RuleSimulation = (bodies : ℕ → Expr) (rules : ℕ) (m : Machine) (exprs : List Expr) →
    Stands bodies rules m.states exprs → (h : Hedge) (k : ℕ) → k < rules →
    (accepts m h k ≡ true) ↔ In bodies m.covers (rule k) h
