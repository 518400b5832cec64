-- Which names the hedges of a grammar have, and what stands inside a simple name.
use Rattle.std.specs.Prelude.{◌≡◌, ℕ, ◌<◌, Bool, List, length}
use Rattle.model.specs.declared.names.Kind.TheVariants.{Simple, Element}
use Rattle.model.specs.declared.names.Name.{Name}
use Rattle.model.specs.Relation.{kind_of, Lawful}
use Rattle.theory.specs.Hedge.{Hedge, nothing, item}
use Rattle.theory.specs.Language.{Expr, none, empty, simple, rule, element, union, seq, star, In}

-- each simple node of an expression has a simple name, and each element node an element's
abbrev pub Kinded : List Name → Expr → Type 0
Kinded names none = Unit {0}
Kinded names empty = Unit {0}
Kinded names (simple b) = kind_of names b ≡ Simple
Kinded names (rule k) = Unit {0}
Kinded names (element e c) = (kind_of names e ≡ Element) × Kinded names c
Kinded names (union a b) = Kinded names a × Kinded names b
Kinded names (seq a b) = Kinded names a × Kinded names b
Kinded names (star a) = Kinded names a

-- a hedge over the names of a grammar: each name is one of them, and a simple one has nothing inside
abbrev pub Over : List Name → Hedge → Type 0
Over names nothing = Unit {0}
Over names (item t v w) =
    (t < length names) × (kind_of names t ≡ Simple → v ≡ nothing) × Over names v × Over names w

-- every hedge of a grammar's expressions is one over its names
abbrev pub HedgesOverNames : Type 0
HedgesOverNames = (names : List Name) (bodies : ℕ → Expr) (covers : ℕ → ℕ → Bool) →
    Lawful names covers → ((k : ℕ) → Kinded names (bodies k)) →
    (e : Expr) (h : Hedge) → Kinded names e → In bodies covers e h → Over names h
