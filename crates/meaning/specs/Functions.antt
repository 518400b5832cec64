-- Nullability and derivatives of expressions as functions, which fix the order of derivatives. At
-- a mention of a rule they read a table; the tables are made by rising rule.
use Rattle.std.specs.Prelude.{◌≡◌, ℕ, zero, suc, ◌<◌, Bool, true, false, cond, ◌&&◌, ◌||◌, ◌↔◌, List, [], ◌∷◌, ◌++◌, map, get_or, ◌==◌, slice_index_or}
use Rattle.std.proofs.Math.Decide.{ℕ_discrete}
use Rattle.theory.specs.Language.{Expr, ExprDiscrete, none, empty, simple, rule, element, union, seq, star}
use Rattle.theory.specs.Derivative.{join, Null, Der}
use Rattle.theory.specs.Recursion.{Mentions, LawfulRules}
use Rattle.theory.specs.Count.{entered}
use Rattle.theory.specs.Inequality.{Member}

-- whether an expression is nullable, given which rules are
abbrev pub nullable? : (ℕ → Bool) → Expr → Bool
nullable? nulls none = false
nullable? nulls empty = true
nullable? nulls (simple b) = false
nullable? nulls (rule k) = nulls k
nullable? nulls (element e c) = false
nullable? nulls (union a b) = nullable? nulls a || nullable? nulls b
nullable? nulls (seq a b) = nullable? nulls a && nullable? nulls b
nullable? nulls (star a) = true

-- a derivative by trees: label, content and rest
abbrev pub Derived : Type 0
Derived = ℕ × Expr × Expr

-- two expressions are the same when they are built alike
abbrev pub same_expr : Expr → Expr → Bool
same_expr a b = elim (ExprDiscrete ℕ_discrete a b) [ yes e ↦ true | no e ↦ false ]

abbrev pub same_derived : Derived → Derived → Bool
same_derived a b = a.0 == b.0 && (same_expr a.1 b.1 && same_expr a.2 b.2)

-- the derivatives of a list in order, a repeated one dropped
abbrev pub once : List Derived → List Derived
once ds = entered same_derived [] ds

-- a derivative with s joined to its rest
abbrev pub joined : Expr → Derived → Derived
joined s d = (d.0, d.1, join d.2 s)

-- the derivatives of an expression in order, each once, given those of the rules
abbrev pub derivatives? : (ℕ → Bool) → (ℕ → List Derived) → Expr → List Derived
derivatives? nulls ders none = []
derivatives? nulls ders empty = []
derivatives? nulls ders (simple b) = (b, empty, empty) ∷ []
derivatives? nulls ders (rule k) = ders k
derivatives? nulls ders (element e c) = (e, c, empty) ∷ []
derivatives? nulls ders (union a b) = once (derivatives? nulls ders a ++ derivatives? nulls ders b)
derivatives? nulls ders (seq a b) = once
    (map (joined b) (derivatives? nulls ders a) ++ cond (nullable? nulls a) (derivatives? nulls ders b) [])
derivatives? nulls ders (star a) = once (map (joined (star a)) (derivatives? nulls ders a))

-- n entries, each made from those before it and its number
abbrev pub grown : {A : Type 0} → (List A → ℕ → A) → ℕ → List A
grown next zero = []
grown next (suc n) = grown next n ++ next (grown next n) n ∷ []

-- the nullability of rule k, given that of the rules before it
abbrev pub rule_null : (ℕ → Expr) → List Bool → ℕ → Bool
rule_null bodies before k = nullable? (λ j. get_or before j false) (bodies k)

-- which of the first n rules are nullable; no other number is
unfoldable pub nulls_of : (ℕ → Expr) → ℕ → ℕ → Bool
nulls_of bodies n k = slice_index_or (grown (rule_null bodies) n) k false

-- the derivatives of rule k, given those of the rules before it
abbrev pub rule_ders : (ℕ → Expr) → (ℕ → Bool) → List (List Derived) → ℕ → List Derived
rule_ders bodies nulls before k = derivatives? nulls (λ j. get_or before j []) (bodies k)

-- the derivatives of the first n rules; no other number has one
unfoldable pub ders_of : (ℕ → Expr) → ℕ → ℕ → List Derived
ders_of bodies n k = slice_index_or (grown (rule_ders bodies (nulls_of bodies n)) n) k []

-- whether an expression of a grammar with n rules is nullable
unfoldable pub nullable_of : (ℕ → Expr) → ℕ → Expr → Bool
nullable_of bodies n e = nullable? (nulls_of bodies n) e

-- the derivatives of an expression of a grammar with n rules
unfoldable pub derivatives_of : (ℕ → Expr) → ℕ → Expr → List Derived
derivatives_of bodies n e = derivatives? (nulls_of bodies n) (ders_of bodies n) e

-- every mention of e outside brackets is of one of n rules
abbrev pub OfRules : (ℕ → Expr) → ℕ → Expr → Type 0
OfRules bodies n e = (k : ℕ) (s g : Bool) → Mentions bodies e k s g → k < n

-- every mention of e, also inside brackets, is of one of n rules
abbrev pub Within : ℕ → Expr → Type 0
Within n none = Unit {0}
Within n empty = Unit {0}
Within n (simple b) = Unit {0}
Within n (rule k) = k < n
Within n (element e c) = Within n c
Within n (union a b) = Within n a × Within n b
Within n (seq a b) = Within n a × Within n b
Within n (star a) = Within n a

-- the functions tell nullability and list the derivatives of a lawful grammar's expressions
abbrev pub NullableLaw : Type 0
NullableLaw = (bodies : ℕ → Expr) (n : ℕ) → LawfulRules bodies n → (e : Expr) → OfRules bodies n e →
    (nullable_of bodies n e ≡ true) ↔ Null bodies e

abbrev pub DerivativesLaw : Type 0
DerivativesLaw = (bodies : ℕ → Expr) (n : ℕ) → LawfulRules bodies n → (e : Expr) → OfRules bodies n e →
    (h : ℕ) (c r : Expr) → Member (h, c, r) (derivatives_of bodies n e) ↔ Der bodies e h c r

-- a mention has the nullability and the derivatives of the rule's body
abbrev pub FollowedLaw : Type 0
FollowedLaw = (bodies : ℕ → Expr) (n : ℕ) → LawfulRules bodies n → (k : ℕ) → k < n →
    (nullable_of bodies n (rule k) ≡ nullable_of bodies n (bodies k)) ×
    (derivatives_of bodies n (rule k) ≡ derivatives_of bodies n (bodies k))

-- an expression whose mentions are all of n rules has only such contents and rests
abbrev pub WithinLaw : Type 0
WithinLaw = (bodies : ℕ → Expr) (n : ℕ) → ((k : ℕ) → Within n (bodies k)) →
    (e : Expr) (h : ℕ) (c r : Expr) → Within n e → Der bodies e h c r → Within n c × Within n r
