-- Inequalities: a left state against a set of right states, held in a row. An inequality holds when
-- each hedge of the left state is a hedge of some state on the right.
use Rattle.std.specs.Prelude.{ℕ, zero, suc, ◌/◌, ◌%◌, ◌^◌, Bool, true, false, cond, not, ◌&&◌, ◌≡◌, List, [], ◌∷◌, length, get_or, eqb, ltb}
use Rattle.model.specs.declared.rows.Row.{Row}
use Rattle.model.specs.Sets.{has, insert}
use Rattle.model.specs.Machine.{Derivative, nullable_at, derivatives_at}
use Rattle.theory.specs.Hedge.{Hedge}
use Rattle.theory.specs.Count.{each, some, entered}
use Rattle.theory.specs.Machine.{Machine, accepts}

-- a row from its left state and the bits of its right set
abbrev pub row : ℕ → ℕ → Row
row q s = record { left = q; right = record { bits = s } }

-- two rows are the same inequality
abbrev pub same_row : Row → Row → Bool
same_row a b = eqb a.left b.left && eqb a.right.bits b.right.bits

-- The inequality says something true: the right has every hedge of the left.
abbrev pub Holds : Machine → Row → Type 0
Holds m r = (h : Hedge) → accepts m h r.left ≡ true →
    (q : ℕ) × (has r.right.bits q ≡ true) × (accepts m h q ≡ true)

-- some state of the set is nullable
unfoldable pub some_nullable : Machine → ℕ → Bool
some_nullable m s = some (length m.states) (λ q. has s q && nullable_at m.states q)

-- inconsistent: the left has the empty hedge, and no state on the right has it
unfoldable pub inconsistent : Machine → Row → Bool
inconsistent m r = nullable_at m.states r.left && not (some_nullable m r.right.bits)

-- no derivative
abbrev pub no_derivative : Derivative
no_derivative = (0, 0, 0)

-- the derivative number i of the state q
abbrev pub derivative : Machine → ℕ → ℕ → Derivative
derivative m q i = get_or (derivatives_at m.states q) i no_derivative

-- how many derivatives the state q has
abbrev pub derivative_count : Machine → ℕ → ℕ
derivative_count m q = length (derivatives_at m.states q)

-- a content with a rest
abbrev pub Pair : Type 0
Pair = ℕ × ℕ

abbrev pub same_pair : Pair → Pair → Bool
same_pair a b = eqb a.0 b.0 && eqb a.1 b.1

-- the pairs of the derivatives of q whose label covers t, in order
unfoldable pub pairs_of : Machine → ℕ → ℕ → List Pair
pairs_of m t q = each (derivative_count m q) (λ i.
    cond (m.covers (derivative m q i).0 t) (((derivative m q i).1, (derivative m q i).2) ∷ []) [])

-- the same over a set of states, by rising state
unfoldable pub all_pairs : Machine → ℕ → ℕ → List Pair
all_pairs m t s = each (length m.states) (λ q. cond (has s q) (pairs_of m t q) [])

-- the distinct ones among them
unfoldable pub pairs : Machine → ℕ → ℕ → List Pair
pairs m t s = entered same_pair [] (all_pairs m t s)

-- Wide: under some name that a derivative of the left covers, the right has more than 8 pairs.
unfoldable pub wide : Machine → Row → Bool
wide m r = some m.names (λ t. some (derivative_count m r.left) (λ i.
    m.covers (derivative m r.left i).0 t && ltb 8 (length (pairs m t r.right.bits))))

-- whether bit i of k is set
abbrev pub bit : ℕ → ℕ → Bool
bit k i = eqb ((k / 2 ^ i) % 2) 1

-- the contents of those of the first n pairs whose bit in k is set
abbrev pub contents : List Pair → ℕ → ℕ → ℕ
contents ps k zero = 0
contents ps k (suc n) = cond (bit k n) (insert (contents ps k n) (get_or ps n (0, 0)).0) (contents ps k n)

-- the rests of those of the first n pairs whose bit in k is not set
abbrev pub rests : List Pair → ℕ → ℕ → ℕ
rests ps k zero = 0
rests ps k (suc n) = cond (bit k n) (rests ps k n) (insert (rests ps k n) (get_or ps n (0, 0)).1)

-- An either-or: the inequality holds only if its content side or its rest side does.
pub record EitherOr : Type 0 where
  pub content : Row
  pub rest : Row

-- the either-or of the derivative (h, c, r) on the left, the pairs on the right and the subset k
unfoldable pub either_or : Derivative → List Pair → ℕ → EitherOr
either_or d ps k = record {
  content = row d.1 (contents ps k (length ps));
  rest = row d.2 (rests ps k (length ps));
}

-- those of one name t and the derivative number i of the left: one for each subset of the pairs
unfoldable pub of_derivative : Machine → Row → ℕ → ℕ → List EitherOr
of_derivative m r t i =
    cond (m.covers (derivative m r.left i).0 t)
    (each (2 ^ length (pairs m t r.right.bits))
    (λ k. either_or (derivative m r.left i) (pairs m t r.right.bits) k ∷ []))
    []

-- those of one name, by the derivatives of the left in order
unfoldable pub of_name : Machine → Row → ℕ → List EitherOr
of_name m r t = each (derivative_count m r.left) (of_derivative m r t)

-- all either-ors of an inequality: names rising, derivatives of the left in order, subsets rising
unfoldable pub either_ors : Machine → Row → List EitherOr
either_ors m r = each m.names (of_name m r)

-- x is an element of the list
pub data Member {A : Type 0} (x : A) : List A → Type 0 where
  here : {xs : List A} → Member x (x ∷ xs)
  there : {y : A} {xs : List A} → Member x xs → Member x (y ∷ xs)

-- Reachable from a root: the root, and both sides of every either-or of each reachable inequality
-- that is not wide. This is the least such set.
pub data Reachable (m : Machine) (root : Row) : Row → Type 0 where
  at_root : Reachable m root root
  by_content : {r : Row} {e : EitherOr} → Reachable m root r → wide m r ≡ false →
      Member e (either_ors m r) → Reachable m root e.content
  by_rest : {r : Row} {e : EitherOr} → Reachable m root r → wide m r ≡ false →
      Member e (either_ors m r) → Reachable m root e.rest

-- Refuted: the least set with each inconsistent inequality and each that has an either-or both of
-- whose sides are refuted.
pub data Refuted (m : Machine) : Row → Type 0 where
  by_empty : {r : Row} → inconsistent m r ≡ true → Refuted m r
  by_either_or : {r : Row} {e : EitherOr} → Member e (either_ors m r) →
      Refuted m e.content → Refuted m e.rest → Refuted m r
