-- The first item that a walk over either-ors finds.
use Rattle.std.proofs.Common.{◌≡◌, ℕ, zero, suc, ◌^◌, Bool, true, false, cond, List, [], ◌∷◌, ◌++◌, map, length, get_or, Option, Some, None, sym, refl, ap, ap₂, ◌∙◌, add-one, arith}
use Rattle.std.proofs.Math.Nat.{sub-zero}
use Rattle.std.specs.List.{range_with_len}
use Rattle.std.proofs.lemmas.List.FromFn.{map-range_with_len_more}
use Rattle.model.specs.declared.rows.Row.{Row}
use Rattle.model.specs.declared.rows.Item.{Item}
use Rattle.model.specs.Machine.{Derivative, states_of, derivatives_at}
use Rattle.theory.specs.Inequality.{Pair, either_or, no_derivative, pairs}
use Rattle.sides.specs.declared.either.EitherOr.{EitherOr}
use Rattle.sides.specs.declared.ors.EitherOrs.{EitherOrs}
use Rattle.sides.specs.declared.setting.Setting.{Setting}
use Rattle.sides.specs.View.{seen, covers_of}
use Rattle.sides.specs.Ors.{held, ors_from, ors}
use Rattle.sides.specs.Left.{left_of}
use Rattle.marking.specs.Refutes.{Marks, mark_of, joined, first, of_subset, of_covered, of_derivatives}

-- the item t of an either-or
abbrev pub item_at : List Row → Marks → ℕ → EitherOr → Option Item
item_at rows marks t e = joined t (mark_of rows marks e.content) (mark_of rows marks e.rest)

-- an item, or else another
abbrev then : Option Item → Option Item → Option Item
then o p = elim o [ Some x ↦ Some x | None ↦ p ]

-- the first item that f has of the elements of a list
abbrev pub found : (EitherOr → Option Item) → List EitherOr → Option Item
found f [] = None
found f (e ∷ es) = then (f e) (found f es)

then_assoc : (o p q : Option Item) → then (then o p) q ≡ then o (then p q)
then_assoc None p q = refl
then_assoc (Some x) p q = refl

then_none : (o : Option Item) → then o None ≡ o
then_none None = refl
then_none (Some x) = refl

found-append : (f : EitherOr → Option Item) (xs ys : List EitherOr) → found f (xs ++ ys) ≡ then (found f xs) (found f ys)
found-append f [] ys = refl
found-append f (e ∷ xs) ys = ap (then (f e)) (found-append f xs ys) ∙ sym (then_assoc (f e) (found f xs) (found f ys))

pub found_more : (f : EitherOr → Option Item) (ys : List EitherOr) (e : EitherOr) → found f ys ≡ None → f e ≡ None → found f (ys ++ e ∷ []) ≡ None
found_more f ys e none here = found-append f ys (e ∷ []) ∙ ap₂ then none (ap (λ o. then o None) here)

pub found_at : (f : EitherOr → Option Item) (ys : List EitherOr) (e : EitherOr) (es : List EitherOr) (x : Item) → found f ys ≡ None → f e ≡ Some x →
    found f (ys ++ e ∷ es) ≡ Some x
found_at f ys e es x none here = found-append f ys (e ∷ es) ∙ ap₂ then none (ap (λ o. then o (found f es)) here)

-- the first number apart
first_cons : (n : ℕ) (f : ℕ → Option Item) → first (suc n) f ≡ then (f 0) (first n (λ i. f (suc i)))
first_cons zero f = sym (then_none (f 0))
first_cons (suc n) f = ap (λ o. then o (f (suc n))) (first_cons n f) ∙ then_assoc (f 0) (first n (λ i. f (suc i))) (f (suc n))

found_when : (f : EitherOr → Option Item) (b : Bool) (xs : List EitherOr) → found f (cond b xs []) ≡ cond b (found f xs) None
found_when f true xs = refl
found_when f false xs = refl

module _ (rows : List Row) (marks : Marks) (t : ℕ) (ps : List Pair) where
  found_below : (d : Derivative) (n : ℕ) →
      found (item_at rows marks t) (map (λ j. held (either_or d ps j)) (range_with_len 0 n)) ≡ first n (of_subset rows marks t d ps)
  found_below d zero = refl
  found_below d (suc n) =
      ap (λ k. found (item_at rows marks t) (map (λ j. held (either_or d ps j)) (range_with_len 0 k))) (sym (add-one n))
      ∙ ap (found (item_at rows marks t)) (map-range_with_len_more (λ j. held (either_or d ps j)) 0 n n (omega arith))
      ∙ found-append (item_at rows marks t) (map (λ j. held (either_or d ps j)) (range_with_len 0 n)) (held (either_or d ps n) ∷ [])
      ∙ ap₂ then (found_below d n) (then_none (of_subset rows marks t d ps n))

  -- what a whole walk finds
  found_all : (covers : ℕ → ℕ → Bool) (ds : List Derivative) →
      found (item_at rows marks t) (ors covers t ps ds 0) ≡ first (length ds) (λ i. of_covered covers rows marks t ps (get_or ds i no_derivative))
  found_all covers [] = refl
  found_all covers (d ∷ ds) =
      found-append (item_at rows marks t) (ors_from covers t ps d 0) (ors covers t ps ds 0)
      ∙ ap₂ then
      (found_when (item_at rows marks t) (covers d.0 t) _ ∙ ap (λ o. cond (covers d.0 t) o None)
      (ap (λ n. found (item_at rows marks t) (map (λ j. held (either_or d ps j)) (range_with_len 0 n))) (sub-zero (2 ^ length ps)) ∙ found_below d (2 ^ length ps)))
      (found_all covers ds)
      ∙ sym (first_cons (length ds) (λ i. of_covered covers rows marks t ps (get_or (d ∷ ds) i no_derivative)))

-- ... under a name
pub name_found : (s : Setting) (rows : List Row) (marks : Marks) (r : Row) (t : ℕ) (w : EitherOrs) (ps : List Pair) →
    left_of w ≡ ors (covers_of s.covers.now) t ps (derivatives_at (states_of s.machine.now) r.left) 0 →
    ps ≡ pairs (seen s) t r.right.bits →
    found (item_at rows marks t) (left_of w) ≡ of_derivatives (seen s) rows marks t r.left (pairs (seen s) t r.right.bits)
name_found s rows marks r t w ps is all =
    ap (found (item_at rows marks t)) is ∙ found_all rows marks t ps (covers_of s.covers.now) (derivatives_at (states_of s.machine.now) r.left)
    ∙ ap (λ l. of_derivatives (seen s) rows marks t r.left l) all
