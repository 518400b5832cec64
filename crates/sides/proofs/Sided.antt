-- The sides of all either-ors, name by name and derivative by derivative.
use Rattle.std.proofs.Common.{◌≡◌, ℕ, zero, suc, ◌^◌, Bool, true, false, cond, List, [], ◌∷◌, ◌++◌, length, sym, refl, ap, ◌∙◌, ap₂}
use Rattle.std.proofs.lemmas.Bool.{or_parts, cond-false}
use Rattle.model.specs.declared.rows.Row.{Row}
use Rattle.theory.specs.Machine.{Machine}
use Rattle.theory.specs.Count.{each, some}
use Rattle.theory.specs.Inequality.{EitherOr, derivative, derivative_count, pairs, either_or, either_ors, of_name, of_derivative}
use Rattle.theory.specs.Meeting.{sides_of, sides}
use Rattle.sides.specs.Steps.{labelled_by, side_step, derivative_step}

pub sides_append : (xs ys : List EitherOr) → sides_of (xs ++ ys) ≡ sides_of xs ++ sides_of ys
sides_append [] ys = refl
sides_append (x ∷ xs) ys = ap (λ l. x.content ∷ (x.rest ∷ l)) (sides_append xs ys)

pub sides_each : (n : ℕ) (f : ℕ → List EitherOr) → sides_of (each n f) ≡ each n (λ i. sides_of (f i))
sides_each zero f = refl
sides_each (suc n) f = sides_append (each n f) (f n) ∙ ap (λ l. l ++ sides_of (f n)) (sides_each n f)

sides_when : (b : Bool) (xs : List EitherOr) → sides_of (cond b xs []) ≡ cond b (sides_of xs) []
sides_when true xs = refl
sides_when false xs = refl

each_same : {A : Type 0} (n : ℕ) (f g : ℕ → List A) → ((i : ℕ) → f i ≡ g i) → each n f ≡ each n g
each_same zero f g e = refl
each_same (suc n) f g e = ap₂ ◌++◌ (each_same n f g e) (e n)

pub sides_are : (m : Machine) (r : Row) → sides m r ≡ each m.names (λ t. sides_of (of_name m r t))
unfolding sides either_ors
sides_are m r = sides_each m.names (of_name m r)

-- the sides under a name, from the pairs under it
pub name_sides : (m : Machine) (r : Row) (t : ℕ) →
    derivative_step m t r.left (pairs m t r.right.bits) ≡ sides_of (of_name m r t)
unfolding of_name of_derivative
name_sides m r t =
    sym (sides_each (derivative_count m r.left) (of_derivative m r t) ∙ each_same (derivative_count m r.left) _ _ (λ i.
    sides_when (m.covers (derivative m r.left i).0 t) _
    ∙ ap (λ l. cond (m.covers (derivative m r.left i).0 t) l [])
    (sides_each (2 ^ length (pairs m t r.right.bits)) (λ k. either_or (derivative m r.left i) (pairs m t r.right.bits) k ∷ []))))

each_none : {A : Type 0} (n : ℕ) (p : ℕ → Bool) (f : ℕ → List A) → some n p ≡ false → each n (λ i. cond (p i) (f i) []) ≡ []
each_none zero p f e = refl
each_none (suc n) p f e =
    let parts = or_parts (some n p) (p n) e in
    ap₂ ◌++◌ (each_none n p f parts.0) (cond-false (p n) (f n) [] parts.1)

-- a name that no derivative of the left covers has none
pub name_none : (m : Machine) (r : Row) (t : ℕ) → labelled_by m r.left t ≡ false → sides_of (of_name m r t) ≡ []
name_none m r t none =
    sym (name_sides m r t)
    ∙ each_none (derivative_count m r.left) (λ i. m.covers (derivative m r.left i).0 t)
    (λ i. each (2 ^ length (pairs m t r.right.bits)) (side_step (derivative m r.left i) (pairs m t r.right.bits))) none
