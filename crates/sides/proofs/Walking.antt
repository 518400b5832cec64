-- The turns of a walk over either-ors.
use Rattle.std.proofs.Common.{◌≡◌, ℕ, zero, suc, ◌+◌, ◌-◌, ◌^◌, ◌<◌, Bool, true, false, cond, List, [], ◌∷◌, ◌++◌, map, length, get_or, Some, sym, refl, ap, ap₂, ◌∙◌, add-one, append-nil, append_assoc, arith}
use Rattle.std.proofs.Math.Nat.{sub-zero}
use Rattle.std.specs.Iterator.{MakesProgress, item_count}
use Rattle.std.specs.List.{range_with_len}
use Rattle.std.proofs.lemmas.Bool.{cond-true}
use Rattle.model.specs.declared.rows.Row.{Row}
use Rattle.model.specs.Machine.{Derivative, states_of, derivatives_at}
use Rattle.std.proofs.lemmas.List.FromFn.{map-range_with_len_more}
use Rattle.theory.specs.Count.{each}
use Rattle.theory.specs.Inequality.{Pair, either_or, no_derivative, pairs, of_name}
use Rattle.theory.specs.Meeting.{sides_of}
use Rattle.sides.specs.declared.setting.Setting.{Setting}
use Rattle.sides.specs.declared.ors.EitherOrs.{EitherOrs}
use Rattle.sides.specs.View.{seen, covers_of}
use Rattle.sides.specs.Left.{left_of}
use Rattle.sides.proofs.Sided.{name_sides}
use Rattle.sides.specs.declared.either.EitherOr.{EitherOr}
use Rattle.sides.specs.Steps.{side_step, derivative_sides, derivative_step}
use Rattle.sides.specs.Ors.{held, ors_from, ors, rows_of}

module _ (covers : ℕ → ℕ → Bool) (t : ℕ) (ps : List Pair) (d : Derivative) (ds : List Derivative) (k : ℕ) where
  -- one more subset of the first derivative
  pub ors_next : covers d.0 t ≡ true → k < 2 ^ length ps →
      ors covers t ps (d ∷ ds) k ≡ held (either_or d ps k) ∷ ors covers t ps (d ∷ ds) (k + 1)
  ors_next is lt =
      let n = 2 ^ length ps - (k + 1) in
      let more : 2 ^ length ps - k ≡ suc n = omega arith in
      ap (λ l. l ++ ors covers t ps ds 0)
      (cond-true _ _ _ is ∙ ap (λ j. map (λ j. held (either_or d ps j)) (range_with_len k j)) more
      ∙ ap (λ l. held (either_or d ps k) ∷ l) (sym (cond-true _ _ [] is)))

-- an item that came leaves fewer
pub progress : {S A : Type 0} (rest : S → List A) (s t : S) (x : A) → rest s ≡ x ∷ rest t →
    MakesProgress (λ _. Unit {0}) (item_count rest) s (Some x) t
progress rest s t x is = record {
  on = λ _. (tt, tt, omega (arith, ap length is));
  keeps = tt;
  rests = λ _. tt;
}

pub rows-append : (xs ys : List EitherOr) → rows_of (xs ++ ys) ≡ rows_of xs ++ rows_of ys
rows-append [] ys = refl
rows-append (e ∷ xs) ys = ap (λ l. e.content ∷ (e.rest ∷ l)) (rows-append xs ys)

-- the first list of a row of lists apart
each_cons : {A : Type 0} (n : ℕ) (f : ℕ → List A) → each (suc n) f ≡ f 0 ++ each n (λ i. f (suc i))
each_cons zero f = sym (append-nil (f 0))
each_cons (suc n) f = ap (λ l. l ++ f (suc n)) (each_cons n f) ∙ append_assoc (f 0) (each n (λ i. f (suc i))) (f (suc n))

rows_when : (b : Bool) (xs : List EitherOr) → rows_of (cond b xs []) ≡ cond b (rows_of xs) []
rows_when true xs = refl
rows_when false xs = refl

rows_below : (ps : List Pair) (d : Derivative) (n : ℕ) → rows_of (map (λ j. held (either_or d ps j)) (range_with_len 0 n)) ≡ each n (side_step d ps)
rows_below ps d zero = refl
rows_below ps d (suc n) =
    ap (λ k. rows_of (map (λ j. held (either_or d ps j)) (range_with_len 0 k))) (sym (add-one n))
    ∙ ap rows_of (map-range_with_len_more (λ j. held (either_or d ps j)) 0 n n (omega arith))
    ∙ rows-append (map (λ j. held (either_or d ps j)) (range_with_len 0 n)) (held (either_or d ps n) ∷ [])
    ∙ ap (λ l. l ++ side_step d ps n) (rows_below ps d n)

-- the sides that a whole walk gives
pub ors_rows : (covers : ℕ → ℕ → Bool) (t : ℕ) (ps : List Pair) (ds : List Derivative) →
    rows_of (ors covers t ps ds 0) ≡ each (length ds) (λ i. derivative_sides covers t ps (get_or ds i no_derivative))
ors_rows covers t ps [] = refl
ors_rows covers t ps (d ∷ ds) =
    rows-append (ors_from covers t ps d 0) (ors covers t ps ds 0)
    ∙ ap₂ ◌++◌
    (rows_when (covers d.0 t) _ ∙ ap (λ l. cond (covers d.0 t) l [])
    (ap (λ n. rows_of (map (λ j. held (either_or d ps j)) (range_with_len 0 n))) (sub-zero (2 ^ length ps)) ∙ rows_below ps d (2 ^ length ps)))
    (ors_rows covers t ps ds)
    ∙ sym (each_cons (length ds) (λ i. derivative_sides covers t ps (get_or (d ∷ ds) i no_derivative)))

-- an either-or that came, between those before it and those left
pub turn_rows : (ys : List EitherOr) (e : EitherOr) (es all : List EitherOr) → ys ++ e ∷ es ≡ all →
    (rows_of ys ++ e.content ∷ []) ++ (e.rest ∷ rows_of es) ≡ rows_of all
turn_rows ys e es all is =
    append_assoc (rows_of ys) (e.content ∷ []) (e.rest ∷ rows_of es) ∙ sym (rows-append ys (e ∷ es)) ∙ ap rows_of is

-- the sides that the walk under a name gives are those of the name
pub name_rows : (s : Setting) (r : Row) (t : ℕ) (w : EitherOrs) (ps : List Pair) →
    left_of w ≡ ors (covers_of s.covers.now) t ps (derivatives_at (states_of s.machine.now) r.left) 0 →
    ps ≡ pairs (seen s) t r.right.bits → rows_of (left_of w) ≡ sides_of (of_name (seen s) r t)
name_rows s r t w ps is all =
    ap rows_of is ∙ ors_rows (covers_of s.covers.now) t ps (derivatives_at (states_of s.machine.now) r.left)
    ∙ ap (λ l. derivative_step (seen s) t r.left l) all ∙ name_sides (seen s) r t
