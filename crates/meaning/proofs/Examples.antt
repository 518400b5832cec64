-- The functions at work on small grammars.
use Rattle.std.proofs.Common.{◌≡◌, ℕ, true, false, [], ◌∷◌, get_or, refl}
use native.Mathlib.Decide.{ℕ_discrete}
use Rattle.theory.specs.Language.{Expr, none, empty, simple, rule, element, union, seq, star}
use Rattle.meaning.specs.Functions.{nulls_of, ders_of, nullable_of, derivatives_of}

-- two elements with text: a mark followed by lots, and marks and lots in any order
abbrev lot : Expr
lot = element 1 (simple 0)

abbrev mark : Expr
mark = element 2 (simple 0)

abbrev sent_and_read : ℕ → Expr
sent_and_read k = get_or (seq mark (star lot) ∷ star (union mark lot) ∷ []) k none

-- the first has one derivative, and is not nullable
sent_derivatives : derivatives_of sent_and_read 2 (rule 0) ≡ (2, simple 0, star lot) ∷ []
unfolding derivatives_of ders_of nulls_of ℕ_discrete
sent_derivatives = refl

sent_is_not_nullable : nullable_of sent_and_read 2 (rule 0) ≡ false
unfolding nullable_of nulls_of
sent_is_not_nullable = refl

-- the second has two, in order, and is nullable
read_derivatives : derivatives_of sent_and_read 2 (rule 1) ≡
    (2, simple 0, star (union mark lot)) ∷ (1, simple 0, star (union mark lot)) ∷ []
unfolding derivatives_of ders_of nulls_of ℕ_discrete
read_derivatives = refl

read_is_nullable : nullable_of sent_and_read 2 (rule 1) ≡ true
unfolding nullable_of nulls_of
read_is_nullable = refl

-- a rule that mentions itself in last place
loop_derivatives : derivatives_of (λ k. get_or (seq mark (rule 0) ∷ []) k none) 1 (rule 0) ≡
    (2, simple 0, rule 0) ∷ []
unfolding derivatives_of ders_of nulls_of ℕ_discrete
loop_derivatives = refl

-- those of a sequence's left side, then those of its right side
in_order : derivatives_of (λ k. none) 0 (seq (star (simple 0)) (union (simple 1) (seq (star (simple 0)) empty))) ≡
    (0, empty, seq (star (simple 0)) (union (simple 1) (seq (star (simple 0)) empty)))
    ∷ (1, empty, empty) ∷ (0, empty, seq (star (simple 0)) empty) ∷ []
unfolding derivatives_of ders_of nulls_of ℕ_discrete
in_order = refl

-- a repeated one comes once, at its first place
doubled : derivatives_of (λ k. none) 0 (union (union (simple 1) (simple 0)) (simple 1)) ≡
    (1, empty, empty) ∷ (0, empty, empty) ∷ []
unfolding derivatives_of ders_of nulls_of ℕ_discrete
doubled = refl
