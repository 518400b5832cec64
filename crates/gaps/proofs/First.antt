-- The first answer of a function of numbers.
use Rattle.std.proofs.Common.{◌≡◌, ℕ, zero, suc, ◌+◌, ◌<◌, Some, None, Option, sym, refl, ap, ◌∙◌, ap₂, ⊎_elim, add-one, arith}
use Rattle.std.proofs.lemmas.Bool.{cases_eq}
use Rattle.std.specs.Option.{option_or}
use Rattle.gaps.specs.Gaps.{first}

-- none so far, and none here
pub first_more : {X : Type 0} (f : ℕ → Option X) (n : ℕ) → first n f ≡ None → f n ≡ None → first (n + 1) f ≡ None
first_more f n none here = ap (λ k. first k f) (add-one n) ∙ ap₂ option_or none here

-- none before, and one here
pub first_at : {X : Type 0} (f : ℕ → Option X) (i n : ℕ) (x : X) → i < n → first i f ≡ None → f i ≡ Some x →
    first n f ≡ Some x
first_at f i zero x lt none here = absurd (omega arith)
first_at f i (suc n) x lt none here = ⊎_elim
    (λ (e : i ≡ n). ap₂ option_or (ap (λ k. first k f) (sym e) ∙ none) (ap f (sym e) ∙ here))
    (λ ne. ap (λ o. option_or o (f n)) (first_at f i n x (omega arith) none here))
    (cases_eq i n)

-- at the end
pub first_end : {X : Type 0} (f : ℕ → Option X) {i n : ℕ} {o : Option X} → i ≡ n → first i f ≡ o → first n f ≡ o
first_end f e is = ap (λ k. first k f) (sym e) ∙ is

-- none anywhere
pub first_none : {X : Type 0} (f : ℕ → Option X) (n : ℕ) → ((i : ℕ) → i < n → f i ≡ None) → first n f ≡ None
first_none f zero all = refl
first_none f (suc n) all = ap₂ option_or (first_none f n (λ i lt. all i (omega arith))) (all n (omega arith))
