-- The first item that is found below a bound.
use Rattle.std.proofs.Common.{◌≡◌, ℕ, zero, suc, ◌<◌, Bool, false, cond, Some, None, Option, sym, refl, ap, ◌∙◌, ⊎_elim, arith}
use Rattle.std.proofs.lemmas.Bool.{cases_eq, or_parts, cond-false}
use Rattle.model.specs.declared.rows.Item.{Item}
use Rattle.theory.specs.Count.{some}
use Rattle.marking.specs.Refutes.{first}

-- what one number more gives
abbrev then : Option Item → Option Item → Option Item
then o p = elim o [ Some x ↦ Some x | None ↦ p ]

pub first_at : (f : ℕ → Option Item) (i n : ℕ) (x : Item) → i < n → first i f ≡ None → f i ≡ Some x → first n f ≡ Some x
first_at f i zero x lt none here = absurd (omega arith)
first_at f i (suc n) x lt none here = ⊎_elim
    (λ (e : i ≡ n). ap (λ k. then (first k f) (f n)) (sym e) ∙ ap (λ o. then o (f n)) none ∙ ap f (sym e) ∙ here)
    (λ ne. ap (λ o. then o (f n)) (first_at f i n x (omega arith) none here))
    (cases_eq i n)

-- nothing is found where a test fails at each number
pub first_unless : (n : ℕ) (p : ℕ → Bool) (f : ℕ → Option Item) → some n p ≡ false → first n (λ i. cond (p i) (f i) None) ≡ None
first_unless zero p f e = refl
first_unless (suc n) p f e =
    let parts = or_parts (some n p) (p n) e in
    ap (λ o. then o (cond (p n) (f n) None)) (first_unless n p f parts.0) ∙ cond-false (p n) (f n) None parts.1

-- what is found is found somewhere
pub first_found : (n : ℕ) (f : ℕ → Option Item) (x : Item) → first n f ≡ Some x → (i : ℕ) × (i < n) × (f i ≡ Some x)
first_found zero f x e = cc
first_found (suc n) f x e = go (first_found n f x) (first n f) refl e
  where
    go : (first n f ≡ Some x → (i : ℕ) × (i < n) × (f i ≡ Some x)) → (o : Option Item) → first n f ≡ o →
        then o (f n) ≡ Some x → (i : ℕ) × (i < suc n) × (f i ≡ Some x)
    go rec (Some y) is at = let old = rec (is ∙ at) in (old.0, omega (arith, old.1), old.2)
    go rec None is at = (n, omega arith, at)

-- where nothing is found, nothing is anywhere
pub first_none : (n : ℕ) (f : ℕ → Option Item) → first n f ≡ None → (i : ℕ) → i < n → f i ≡ None
first_none zero f e i lt = absurd (omega arith)
first_none (suc n) f e i lt = go (λ none less. first_none n f none i less) (first n f) refl e
  where
    go : (first n f ≡ None → i < n → f i ≡ None) → (o : Option Item) → first n f ≡ o → then o (f n) ≡ None → f i ≡ None
    go rec (Some y) is at = cc
    go rec None is at = ⊎_elim
        (λ (same : i ≡ n). ap f same ∙ at)
        (λ ne. rec is (omega arith))
        (cases_eq i n)
