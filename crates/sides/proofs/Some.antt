-- Looking for a number below a bound that passes a test.
use Rattle.std.proofs.Common.{◌≡◌, ℕ, zero, suc, ◌<◌, ◌≤◌, Bool, true, false, ◌&&◌, ◌||◌, List, [], ◌∷◌, ◌++◌, length, get_or, take, sym, refl, ap, ◌∙◌, ⊎_elim, add-one, map-id, arith}
use Rattle.std.specs.List.{list_any, range_with_len}
use Rattle.std.proofs.Math.Bool.{or-false}
use Rattle.std.proofs.lemmas.Bool.{or_left, or_right, cases_eq}
use Rattle.std.proofs.lemmas.List.{take_all}
use Rattle.std.proofs.lemmas.List.Folds.{list_any_more, list_any-append}
use Rattle.std.proofs.lemmas.List.FromFn.{map-range_with_len_more}
use Rattle.theory.specs.Count.{some}

pub some_at : (p : ℕ → Bool) (i n : ℕ) → i < n → p i ≡ true → some n p ≡ true
some_at p i zero lt is = absurd (omega arith)
some_at p i (suc n) lt is = ⊎_elim
    (λ (e : i ≡ n). or_right (some n p) (p n) (ap p (sym e) ∙ is))
    (λ ne. or_left (some n p) (p n) (some_at p i n (omega arith) is))
    (cases_eq i n)

or_and : (x y b : Bool) → ((x && b) || (y && b)) ≡ ((x || y) && b)
or_and true y true = refl
or_and true true false = refl
or_and true false false = refl
or_and false y b = refl

-- a test that does not depend on the number stands apart
pub some_and : (n : ℕ) (p : ℕ → Bool) (b : Bool) → some n (λ i. p i && b) ≡ (some n p && b)
some_and zero p b = refl
some_and (suc n) p b = ap (λ x. x || (p n && b)) (some_and n p b) ∙ or_and (some n p) (p n) b

pub some_same : (n : ℕ) (p q : ℕ → Bool) → ((i : ℕ) → p i ≡ q i) → some n p ≡ some n q
some_same zero p q e = refl
some_same (suc n) p q e = ap (λ x. x || p n) (some_same n p q e) ∙ ap (λ x. some n q || x) (e n)

-- the items of a list, by their numbers
pub some_of : {A : Type 0} (p : A → Bool) (l : List A) (d : A) → list_any p l ≡ some (length l) (λ i. p (get_or l i d))
some_of {A} p l d = ap (list_any p) (sym (take_all (length l) l (omega arith))) ∙ first (length l) (omega arith)
  where
    first : (n : ℕ) → n ≤ length l → list_any p (take n l) ≡ some n (λ i. p (get_or l i d))
    first zero le = refl
    first (suc n) le = ap (λ k. list_any p (take k l)) (sym (add-one n)) ∙ list_any_more p l n d (omega arith) ∙ ap (λ b. b || p (get_or l n d)) (first n (omega arith))

-- the numbers below a bound
pub some_below : (p : ℕ → Bool) (n : ℕ) → list_any p (range_with_len 0 n) ≡ some n p
some_below p zero = refl
some_below p (suc n) =
    let e : range_with_len 0 (suc n) ≡ range_with_len 0 n ++ n ∷ [] =
    ap (range_with_len 0) (sym (add-one n)) ∙ sym (map-id _) ∙ map-range_with_len_more (λ k. k) 0 n n (omega arith) ∙ ap (λ l. l ++ n ∷ []) (map-id _) in
    ap (list_any p) e ∙ list_any-append p (range_with_len 0 n) (n ∷ []) ∙ ap (λ b. b || (p n || false)) (some_below p n)
    ∙ ap (λ b. some n p || b) (or-false (p n))
