-- The steps of a check of records, one by one.
use Rattle.std.proofs.Common.{◌≡◌, ℕ, suc, ◌+◌, ◌-◌, ◌/◌, ◌^◌, ◌<◌, ◌≤◌, min, Bool, true, false, cond, ◌&&◌, eqb, leb, List, [], ◌∷◌, length, get_or, take, drop, Ok, sym, ap, ◌∙◌, ⊎_elim, arith}
use native.Mathlib.Nat.{div-eq_of_lt}
use Rattle.std.proofs.lemmas.List.{at_drop_more, at_drop_all, get_or-take, length-take}
use Rattle.std.proofs.lemmas.Bool.{cond-true, cond-false, lt-ltb, le-leb, lt-leb, cases_lt}
use Rattle.records.specs.Chains.{roomless, misplaced}
use Rattle.writing.specs.Checks.{row_fits, places_checked}
use Rattle.model.specs.declared.rows.Row.{Row}

-- record i of ys, which are the first n, is x
pub check_more : {X : Type 0} (fits : ℕ → X → Bool) (xs ys : List X) (i n : ℕ) (x : X) → ys ≡ take n xs → i < length ys → x ≡ get_or ys i x →
    places_checked fits i (n - i) (drop i xs) ≡ cond (fits i x) (places_checked fits (i + 1) (n - (i + 1)) (drop (i + 1) xs)) (misplaced (i + 3))
check_more fits xs ys i n x is lt e =
    let l : length ys ≡ min n (length xs) = ap length is ∙ length-take n xs in
    let m : n - i ≡ suc (n - (i + 1)) = omega arith in
    let at : x ≡ get_or xs i x = e ∙ ap (λ zs. get_or zs i x) is ∙ get_or-take n xs i x (omega arith) in
    at_drop_more (places_checked fits i (n - i)) xs i x (omega arith)
    ∙ ap (λ k. places_checked fits i k (get_or xs i x ∷ drop (i + 1) xs)) m
    ∙ ap (λ y. cond (fits i y) (places_checked fits (i + 1) (n - (i + 1)) (drop (i + 1) xs)) (misplaced (i + 3))) (sym at)

-- it does not fit, or it does
pub check_refused : {X : Type 0} (fits : ℕ → X → Bool) (xs ys : List X) (i n : ℕ) (x : X) → ys ≡ take n xs → i < length ys → x ≡ get_or ys i x → false ≡ fits i x →
    places_checked fits i (n - i) (drop i xs) ≡ misplaced (i + 3)
check_refused fits xs ys i n x is lt e h = check_more fits xs ys i n x is lt e ∙ cond-false (fits i x) _ _ (sym h)

pub check_passed : {X : Type 0} (fits : ℕ → X → Bool) (xs ys : List X) (i n : ℕ) (x : X) → ys ≡ take n xs → i < length ys → x ≡ get_or ys i x → true ≡ fits i x →
    places_checked fits i (n - i) (drop i xs) ≡ places_checked fits (i + 1) (n - (i + 1)) (drop (i + 1) xs)
check_passed fits xs ys i n x is lt e h = check_more fits xs ys i n x is lt e ∙ cond-true (fits i x) _ _ (sym h)

-- all of them are passed: they are as many as asked for, or the next has no place
pub check_ended : {X : Type 0} (fits : ℕ → X → Bool) (xs ys : List X) (i n : ℕ) → ys ≡ take n xs → i ≡ length ys →
    places_checked fits i (n - i) (drop i xs) ≡ cond (leb n (length xs)) (Ok tt) (roomless (length xs + 3))
check_ended fits xs ys i n is e =
    let l : length ys ≡ min n (length xs) = ap length is ∙ length-take n xs in
    ⊎_elim
    (λ (lt : length xs < n).
    let at : i ≡ length xs = omega arith in
    let m : n - i ≡ suc (n - (i + 1)) = omega arith in
    at_drop_all (places_checked fits i (n - i)) xs i (omega arith)
    ∙ ap (λ k. places_checked fits i k []) m
    ∙ ap (λ k. roomless (k + 3)) at
    ∙ sym (cond-false (leb n (length xs)) _ _ (lt-leb _ _ lt)))
    (λ (le : n ≤ length xs).
    let m : n - i ≡ 0 = omega arith in
    ap (λ k. places_checked fits i k (drop i xs)) m ∙ sym (cond-true (leb n (length xs)) _ _ (le-leb _ _ le)))
    (cases_lt (length xs) n)

-- a row over few states, and one over all that a set can hold
pub fits_few : (states : ℕ) (r : Row) → r.left < states → states < 128 → eqb (r.right.bits / 2 ^ states) 0 ≡ row_fits states r
fits_few states r lt few =
    let m : min states 128 ≡ states = omega arith in
    sym (ap (λ b. b && eqb (r.right.bits / 2 ^ min states 128) 0) (lt-ltb r.left states lt) ∙ ap (λ k. eqb (r.right.bits / 2 ^ k) 0) m)

pub fits_all : (states : ℕ) (r : Row) → r.left < states → 128 ≤ states → r.right.bits < 2 ^ 128 → true ≡ row_fits states r
fits_all states r lt many small =
    let m : min states 128 ≡ 128 = omega arith in
    sym (ap (λ b. b && eqb (r.right.bits / 2 ^ min states 128) 0) (lt-ltb r.left states lt) ∙ ap (λ k. eqb (r.right.bits / 2 ^ k) 0) m ∙ ap (λ k. eqb k 0) (div-eq_of_lt small))
