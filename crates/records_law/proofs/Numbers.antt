-- Numbers as they are written and read.
use Rattle.std.proofs.Common.{◌≡◌, ℕ, zero, suc, ◌^◌, ◌<◌, ◌≤◌, Bool, true, false, cond, not, ◌||◌, eqb, leb, List, length, get_or, Some, None, Ok, decimal, Option, sym, refl, ap, ◌∙◌, ⊎_elim, arith}
use Rattle.std.specs.List.{list_all}
use Rattle.std.proofs.lemmas.Str.Parse.{IsNumeralModel, IsDigitsTest, numerals_by_fold, digits_value_short}
use Rattle.std.proofs.lemmas.Fmt.{decimal_digit, decimal_nonempty, length-decimal-le, first_decimal, digits_decimal, digits_value-decimal, decimal-digits_value}
use Rattle.std.proofs.lemmas.Bool.{and_parts, and_from, or_cases, or_left, or_right, leb-true, le-leb, eqb-true, eq-eqb, ne_eqb, not-true, not_from_false, cond-true, eqb-false}
use Rattle.text.specs.Forms.{digit, decimal_after, is_number, number_of}
use Rattle.text.specs.Fields.{number, value_in, or_number}

-- texts of digits and the numbers that they write
tells : IsDigitsTest (λ ds. list_all digit ds ≡ true)
tells =
    record {
      empty = refl;
      parts = λ c cs h. let p = and_parts (digit c) (list_all digit cs) h in let q = and_parts (leb 48 c) (leb c 57) p.0 in ((leb-true 48 c q.0, leb-true c 57 q.1), p.1);
      more = λ c cs i h. and_from (digit c) (list_all digit cs) (and_from (leb 48 c) (leb c 57) (le-leb 48 c i.0) (le-leb c 57 i.1)) h;
    }

pub own : IsNumeralModel (λ ds. list_all digit ds ≡ true) (decimal_after 0)
own = numerals_by_fold (λ ds. list_all digit ds ≡ true) tells decimal_after (record { empty = λ n. refl; more = λ n c cs h. refl })

-- a number that is read is written so
pub number_back : (bs : List ℕ) (n : ℕ) → number_of bs ≡ Some n → bs ≡ decimal n
number_back bs n h = go (is_number bs) refl h
  where
    go : (b : Bool) → is_number bs ≡ b → cond b (Some (decimal_after 0 bs)) None ≡ Some n → bs ≡ decimal n
    go false e k = absurd cc
    go true e k =
        let p = and_parts _ (list_all digit bs) e in
        let q = and_parts _ (eqb (length bs) 1 || not (eqb (get_or bs 0 0) 48)) p.0 in
        let r = and_parts (leb 1 (length bs)) (leb (length bs) 9) q.0 in
        let long : 1 ≤ length bs = leb-true 1 (length bs) r.0 in
        let short : length bs ≤ 9 = leb-true (length bs) 9 r.1 in
        let first : get_or bs 0 0 ≡ 48 → length bs ≡ 1 = λ z.
        ⊎_elim (λ a. eqb-true (length bs) 1 a) (λ a. absurd (eqb-false (get_or bs 0 0) 48 (not-true _ a) z)) (or_cases _ _ q.1) in
        let small : decimal_after 0 bs < 10 ^ 9 = digits_value_short own bs 9 p.1 short in
        let same : decimal_after 0 bs ≡ n = cc in
        sym (decimal-digits_value own bs p.1 long first (omega arith)) ∙ ap decimal same

-- a number below a thousand millions reads back
pub number_on : (n : ℕ) → n < 1000000000 → number_of (decimal n) ≡ Some n
number_on n h =
    let big : n < 2 ^ 64 = omega arith in
    let digits : list_all digit (decimal n) ≡ true = digits_decimal own n big in
    let long : leb 1 (length (decimal n)) ≡ true = le-leb 1 _ (decimal_nonempty n big) in
    let short : leb (length (decimal n)) 9 ≡ true = le-leb _ 9 (length-decimal-le 9 n (omega arith) (omega arith) big) in
    cond-true (is_number (decimal n)) _ _ (and_from _ _ (and_from _ _ (and_from _ _ long short) (lead n big)) digits)
    ∙ ap (λ k. Some k) (digits_value-decimal own n big)
  where
    lead : (n : ℕ) → n < 2 ^ 64 → (eqb (length (decimal n)) 1 || not (eqb (get_or (decimal n) 0 0) 48)) ≡ true
    lead zero b = or_left _ _ (eq-eqb _ 1 (ap length (decimal_digit 0 (omega arith))))
    lead (suc n) b =
        let f : 48 < get_or (decimal (suc n)) 0 0 = first_decimal (suc n) (omega arith) b in
        or_right _ _ (not_from_false _ (ne_eqb (get_or (decimal (suc n)) 0 0) 48 (λ e. omega (arith, e))))

-- the same of a field
pub value_on : (l n : ℕ) → n < 1000000000 → value_in (number l (decimal n)) ≡ Ok n
value_on l n h = ap (or_number l) (number_on n h)

pub value_back : (l n : ℕ) (p : List ℕ) → value_in (number l p) ≡ Ok n → p ≡ decimal n
value_back l n p h = number_back p n (go (number_of p) h)
  where
    go : (o : Option ℕ) → or_number l o ≡ Ok n → o ≡ Some n
    go None e = absurd cc
    go (Some v) e = cc
