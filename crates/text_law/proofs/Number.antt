-- Numbers as they are written.
use Rattle.std.proofs.Common.{◌≡◌, ℕ, ◌^◌, ◌<◌, ◌≤◌, true, false, cond, not, ◌||◌, eqb, List, length, get_or, Some, None, decimal, sym, ap, ◌∙◌, ⊎_elim, arith, rules}
use Rattle.std.specs.List.{list_all}
use Rattle.std.proofs.lemmas.Option.{cond_some}
use Rattle.std.proofs.lemmas.Str.Parse.{IsNumeralModel, numerals_by_fold, digits_value_short}
use Rattle.std.proofs.lemmas.Fmt.{digits_decimal, digits_value-decimal, decimal-digits_value, decimal_nonempty, length-decimal-le, first_decimal, decimal_digit}
use Rattle.std.proofs.lemmas.Bool.{and_parts, and_from, le-leb, leb-true, or_cases, eqb-true, eq-eqb, ne_eqb, or_left, or_right, not-true, not_from_false, eqb-false, cases_eq}
use Rattle.text_law.specs.Writing.{lacks}
use Rattle.text_law.proofs.Cut.{lacks_all}
use Rattle.text.specs.Forms.{digit, decimal_after, is_number, number_of}

abbrev Digital : List ℕ → Type 0
Digital ds = list_all digit ds ≡ true

own : IsNumeralModel Digital (decimal_after 0)
own = numerals_by_fold Digital (search rules) decimal_after (search rules)

-- the parts of a number's form
formed : (bs : List ℕ) → is_number bs ≡ true → (0 < length bs) × (length bs ≤ 9) × (get_or bs 0 0 ≡ 48 → length bs ≡ 1) × (list_all digit bs ≡ true)
formed bs h =
    let p = and_parts _ _ h in
    let q = and_parts _ _ p.0 in
    let r = and_parts _ _ q.0 in
    let one : 1 ≤ length bs = leb-true _ _ r.0 in
    (omega arith, leb-true _ _ r.1, λ z. ⊎_elim (λ e. eqb-true _ _ e) (λ e. absurd (eqb-false _ _ (not-true _ e) z)) (or_cases _ _ q.1), p.1)

-- a number is written in one way
pub decimal_said : (bs : List ℕ) (v : ℕ) → number_of bs ≡ Some v → (bs ≡ decimal v) × (v < 1000000000)
decimal_said bs v h =
    let e = cond_some (is_number bs) (decimal_after 0 bs) v h in
    let f = formed bs e.0 in
    let small : decimal_after 0 bs < 10 ^ 9 = digits_value_short own bs 9 f.3 f.1 in
    let w : decimal_after 0 bs ≡ v = e.1 in
    (sym (decimal-digits_value own bs f.3 f.0 f.2 (omega arith)) ∙ ap decimal w, omega arith)

-- what is written of a number below a thousand million is that number
pub number_decimal : (v : ℕ) → v < 1000000000 → number_of (decimal v) ≡ Some v
number_decimal v h =
    let wide : v < 2 ^ 64 = omega arith in
    let some : 0 < length (decimal v) = decimal_nonempty v wide in
    let few : length (decimal v) ≤ 9 = length-decimal-le 9 v (omega arith) (omega arith) wide in
    let lead : (eqb (length (decimal v)) 1 || not (eqb (get_or (decimal v) 0 0) 48)) ≡ true =
    ⊎_elim
    (λ (z : v ≡ 0). or_left _ _ (eq-eqb (length (decimal v)) 1 (ap (λ n. length (decimal n)) z ∙ ap (λ (l : List ℕ). length l) (decimal_digit 0 (omega arith)))))
    (λ (z : v ≡ 0 → ⊥).
    let big : 48 < get_or (decimal v) 0 0 = first_decimal v (omega arith) wide in
    or_right _ _ (not_from_false _ (ne_eqb (get_or (decimal v) 0 0) 48 (λ (e : get_or (decimal v) 0 0 ≡ 48). omega arith))))
    (cases_eq v 0) in
    let all = digits_decimal own v wide in
    let ok : is_number (decimal v) ≡ true = and_from _ _ (and_from _ _ (and_from _ _ (le-leb _ _ (omega arith)) (le-leb _ _ few)) lead) all in
    ap (λ b. cond b (Some (decimal_after 0 (decimal v))) None) ok ∙ ap Some (digits_value-decimal own v wide)

-- it holds digits alone
pub lacks_decimal : (m v : ℕ) → v < 1000000000 → digit m ≡ false → lacks m (decimal v) ≡ true
lacks_decimal m v h o = lacks_all digit m (decimal v) o (digits_decimal own v (omega arith))
