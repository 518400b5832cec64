-- What entering a record does to a book within its limit: the record is there, is new, or finds the
-- book full.
use Rattle.std.proofs.Common.{◌≡◌, ℕ, suc, ◌+◌, ◌<◌, ◌≤◌, Bool, true, false, cond, List, [], ◌∷◌, ◌++◌, length, take, set, Some, None, Ok, Err, sym, refl, ap, ◌∙◌, ltb, one-add, ⊎_elim, arith}
use Rattle.std.specs.List.{position, position_or_len}
use Rattle.std.proofs.lemmas.Bool.{cond-true, cond-false, lt-ltb, le-ltb, cases_lt}
use Rattle.std.proofs.lemmas.List.{take_all, take_more_set, length_push, length-take-le}
use Rattle.std.proofs.lemmas.List.Recursion.{is_position_or_len}
use Rattle.theory.specs.Count.{any, enter}
use Rattle.book.specs.Place.{place, numbered}

module _ {A : Type 0} (same : A → A → Bool) where
  -- the place of a record, in the library's words
  pub place_is : (l : List A) (x : A) → place same l x ≡ position_or_len (same x) l
  place_is l x = is_position_or_len (λ l. place same l x) (same x) refl (λ y ys. rw one-add) l

  -- a record that is there
  any_found : (l : List A) (x : A) → place same l x < length l → any (same x) l ≡ true
  any_found [] x lt = absurd (omega arith)
  any_found (y ∷ l) x lt = go (same x y) lt (any_found l x)
    where
      go : (b : Bool) → cond b 0 (suc (place same l x)) < suc (length l) →
          (place same l x < length l → any (same x) l ≡ true) →
          mathlib.Core.Bool.◌||◌ b (any (same x) l) ≡ true
      go true h rec = refl
      go false h rec = rec (omega arith)

  -- a record that is not
  any_new : (l : List A) (x : A) → length l ≤ place same l x → any (same x) l ≡ false
  any_new [] x le = refl
  any_new (y ∷ l) x le = go (same x y) le (any_new l x)
    where
      go : (b : Bool) → suc (length l) ≤ cond b 0 (suc (place same l x)) →
          (length l ≤ place same l x → any (same x) l ≡ false) →
          mathlib.Core.Bool.◌||◌ b (any (same x) l) ≡ false
      go true h rec = absurd (omega arith)
      go false h rec = rec (omega arith)

  -- what finding the record number i says
  pub found : (l : List A) (x : A) (i : ℕ) → Some i ≡ position (same x) l →
      (i ≡ place same l x) × (enter same l x ≡ l) × (i < length l)
  found l x i is = ⊎_elim
      (λ (lt : place same l x < length l).
      let e : Some i ≡ Some (place same l x) = is ∙ ap (λ k. cond (ltb k (length l)) (Some k) None) (sym (place_is l x)) ∙ cond-true _ _ _ (lt-ltb _ _ lt) in
      let at : i ≡ place same l x = cc in
      (at, cond-true _ _ _ (any_found l x lt), omega arith))
      (λ (ge : length l ≤ place same l x).
      let e : Some i ≡ None = is ∙ ap (λ k. cond (ltb k (length l)) (Some k) None) (sym (place_is l x)) ∙ cond-false _ _ _ (le-ltb _ _ ge) in
      cc)
      (cases_lt (place same l x) (length l))

  -- what finding none says
  pub missing : (l : List A) (x : A) → None ≡ position (same x) l →
      (length l ≡ place same l x) × (enter same l x ≡ l ++ x ∷ [])
  missing l x is = ⊎_elim
      (λ (lt : place same l x < length l).
      let e : None ≡ Some (place same l x) = is ∙ ap (λ k. cond (ltb k (length l)) (Some k) None) (sym (place_is l x)) ∙ cond-true _ _ _ (lt-ltb _ _ lt) in
      cc)
      (λ (ge : length l ≤ place same l x). (omega (arith, place_le l x), cond-false _ _ _ (any_new l x ge)))
      (cases_lt (place same l x) (length l))
    where
      place_le : (l : List A) (x : A) → place same l x ≤ length l
      place_le [] x = omega arith
      place_le (y ∷ l) x = go (same x y) (place_le l x)
        where
          go : (b : Bool) → place same l x ≤ length l → cond b 0 (suc (place same l x)) ≤ suc (length l)
          go true h = omega arith
          go false h = omega arith

  module _ (limit : ℕ) (l : List A) (x : A) where
    pub old_number : (i : ℕ) → length l ≤ limit → Some i ≡ position (same x) l → Ok i ≡ numbered same limit l x
    old_number i le is =
        let h = found l x i is in
        let small : length (enter same l x) ≤ limit = omega (arith, ap length h.1) in
        ap Ok h.0 ∙ sym (cond-false _ _ _ (le-ltb _ _ small))

    pub old_held : (i : ℕ) → length l ≤ limit → Some i ≡ position (same x) l → l ≡ take limit (enter same l x)
    old_held i le is = sym (take_all limit l le) ∙ ap (take limit) (sym (found l x i is).1)

    pub full_number : limit ≤ length l → None ≡ position (same x) l → Err record {} ≡ numbered same limit l x
    full_number le is =
        let large : limit < length (enter same l x) = omega (arith, ap length (missing l x is).1, length_push l x) in
        sym (cond-true _ _ _ (lt-ltb _ _ large))

    pub new_number : (n : ℕ) → n ≡ length l → n < limit → None ≡ position (same x) l → Ok n ≡ numbered same limit l x
    new_number n e lt is =
        let h = missing l x is in
        let small : length (enter same l x) ≤ limit = omega (arith, ap length h.1, length_push l x) in
        ap Ok (e ∙ h.0) ∙ sym (cond-false _ _ _ (le-ltb _ _ small))

  pub new_held : (rs : List A) (n : ℕ) (x : A) → n < length rs → None ≡ position (same x) (take n rs) →
      take (n + 1) (set rs n x) ≡ take (length rs) (enter same (take n rs) x)
  new_held rs n x lt is =
      let e = (missing (take n rs) x is).1 in
      let small : length (take n rs ++ x ∷ []) ≤ length rs = omega (arith, length_push (take n rs) x, length-take-le n rs (omega arith)) in
      take_more_set rs n x lt ∙ sym (take_all (length rs) _ small) ∙ ap (take (length rs)) (sym e)
