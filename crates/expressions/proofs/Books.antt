-- Entering a record in a book, by the place where it is found.
use Rattle.std.proofs.Common.{◌≡◌, suc, ◌<◌, ◌≤◌, Bool, true, false, cond, List, [], ◌∷◌, ◌++◌, length, Some, None, sym, ap, ◌∙◌, ltb, arith}
use Rattle.std.proofs.lemmas.Bool.{cond-true, cond-false, lt-ltb, le-ltb}
use Rattle.theory.specs.Count.{enter}
use Rattle.book.specs.Place.{place}
use Rattle.book.proofs.Enter.{place_is, found, missing}

module _ {A : Type 0} (same : A → A → Bool) where
  pub place_le : (l : List A) (x : A) → place same l x ≤ length l
  place_le [] x = omega arith
  place_le (y ∷ l) x = go (same x y) (place_le l x)
    where
      go : (b : Bool) → place same l x ≤ length l → cond b 0 (suc (place same l x)) ≤ suc (length l)
      go true h = omega arith
      go false h = omega arith

  -- a record that is there
  pub enter_old : (l : List A) (x : A) → place same l x < length l → enter same l x ≡ l
  enter_old l x lt = (found same l x (place same l x) (sym
      (ap (λ k. cond (ltb k (length l)) (Some k) None) (sym (place_is same l x)) ∙ cond-true _ _ _ (lt-ltb _ _ lt)))).1

  -- a record that is not
  pub enter_new : (l : List A) (x : A) → length l ≤ place same l x → enter same l x ≡ l ++ x ∷ []
  enter_new l x le = (missing same l x (sym
      (ap (λ k. cond (ltb k (length l)) (Some k) None) (sym (place_is same l x)) ∙ cond-false _ _ _ (le-ltb _ _ le)))).1
