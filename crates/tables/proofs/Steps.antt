-- Spellings, one after the other.
use Rattle.std.proofs.Common.{◌≡◌, ℕ, ◌+◌, ◌<◌, ◌||◌, Bool, List, [], ◌∷◌, length, get_or, map, drop, refl, ap, ◌∙◌, Bor}
use Rattle.std.proofs.lemmas.List.{at_drop_more}
use Rattle.std.specs.List.{list_any}
use Rattle.std.specs.Str.{bytes_eq}
use Rattle.tables.specs.Checks.{has}

-- a search among references is one among what they refer to
pub any_has : (s : List ℕ) (xs : List (Bor (List ℕ))) → list_any (λ x. bytes_eq x.now s) xs ≡ has s (map (λ x. x.now) xs)
any_has s [] = refl
any_has s (x ∷ xs) = ap (λ b. bytes_eq x.now s || b) (any_has s xs)

-- a search among spellings goes on with the next one
pub has_more : (s : List ℕ) (xs : List (Bor (List ℕ))) (i : ℕ) (d : Bor (List ℕ)) (r : Bool) → i < length xs → bytes_eq (get_or xs i d).now s ≡ r → has s (map (λ x. x.now) (drop i xs)) ≡ (r || has s (map (λ x. x.now) (drop (i + 1) xs)))
has_more s xs i d r h m = at_drop_more (λ l. has s (map (λ x. x.now) l)) xs i d h ∙ ap (λ b. b || has s (map (λ x. x.now) (drop (i + 1) xs))) m
