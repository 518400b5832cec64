-- Lists and tests over the numbers below a bound, and lists without repeats.
use Rattle.std.specs.Prelude.{ℕ, zero, suc, Bool, false, cond, ◌||◌, List, [], ◌∷◌, ◌++◌}

-- f 0, then f 1, and so on up to f (n - 1)
abbrev pub each : {A : Type 0} → ℕ → (ℕ → List A) → List A
each zero f = []
each (suc n) f = each n f ++ f n

-- whether p holds of some number below n
abbrev pub some : ℕ → (ℕ → Bool) → Bool
some zero p = false
some (suc n) p = some n p || p n

-- whether some element of a list passes p
abbrev pub any : {A : Type 0} → (A → Bool) → List A → Bool
any p [] = false
any p (x ∷ xs) = p x || any p xs

-- A book holds each record once: a record that it has changes nothing, a new one comes last.
-- `same` tells whether two records are the same.
abbrev pub enter : {A : Type 0} → (A → A → Bool) → List A → A → List A
enter same book x = cond (any (same x) book) book (book ++ x ∷ [])

-- the book after a list of records was entered in order
abbrev pub entered : {A : Type 0} → (A → A → Bool) → List A → List A → List A
entered same book [] = book
entered same book (x ∷ xs) = entered same (enter same book x) xs
