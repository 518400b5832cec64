-- Lists without repeats, by a test that tells whether two elements are the same.
use Rattle.std.specs.Prelude.{◌≡◌, Bool, false, List, [], ◌∷◌}
use Rattle.theory.specs.Count.{any}

-- no element of the list is the same as a later one
abbrev pub Distinct : {A : Type 0} → (A → A → Bool) → List A → Type 0
Distinct same [] = Unit {0}
Distinct same (x ∷ xs) = (any (same x) xs ≡ false) × Distinct same xs
