-- How a text of lines is written.
use Rattle.std.specs.List.{list_all}
use Rattle.std.specs.Prelude.{ℕ, Bool, not, List, [], ◌∷◌, ◌++◌, ◌==◌}

-- lines, each with its LF
abbrev pub written : List (List ℕ) → List ℕ
written [] = []
written (l ∷ ls) = l ++ 10 ∷ written ls

-- fields with commas between them
abbrev pub commas : List (List ℕ) → List ℕ
commas [] = []
commas (p ∷ []) = p
commas (p ∷ q ∷ ps) = p ++ 44 ∷ commas (q ∷ ps)

-- a key, `=` and fields
abbrev pub keyed : List ℕ → List (List ℕ) → List ℕ
keyed k fs = k ++ 61 ∷ commas fs

-- the byte is not among those
abbrev pub lacks : ℕ → List ℕ → Bool
lacks m xs = list_all (λ x. not (x == m)) xs
