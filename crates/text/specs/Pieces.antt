-- How bytes are cut into pieces at a mark: a text into lines, a line into its key and its fields.
use Rattle.std.specs.Prelude.{ℕ, ◌-◌, cond, not, ◌||◌, List, [], ◌∷◌, length, Some, None, Ok, Err, Option, Result, ◌==◌, nat_lt, slice_index}
use Rattle.text.specs.declared.fault.LineFault.{LineFault}
use Rattle.text.specs.declared.fault.LineFault.TheVariants.{Form}

-- what stands before the first mark, or everything where there is none
abbrev pub before : ℕ → List ℕ → List ℕ
before mark [] = []
before mark (x ∷ xs) = cond (x == mark) [] (x ∷ before mark xs)

-- what stands after the first mark, where there is one
abbrev pub after : ℕ → List ℕ → Option (List ℕ)
after mark [] = None
after mark (x ∷ xs) = cond (x == mark) (Some xs) (after mark xs)

-- a byte in front of the first piece
abbrev pub onto : ℕ → List (List ℕ) → List (List ℕ)
onto x [] = (x ∷ []) ∷ []
onto x (p ∷ ps) = (x ∷ p) ∷ ps

-- the pieces of xs that marks cut apart, where `end` are the pieces of nothing
abbrev pub pieces : ℕ → List (List ℕ) → List ℕ → List (List ℕ)
pieces mark end [] = end
pieces mark end (x ∷ xs) = cond (x == mark) ([] ∷ pieces mark end xs) (onto x (pieces mark end xs))

-- the lines of a text: each ends in LF
abbrev pub lines : List ℕ → List (List ℕ)
lines xs = pieces 10 [] xs

-- the fields of what follows a key: commas stand between them, and nothing at all is one field
abbrev pub fields : List ℕ → List (List ℕ)
fields xs = pieces 44 ([] ∷ []) xs

-- the last byte of a text
abbrev pub last_byte : List ℕ → ℕ
last_byte xs = slice_index xs (length xs - 1)

-- a text is read if it is not empty, within the limit and ends in LF; else its first line is refused
abbrev pub whole_text : ℕ → List ℕ → Result (Unit {0}) LineFault
whole_text limit xs = cond (length xs == 0 || nat_lt limit (length xs) || not (last_byte xs == 10)) (Err (Form 1)) (Ok tt)
