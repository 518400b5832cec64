-- What a cursor over lines or fields has yet to give.
use Rattle.std.specs.Prelude.{◌≡◌, ℕ, Bool, true, false, List, [], ◌∷◌, drop, Some, None, Ok, Err, Option, Result}
use Rattle.std.specs.Borrow.{Bor}
use Rattle.text.specs.declared.fault.LineFault.{LineFault}
use Rattle.text.specs.declared.fault.LineFault.TheVariants.{Form}
use Rattle.text.specs.declared.reader.Reader.{Reader}
use Rattle.text.specs.declared.line.Fields.{Fields}
use Rattle.text.specs.Pieces.{lines, fields, before, after}
use Rattle.text.specs.Fields.{View, key, number}

-- the lines that a reader has yet to give
abbrev pub lines_left : Reader → List (List ℕ)
lines_left r = lines (drop r.at r.text.now)

-- the fields of what is left, if any is
abbrev pub fields_in : Option (Bor (List ℕ)) → List (List ℕ)
fields_in None = []
fields_in (Some r) = fields r.now

-- the fields that a line has yet to give
abbrev pub fields_left : Fields → List (List ℕ)
fields_left f = fields_in f.rest

-- the next field of line n, or the fault of a line that ends before it
abbrev pub next_field : ℕ → List (List ℕ) → Result (List ℕ) LineFault
next_field n [] = Err (Form n)
next_field n (p ∷ ps) = Ok p

-- the next field as a key, a number or a spelling
abbrev pub taken : (ℕ → List ℕ → View) → ℕ → List (List ℕ) → Result View LineFault
taken kind n [] = Err (Form n)
taken kind n (p ∷ ps) = Ok (kind n p)

-- the fields after the next
abbrev pub others : List (List ℕ) → List (List ℕ)
others [] = []
others (p ∷ ps) = ps

-- taking a field leaves the fields after it, of the same line
abbrev pub Passed : Fields → Fields → Type 0
Passed f g = (fields_left g ≡ others (fields_left f)) × (g.line ≡ f.line)

-- the next field as a number, where it is the line's last
abbrev pub last_number : ℕ → List (List ℕ) → Result View LineFault
last_number n [] = Err (Form n)
last_number n (p ∷ []) = Ok (number n p)
last_number n (p ∷ q ∷ ps) = Err (Form n)

-- a line that is to end here has no field left
abbrev pub ended : ℕ → List (List ℕ) → Result (Unit {0}) LineFault
ended n [] = Ok tt
ended n (p ∷ ps) = Err (Form n)

-- whether no piece is left
abbrev pub none_left : List (List ℕ) → Bool
none_left [] = true
none_left (p ∷ ps) = false

-- a line's key and fields, where what follows its first `=` is given
abbrev pub parts_at : ℕ → List ℕ → Option (List ℕ) → Result (View × List (List ℕ)) LineFault
parts_at n k None = Err (Form n)
parts_at n k (Some r) = Ok (key n k, fields r)

-- the key and the fields of line n, which has an `=`
abbrev pub line_parts : ℕ → List ℕ → Result (View × List (List ℕ)) LineFault
line_parts n bs = parts_at n (before 61 bs) (after 61 bs)
