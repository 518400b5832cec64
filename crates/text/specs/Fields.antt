-- Fields as a line has them, without the references that the code holds.
use Rattle.std.specs.Prelude.{ℕ, Bool, false, cond, List, [], ◌∷◌, Some, None, Ok, Err, Option, Result}
use Rattle.std.specs.Str.{bytes_eq}
use Rattle.text.specs.declared.fault.LineFault.{LineFault}
use Rattle.text.specs.declared.fault.LineFault.TheVariants.{Form, Number as bad_number, Spelling as bad_spelling}
use Rattle.text.specs.declared.field.Field.{Field}
use Rattle.text.specs.declared.field.Field.TheVariants.{Key, Number, Spelling}
use Rattle.text.specs.Forms.{number_of, is_spelling}

-- a field: its line and its bytes
pub data View : Type 0 where
  key : ℕ → List ℕ → View
  number : ℕ → List ℕ → View
  spelling : ℕ → List ℕ → View

-- what a field of the code stands for
abbrev pub view : Field → View
view (Key n bs) = key n bs.now
view (Number n bs) = number n bs.now
view (Spelling n bs) = spelling n bs.now

-- a field's line
abbrev pub line_of : View → ℕ
line_of (key n bs) = n
line_of (number n bs) = n
line_of (spelling n bs) = n

-- a field's bytes
abbrev pub bytes_of : View → List ℕ
bytes_of (key n bs) = bs
bytes_of (number n bs) = bs
bytes_of (spelling n bs) = bs

-- the value, or a fault at line n
abbrev pub or_number : ℕ → Option ℕ → Result ℕ LineFault
or_number n None = Err (bad_number n)
or_number n (Some v) = Ok v

-- the value of a number field; no other field has one
abbrev pub value_in : View → Result ℕ LineFault
value_in (key n bs) = Err (bad_number n)
value_in (number n bs) = or_number n (number_of bs)
value_in (spelling n bs) = Err (bad_number n)

-- the spelling of a spelling field; no other field has one
abbrev pub spelling_in : View → Result (List ℕ) LineFault
spelling_in (key n bs) = Err (bad_spelling n)
spelling_in (number n bs) = Err (bad_spelling n)
spelling_in (spelling n bs) = cond (is_spelling bs) (Ok bs) (Err (bad_spelling n))

-- whether a key field is the word
abbrev pub is_word : List ℕ → View → Bool
is_word w (key n bs) = bytes_eq bs w
is_word w (number n bs) = false
is_word w (spelling n bs) = false

-- what the word that the field is stands for, among words with what each stands for
abbrev pub one_of : {X : Type 0} → View → List (List ℕ × X) → Result X LineFault
one_of v [] = Err (Form (line_of v))
one_of v (w ∷ ws) = cond (is_word w.0 v) (Ok w.1) (one_of v ws)

-- a result at what its success stands for
abbrev pub seen : {X Y E : Type 0} → (X → Y) → Result X E → Result Y E
seen f (Ok x) = Ok (f x)
seen f (Err e) = Err e
