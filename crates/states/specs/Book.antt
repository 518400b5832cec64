-- What comes of entering a record in a book.
use Rattle.std.specs.Prelude.{◌≡◌, ℕ, ◌<◌, ◌≤◌, Bool, true, List, length, Ok, Err, Result, nat_lt}
use Rattle.theory.specs.Count.{enter}
use Rattle.book.specs.Place.{place}
use Rattle.states.specs.declared.error.Limit.{Limit}
use Rattle.states.specs.declared.error.Limit.TheVariants.{TooLarge, NoMemory}

-- What comes of entering x in a book of at most `limit` records: its number and the book with it;
-- or that it is new and the book is full, or want of memory, and the book as it was.
abbrev pub Entered : {A : Type 0} → (A → A → Bool) → ℕ → List A → A → Result ℕ Limit → List A → Type 0
Entered same limit book x (Ok i) after =
    (i ≡ place same book x) × (after ≡ enter same book x) × (i < length after) × (length book ≤ limit → length after ≤ limit)
Entered same limit book x (Err e) after = (after ≡ book) × elim e
    [ TooLarge ↦ nat_lt limit (length (enter same book x)) ≡ true | NoMemory ↦ Unit {0} ]
