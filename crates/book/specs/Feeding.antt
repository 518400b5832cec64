-- What a book holds, and what entering a list of records in order does to it.
use Rattle.std.specs.Prelude.{◌≡◌, ℕ, Bool, List, length, take, nat_le}
use Rattle.theory.specs.Count.{entered}
use Rattle.book.specs.declared.Book.{Book}

-- the records that a book holds, by number
abbrev pub holds : {A : Type 0} → Book A → List A
holds b = take b.count b.records.now

-- how many records it has room for
abbrev pub room : {A : Type 0} → Book A → ℕ
room b = length b.records.now

-- A list was entered in a book of at most `limit` records: afterwards the book holds the first
-- `limit` of the records that entering the list gives, and the answer tells whether all had room.
pub record Fed {A : Type 0} (same : A → A → Bool) (limit : ℕ) (before after list : List A) (answer : Bool) : Type 0 where
  pub held : after ≡ take limit (entered same before list)
  pub fits : answer ≡ nat_le (length (entered same before list)) limit

-- The room and the loan stay as they are.
pub record Kept {A : Type 0} (before after : Book A) : Type 0 where
  pub len : room after ≡ room before
  pub lent : after.records.ghost_name ≡ before.records.ghost_name

-- A list was entered in a book, within its room.
pub record Fills {A : Type 0} (same : A → A → Bool) (before after : Book A) (list : List A) (answer : Bool) : Type 0 where
  pub fed : Fed same (room before) (holds before) (holds after) list answer
  pub kept : Kept before after
