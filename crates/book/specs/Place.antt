-- The numbers that a book gives to its records.
use Rattle.std.specs.Prelude.{ℕ, suc, Bool, cond, List, [], ◌∷◌, length, Result, Ok, Err, nat_lt}
use Rattle.theory.specs.Count.{enter}
use Rattle.book.specs.declared.Full.{Full}

-- the number of the first record that is the same as x; if none is, how many records there are
abbrev pub place : {A : Type 0} → (A → A → Bool) → List A → A → ℕ
place same [] x = 0
place same (y ∷ ys) x = cond (same x y) 0 (suc (place same ys x))

-- the number that x gets when it is entered in a book of at most `limit` records
abbrev pub numbered : {A : Type 0} → (A → A → Bool) → ℕ → List A → A → Result ℕ Full
numbered same limit book x =
    cond (nat_lt limit (length (enter same book x))) (Err record {}) (Ok (place same book x))
