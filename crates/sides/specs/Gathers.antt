-- Gathering pairs in a vector that has room for so many.
use Rattle.std.specs.Prelude.{ℕ, ◌≤◌, Bool, List, length}
use Rattle.theory.specs.Inequality.{Pair, same_pair}
use Rattle.book.specs.Feeding.{Fed}

-- A list of pairs was entered, each pair once, where at most as many stood before as have room.
abbrev pub Gathers : ℕ → List Pair → List Pair → List Pair → Bool → Type 0
Gathers limit before after list answer = length before ≤ limit → Fed same_pair limit before after list answer
