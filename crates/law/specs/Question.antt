-- What the answer to a question says of the languages of its rules, and of its reachable inequalities.
use Rattle.std.specs.Prelude.{◌≡◌, ℕ, ◌≤◌, Bool, true, false, ◌⊎◌, ◌↔◌, List, take}
use Rattle.model.specs.declared.rows.Row.{Row}
use Rattle.model.specs.declared.rows.Item.{Item}
use Rattle.theory.specs.Machine.{Machine}
use Rattle.theory.specs.Items.{spelled, Earlier}
use Rattle.inequality.specs.Reached.{Numbered, Outnumber, SomeWide}
use Rattle.inequality.specs.Verdicts.{Shows}
use Rattle.search.specs.declared.answer.Answer.{Answer}
use Rattle.search.specs.declared.answer.Answer.TheVariants.{Included, Excluded, Wide, OutOfRows}
use Rattle.search.specs.Answered.{root_of}
use Rattle.tables.specs.Plain.{Plain}
use Rattle.load.specs.Loaded.{bodies_of}
use Rattle.law.specs.Claims.{Includes, Offends}

-- Truth. "Included": the right rule has every hedge of the left one, and the first rows show it, each
-- either-or of each row having a side that is a row. "Excluded": the first items, no more than rows met
-- and each with child and next before it, spell a hedge of the left rule that the right one lacks.
abbrev pub VerdictTrue : Plain → Machine → ℕ → ℕ → Answer → List Row → List Item → Type 0
VerdictTrue t m a b (Included met n) rows items =
    Includes (bodies_of t) m.covers a b × Shows m (root_of a b) (take n rows)
VerdictTrue t m a b (Excluded met n) rows items =
    Offends (bodies_of t) m.covers a b (spelled (take n items)) × Earlier (take n items) × (n ≤ met)
VerdictTrue t m a b (Wide met) rows items = Unit {0}
VerdictTrue t m a b (OutOfRows met) rows items = Unit {0}

-- whether an answer has no verdict
abbrev pub verdictless : Answer → Bool
verdictless (Included met n) = false
verdictless (Excluded met n) = false
verdictless (Wide met) = true
verdictless (OutOfRows met) = true

-- the count of rows met is the number of reachable inequalities, where there is a verdict
abbrev pub CountTrue : Machine → ℕ → ℕ → Answer → Type 0
CountTrue m a b (Included met n) = Numbered m (root_of a b) met
CountTrue m a b (Excluded met n) = Numbered m (root_of a b) met
CountTrue m a b (Wide met) = Unit {0}
CountTrue m a b (OutOfRows met) = Unit {0}

-- Exactness. A question ends without a verdict exactly when its reachable inequalities outnumber the
-- rows given or one of them is wide; otherwise the count of rows met is their number.
abbrev pub Exactly : Machine → ℕ → ℕ → ℕ → Answer → Type 0
Exactly m a b limit answer =
    ((verdictless answer ≡ true) ↔ (Outnumber m (root_of a b) limit ⊎ SomeWide m (root_of a b)))
    × CountTrue m a b answer
