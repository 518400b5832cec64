-- What comes of a sheet's text and of a hedge's text, and the exchange of sheets.
use Rattle.std.specs.Prelude.{◌≡◌, ℕ, ◌≤◌, List, [], length, Ok, Err, Option, Result}
use Rattle.model.specs.declared.rows.Row.{Row}
use Rattle.model.specs.declared.rows.Item.{Item}
use Rattle.theory.specs.Machine.{Machine}
use Rattle.theory.specs.Items.{spelled}
use Rattle.ledger.specs.Settled.{Settled}
use Rattle.records.specs.declared.fault.CallFault.{CallFault}
use Rattle.records.specs.declared.sheet.Sheet.{Sheet}
use Rattle.model.specs.declared.verdict.Verdict.{Verdict}
use Rattle.model.specs.declared.verdict.Verdict.TheVariants.{Included, Excluded}
use Rattle.records.specs.Reading.{Found, sheet_read, sheet_of}
use Rattle.judge.specs.declared.fault.SheetFault.{SheetFault}
use Rattle.judge.specs.declared.fault.SheetFault.TheVariants.{Call}
use Rattle.judge.specs.Judgement.{included_fault, excluded_fault, refusal}
use Rattle.writing.specs.Texts.{sheet_text}
use Rattle.writing.specs.Checks.{sheet_written}
use Rattle.search.specs.declared.answer.Answer.{Answer}
use Rattle.search.specs.declared.answer.Answer.TheVariants as answer
use Rattle.tables.specs.Plain.{Plain}
use Rattle.load.specs.Loaded.{bodies_of, rules_of}
use Rattle.law.specs.Claims.{Includes, Offends}

-- the fault of what a sheet shows, by the rules for its kind
abbrev pub kind_fault : Machine → (ℕ → ℕ → Settled) → ℕ → Found → Verdict → Option SheetFault
kind_fault m settled rules f Included = included_fault m settled rules f.at.left f.at.right f.rows
kind_fault m settled rules f Excluded = excluded_fault m f.at.left f.at.right f.items

-- a sheet that was read, judged
abbrev pub judged : Machine → (ℕ → ℕ → Settled) → ℕ → Result Found CallFault → Result Found SheetFault
judged m settled rules (Err e) = Err (Call e)
judged m settled rules (Ok f) = elim (refusal (kind_fault m settled rules f f.at.verdict)) [ Ok u ↦ Ok f | Err e ↦ Err e ]

-- What comes of a sheet's text: it is read whole, and then what it shows is judged.
abbrev pub sheet_outcome : Plain → Machine → (ℕ → ℕ → Settled) → ℕ → ℕ → List ℕ → Result Found SheetFault
sheet_outcome t m settled rows items text =
    judged m settled (rules_of t) (sheet_read (rules_of t) (length m.states) t.names rows items text)

-- what a call answers of it
abbrev pub sheet_answer : Result Found SheetFault → Result Sheet SheetFault
sheet_answer (Ok f) = Ok (sheet_of f.at)
sheet_answer (Err e) = Err e

-- the rows and the items that it leaves, before the blank ones; none after a refusal
abbrev pub rows_left : Result Found SheetFault → List Row
rows_left (Ok f) = f.rows
rows_left (Err e) = []

abbrev pub items_left : Result Found SheetFault → List Item
items_left (Ok f) = f.items
items_left (Err e) = []

-- Truth. An accepted "included" says truly that the right rule has every hedge of the left one, an
-- accepted "excluded" that it lacks the hedge spelled.
abbrev pub KindTrue : Plain → Machine → Found → Verdict → Type 0
KindTrue t m f Included = Includes (bodies_of t) m.covers f.at.left f.at.right
KindTrue t m f Excluded = Offends (bodies_of t) m.covers f.at.left f.at.right (spelled f.items)

-- the claim of an accepted sheet is true
abbrev pub OutcomeTrue : Plain → Machine → Result Found SheetFault → Type 0
OutcomeTrue t m (Ok f) = KindTrue t m f f.at.verdict
OutcomeTrue t m (Err e) = Unit {0}

-- A sheet is accepted by everybody: its text is written whole into an output that holds it, is no longer
-- than a sheet may be, and is accepted by every register on the grammar and relation, whatever is
-- settled there, with as many items as rows, 1 to 512, no fewer than its records.
pub record AcceptedEverywhere (t : Plain) (m : Machine) (s : Sheet) (rows : List Row) (items : List Item) : Type 0 where
  pub written : (room : ℕ) → length (sheet_text s rows items) ≤ room →
      sheet_written (rules_of t) (length m.states) t.names s rows items room ≡ Ok (length (sheet_text s rows items))
  pub short : length (sheet_text s rows items) ≤ 262144
  pub accepted : (settled : ℕ → ℕ → Settled) (room : ℕ) → 1 ≤ room → room ≤ 512 → s.records ≤ room →
      sheet_answer (sheet_outcome t m settled room room (sheet_text s rows items)) ≡ Ok s

-- Exchange. The sheet of a verdict, written from the answer, the rows and the items, is accepted by
-- everybody.
abbrev pub Exchanged : Plain → Machine → ℕ → ℕ → Answer → List Row → List Item → Type 0
Exchanged t m a b (answer.Included met n) rows items =
    AcceptedEverywhere t m (record { verdict = Included; left = a; right = b; records = n }) rows items
Exchanged t m a b (answer.Excluded met n) rows items =
    AcceptedEverywhere t m (record { verdict = Excluded; left = a; right = b; records = n }) rows items
Exchanged t m a b (answer.Wide met) rows items = Unit {0}
Exchanged t m a b (answer.OutOfRows met) rows items = Unit {0}
