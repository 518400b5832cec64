-- What the calls on a register answer, and what they leave.
use Rattle.std.specs.Prelude.{◌≡◌, ℕ, cond, List, length, take, Some, None, Ok, Err, Result, nat_lt}
use Rattle.model.specs.declared.rows.Row.{Row}
use Rattle.model.specs.declared.rows.Item.{Item}
use Rattle.theory.specs.Machine.{Machine}
use Rattle.records.specs.declared.fault.CallFault.{CallFault}
use Rattle.records.specs.declared.fault.CallFault.TheVariants.{Rule}
use Rattle.records.specs.declared.sheet.Sheet.{Sheet}
use Rattle.model.specs.declared.verdict.Verdict.{Verdict}
use Rattle.model.specs.declared.verdict.Verdict.TheVariants.{Included as claim_included, Excluded as claim_excluded}
use Rattle.judge.specs.declared.fault.SheetFault.{SheetFault}
use Rattle.judge.specs.Judgement.{included_fault, excluded_fault, refusal}
use Rattle.judge.specs.Faults.{no_memory}
use Rattle.records.specs.Chains.{then}
use Rattle.records.specs.Reading.{counted}
use Rattle.ledger.specs.Settled.{Settled, enters}
use Rattle.search.specs.declared.answer.Answer.{Answer}
use Rattle.search.specs.declared.answer.Answer.TheVariants.{Included, Excluded, Wide, OutOfRows}
use Rattle.search.specs.Answered.{root_of, suits, Asked, Answered, Blanked}
use Rattle.tables.specs.Plain.{Plain}
use Rattle.load.specs.Loaded.{bodies_of}
use Rattle.law.specs.Claims.{Includes, Lacks}

-- a rule that a call names is one of the grammar's
abbrev pub rule_checked : ℕ → ℕ → Result (Unit {0}) CallFault
rule_checked rules a = cond (nat_lt a rules) (Ok tt) (Err (Rule 0))

-- what a question is given: two rules, then 1 to 512 rows and as many items
abbrev pub question_checked : ℕ → ℕ → ℕ → ℕ → ℕ → Result (Unit {0}) CallFault
question_checked rules a b rows items =
    then (rule_checked rules a) λ _.
    then (rule_checked rules b) λ _.
    counted rows items

-- a call answers exactly when its checks pass, and else refuses by their fault
abbrev pub Agrees : {X : Type 0} → Result (Unit {0}) CallFault → Result X CallFault → Type 0
Agrees (Ok u) (Ok x) = Unit {0}
Agrees (Ok u) (Err f) = ⊥
Agrees (Err e) (Ok x) = ⊥
Agrees (Err e) (Err f) = f ≡ e

-- all rows and items are blank where a call is refused
abbrev pub RefusedBlank : {X F : Type 0} → Result X F → ℕ → ℕ → List Row → List Item → Type 0
RefusedBlank (Ok x) limit room rows items = Unit {0}
RefusedBlank (Err f) limit room rows items = Blanked limit room rows items

-- what a question leaves: by its answer, or all blank
abbrev pub QuestionLeaves : Machine → ℕ → ℕ → ℕ → ℕ → ℕ → Result Answer CallFault → List Row → List Item → Type 0
QuestionLeaves m a b limit room marks (Ok answer) rows items = Asked m (root_of a b) limit room (suits limit room marks) answer rows items
QuestionLeaves m a b limit room marks (Err f) rows items = Blanked limit room rows items

-- what a question is answered, and what it leaves: as defined, or all blank
abbrev pub QuestionAnswered : Machine → ℕ → ℕ → ℕ → ℕ → Result Answer CallFault → List Row → List Item → Type 0
QuestionAnswered m a b limit room (Ok answer) rows items = Answered m (root_of a b) limit room answer rows items
QuestionAnswered m a b limit room (Err f) rows items = Blanked limit room rows items

-- the settled pairs after a question: its verdict is entered, nothing else changes
abbrev pub question_settles : (ℕ → ℕ → Settled) → ℕ → ℕ → Result Answer CallFault → ℕ → ℕ → Settled
question_settles before a b (Ok (Included k n)) c d = enters before a b (Some claim_included) c d
question_settles before a b (Ok (Excluded k n)) c d = enters before a b (Some claim_excluded) c d
question_settles before a b (Ok (Wide k)) c d = before c d
question_settles before a b (Ok (OutOfRows k)) c d = before c d
question_settles before a b (Err f) c d = before c d

-- how a verdict settles its pair
abbrev pub settles : Verdict → Settled
settles v = Some v

-- whether a sheet that was read shows its claim: its rows, or its items, by the rules for its kind
abbrev pub sheet_judged : Machine → (ℕ → ℕ → Settled) → ℕ → ℕ → Sheet → List Row → List Item → Result (Unit {0}) SheetFault
sheet_judged m settled rules sets s rows items = elim s.verdict [
  | claim_included ↦ refusal (included_fault m settled rules s.left s.right (take s.records rows))
  | claim_excluded ↦ cond (nat_lt (length (take s.records items)) sets)
      (refusal (excluded_fault m s.left s.right (take s.records items))) (Err no_memory)
]

-- the settled pairs after a sheet: an accepted one is entered, nothing else changes
abbrev pub sheet_settles : (ℕ → ℕ → Settled) → Result Sheet SheetFault → ℕ → ℕ → Settled
sheet_settles before (Ok s) c d = enters before s.left s.right (settles s.verdict) c d
sheet_settles before (Err f) c d = before c d

-- the answer of a look-up
abbrev pub looked_up : ℕ → (ℕ → ℕ → Settled) → ℕ → ℕ → Result Settled CallFault
looked_up rules settled a b =
    then (rule_checked rules a) λ _.
    then (rule_checked rules b) λ _.
    Ok (settled a b)

-- what a pair is settled as is true of it
abbrev pub SettledTrue : Plain → Machine → ℕ → ℕ → Settled → Type 0
SettledTrue t m a b None = Unit {0}
SettledTrue t m a b (Some claim_included) = Includes (bodies_of t) m.covers a b
SettledTrue t m a b (Some claim_excluded) = Lacks (bodies_of t) m.covers a b

-- what a look-up says is true
abbrev pub LookUpTrue : Plain → Machine → ℕ → ℕ → Result Settled CallFault → Type 0
LookUpTrue t m a b (Ok s) = SettledTrue t m a b s
LookUpTrue t m a b (Err f) = Unit {0}
