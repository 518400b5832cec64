-- The law over whole runs of a register. A run is a history: calls with their answers and with what they left, the newest first, on one
-- register from new.
use Rattle.std.specs.Prelude.{◌≡◌, ℕ, min, true, ◌↔◌, List, [], length, take, replicate, Some, None, Ok, Err, Option, Result}
use Rattle.model.specs.declared.rows.Row.{Row}
use Rattle.model.specs.declared.rows.Item.{Item}
use Rattle.model.specs.Blank.{blank_row, blank_item}
use Rattle.theory.specs.Machine.{Machine}
use Rattle.theory.specs.Items.{spelled}
use Rattle.ledger.specs.Settled.{Settled}
use Rattle.records.specs.declared.fault.CallFault.{CallFault}
use Rattle.records.specs.declared.sheet.Sheet.{Sheet}
use Rattle.model.specs.declared.verdict.Verdict.{Verdict}
use Rattle.model.specs.declared.verdict.Verdict.TheVariants as verdict
use Rattle.records.specs.Reading.{Found, sheet_of, padded}
use Rattle.judge.specs.declared.fault.SheetFault.{SheetFault}
use Rattle.writing.specs.Texts.{sheet_text}
use Rattle.writing.specs.Checks.{sheet_written}
use Rattle.writing.specs.Wrote.{filled}
use Rattle.search.specs.Answered.{root_of, Answered as AnsweredSo, Blanked}
use Rattle.tables.specs.Plain.{Plain}
use Rattle.load.specs.Loaded.{bodies_of, rules_of}
use Rattle.law.specs.Claims.{Has, Includes, Offends}
use Rattle.law.specs.Question.{VerdictTrue}
use Rattle.law.specs.Sheets.{sheet_outcome, rows_left, items_left}
use Rattle.register.specs.Calls.{question_checked, looked_up, SettledTrue}
use Rattle.register.specs.Member.{member_outcome, member_answer, items_tested}
use Rattle.register.specs.declared.membership.Membership.{Membership}
use Rattle.run.specs.declared.call.Reply.{Reply}
use Rattle.run.specs.declared.call.Reply.TheVariants.{Answered, Accepted, Tested, Wrote, Nothing, LookedUp, Cleared, Refused, Declined}
use Rattle.run.specs.History.{Asked, question, sheet, member, write, look_up, clear, Event, Evidence, lent}

-- the reply to a sheet, by what comes of it
abbrev pub sheet_reply : Result Found SheetFault → Reply
sheet_reply (Ok f) = Accepted (sheet_of f.at)
sheet_reply (Err e) = Declined e

-- the reply to a membership test
abbrev pub member_reply : Result Membership CallFault → Reply
member_reply (Ok x) = Tested x
member_reply (Err e) = Refused e

-- the reply to a look_up
abbrev pub look_up_reply : Result Settled CallFault → Reply
look_up_reply (Ok s) = LookedUp s
look_up_reply (Err e) = Refused e

-- the reply to writing
abbrev pub write_reply : Result ℕ CallFault → Reply
write_reply (Ok n) = Wrote n
write_reply (Err e) = Refused e

-- what writing a sheet into a room answers
abbrev pub written_as : Plain → Machine → Evidence → ℕ → Result ℕ CallFault
written_as t m x room = sheet_written (rules_of t) (length m.states) t.names x.values x.rows x.items room

-- the bytes of output that a run lends: no sheet has more than 262,144
abbrev pub lent_room : ℕ → ℕ
lent_room n = min n 262144

-- Writing: the last sheet that was given goes into a blank output, or there is none.
abbrev pub Written : Plain → Machine → Option Evidence → ℕ → Event → Type 0
Written t m None room e = (e.reply ≡ Nothing) × (e.output ≡ [])
Written t m (Some x) room e = (e.reply ≡ write_reply (written_as t m x (lent_room room)))
    × (e.output ≡ filled (written_as t m x (lent_room room)) (sheet_text x.values x.rows x.items) (replicate (lent_room room) 0))

-- A question: refused exactly by the tests of what it is given, all blank; else answered by the definition.
abbrev pub QuestionTold : Plain → Machine → ℕ → ℕ → ℕ → ℕ → Reply → List Row → List Item → Type 0
QuestionTold t m a b rows items (Answered x) row_list item_list =
    (question_checked (rules_of t) a b rows items ≡ Ok tt) × AnsweredSo m (root_of a b) rows items x row_list item_list
QuestionTold t m a b rows items (Refused f) row_list item_list =
    (question_checked (rules_of t) a b rows items ≡ Err f) × Blanked (lent rows) (lent items) row_list item_list
QuestionTold t m a b rows items (Accepted s) row_list item_list = ⊥
QuestionTold t m a b rows items (Tested x) row_list item_list = ⊥
QuestionTold t m a b rows items (Wrote n) row_list item_list = ⊥
QuestionTold t m a b rows items Nothing row_list item_list = ⊥
QuestionTold t m a b rows items (LookedUp s) row_list item_list = ⊥
QuestionTold t m a b rows items Cleared row_list item_list = ⊥
QuestionTold t m a b rows items (Declined f) row_list item_list = ⊥

-- Refusals and answers: each call is refused exactly where the rules say so, with the fault that they give, and else
-- answered as they say; what it leaves is theirs too. `before` is what stands settled before the call.
abbrev pub Told : Plain → Machine → (ℕ → ℕ → Settled) → Option Evidence → Event → Asked → Type 0
Told t m before last e (question a b rows items) = QuestionTold t m a b rows items e.reply e.rows e.items
Told t m before last e (sheet text rows items) =
    (e.reply ≡ sheet_reply (sheet_outcome t m before rows items text))
    × (e.rows ≡ padded blank_row (lent rows) (rows_left (sheet_outcome t m before rows items text)))
    × (e.items ≡ padded blank_item (lent items) (items_left (sheet_outcome t m before rows items text)))
Told t m before last e (member k text rows items) =
    (e.reply ≡ member_reply (member_answer m k (member_outcome t k rows items text)))
    × (e.rows ≡ replicate (lent rows) blank_row)
    × (e.items ≡ padded blank_item (lent items) (items_tested (member_outcome t k rows items text)))
Told t m before last e (write room) = Written t m last room e
Told t m before last e (look_up a b) = e.reply ≡ look_up_reply (looked_up (rules_of t) before a b)
Told t m before last e clear = e.reply ≡ Cleared

-- the claim of an accepted sheet, by its verdict
abbrev pub Claimed : Plain → Machine → Sheet → List Item → Verdict → Type 0
Claimed t m s items verdict.Included = Includes (bodies_of t) m.covers s.left s.right
Claimed t m s items verdict.Excluded = Offends (bodies_of t) m.covers s.left s.right (spelled (take s.records items))

-- Truth. Each "included" of an accepted question, sheet or look_up says that the right rule has every hedge of the left one,
-- each "excluded" that it lacks one; a membership test says yes exactly when the rule has the hedge.
abbrev pub True : Plain → Machine → Event → Asked → Reply → Type 0
True t m e (question a b rows items) (Answered x) = VerdictTrue t m a b x e.rows e.items
True t m e (question a b rows items) (Accepted s) = Unit {0}
True t m e (question a b rows items) (Tested x) = Unit {0}
True t m e (question a b rows items) (Wrote n) = Unit {0}
True t m e (question a b rows items) Nothing = Unit {0}
True t m e (question a b rows items) (LookedUp s) = Unit {0}
True t m e (question a b rows items) Cleared = Unit {0}
True t m e (question a b rows items) (Refused f) = Unit {0}
True t m e (question a b rows items) (Declined f) = Unit {0}
True t m e (sheet text rows items) r = (s : Sheet) → r ≡ Accepted s → Claimed t m s e.items s.verdict
True t m e (member k text rows items) r = (x : Membership) → r ≡ Tested x →
    (x.yes ≡ true) ↔ Has (bodies_of t) m.covers k (spelled (take x.records e.items))
True t m e (write room) r = Unit {0}
True t m e (look_up a b) r = (s : Settled) → r ≡ LookedUp s → SettledTrue t m a b s
True t m e clear r = Unit {0}
