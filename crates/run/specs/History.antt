-- Calls with their answers, and what stands settled after them.
use Rattle.std.specs.Prelude.{ℕ, min, List, [], ◌∷◌, reverse, Some, None, vec_items, Option}
use Rattle.std.specs.Borrow.{Bor}
use Rattle.model.specs.declared.rows.Row.{Row}
use Rattle.model.specs.declared.rows.Item.{Item}
use Rattle.ledger.specs.Settled.{Settled, enters}
use Rattle.records.specs.declared.sheet.Sheet.{Sheet}
use Rattle.model.specs.declared.verdict.Verdict.TheVariants as verdict
use Rattle.search.specs.declared.answer.Answer.{Answer}
use Rattle.search.specs.declared.answer.Answer.TheVariants as answer
use Rattle.register.specs.Calls.{settles}
use Rattle.script.specs.declared.call.Call.{Call}
use Rattle.script.specs.declared.call.Call.TheVariants as code
use Rattle.run.specs.declared.call.Reply.{Reply}
use Rattle.run.specs.declared.call.Reply.TheVariants.{Answered, Accepted, Tested, Wrote, Nothing, LookedUp, Cleared, Refused, Declined}
use Rattle.run.specs.declared.call.Entry.{Entry}

-- a call, with the bytes of the text that it hands over and the numbers of rows and items that it is given
pub data Asked : Type 0 where
  question : (left right rows items : ℕ) → Asked
  sheet : (text : List ℕ) (rows items : ℕ) → Asked
  member : (rule : ℕ) (text : List ℕ) (rows items : ℕ) → Asked
  write : (room : ℕ) → Asked
  look_up : (left right : ℕ) → Asked
  clear : Asked

-- what a call of the program asks
abbrev pub asked : Call (Bor (List ℕ)) → Asked
asked (code.Question l r lent) = question l r lent.rows lent.items
asked (code.Sheet text lent) = sheet text.now lent.rows lent.items
asked (code.Member k text lent) = member k text.now lent.rows lent.items
asked (code.Write room) = write room
asked (code.LookUp l r) = look_up l r
asked code.Clear = clear

-- a call with its answer, and the rows, items and output that it left
pub record Event : Type 0 where
  pub call : Asked
  pub reply : Reply
  pub rows : List Row
  pub items : List Item
  pub output : List ℕ

-- the event of a call and its entry
abbrev pub event : Asked → Entry → Event
event call e = record { call = call; reply = e.reply; rows = vec_items e.rows; items = vec_items e.items; output = vec_items e.output }

-- calls and their entries as events, in order
abbrev pub events : List Asked → List Entry → List Event
events [] es = []
events (c ∷ cs) [] = []
events (c ∷ cs) (e ∷ es) = event c e ∷ events cs es

-- the history of a run: its events, the newest first
abbrev pub history : List Asked → List Entry → List Event
history cs es = reverse (events cs es)

-- the sheet of a question's verdict
abbrev pub verdict_sheet : ℕ → ℕ → Answer → Option Sheet
verdict_sheet a b (answer.Included met n) = Some (record { verdict = verdict.Included; left = a; right = b; records = n })
verdict_sheet a b (answer.Excluded met n) = Some (record { verdict = verdict.Excluded; left = a; right = b; records = n })
verdict_sheet a b (answer.Wide met) = None
verdict_sheet a b (answer.OutOfRows met) = None

-- the sheet that an answer to a question on a and b gives
abbrev pub answer_sheet : ℕ → ℕ → Reply → Option Sheet
answer_sheet a b (Answered x) = verdict_sheet a b x
answer_sheet a b (Accepted s) = None
answer_sheet a b (Tested x) = None
answer_sheet a b (Wrote n) = None
answer_sheet a b Nothing = None
answer_sheet a b (LookedUp s) = None
answer_sheet a b Cleared = None
answer_sheet a b (Refused f) = None
answer_sheet a b (Declined f) = None

-- the sheet that was accepted
abbrev pub accepted_sheet : Reply → Option Sheet
accepted_sheet (Answered x) = None
accepted_sheet (Accepted s) = Some s
accepted_sheet (Tested x) = None
accepted_sheet (Wrote n) = None
accepted_sheet Nothing = None
accepted_sheet (LookedUp s) = None
accepted_sheet Cleared = None
accepted_sheet (Refused f) = None
accepted_sheet (Declined f) = None

-- The sheet that a call gives: that of a question's verdict, or an accepted one.
abbrev pub given : Asked → Reply → Option Sheet
given (question a b m n) r = answer_sheet a b r
given (sheet text m n) r = accepted_sheet r
given (member k text m n) r = None
given (write room) r = None
given (look_up a b) r = None
given clear r = None

-- what stands settled after a call that gives a sheet
abbrev pub with_sheet : (ℕ → ℕ → Settled) → Option Sheet → ℕ → ℕ → Settled
with_sheet before None = before
with_sheet before (Some s) = enters before s.left s.right (settles s.verdict)

-- what stands settled after a call: a clearing makes every pair unsettled, and a sheet that is given settles its pair
abbrev pub after : (ℕ → ℕ → Settled) → Asked → Reply → ℕ → ℕ → Settled
after before (question a b m n) r = with_sheet before (answer_sheet a b r)
after before (sheet text m n) r = with_sheet before (accepted_sheet r)
after before (member k text m n) r = before
after before (write room) r = before
after before (look_up a b) r = before
after before clear r = λ c d. None

-- what stands settled after a history
abbrev pub settled_after : List Event → ℕ → ℕ → Settled
settled_after [] = λ a b. None
settled_after (e ∷ past) = after (settled_after past) e.call e.reply

-- a sheet with its rows and items
pub record Evidence : Type 0 where
  pub values : Sheet
  pub rows : List Row
  pub items : List Item

-- the sheet that an event gives, or else the one before it
abbrev pub newer : Option Evidence → Event → Option Sheet → Option Evidence
newer old e None = old
newer old e (Some s) = Some (record { values = s; rows = e.rows; items = e.items })

-- the last sheet that a call gave
abbrev pub sheet_after : List Event → Option Evidence
sheet_after [] = None
sheet_after (e ∷ past) = newer (sheet_after past) e (given e.call e.reply)

-- A run lends at most 513 rows and items: a call refuses each greater number as it refuses this one.
abbrev pub lent : ℕ → ℕ
lent n = min n 513
