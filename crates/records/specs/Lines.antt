-- What each line of a sheet or a hedge says, or why it is refused: its key, first value and number
-- of fields are tested first, then the room for its record, then the form of each number, then
-- what is allowed at its place.
use Rattle.std.specs.Prelude.{ℕ, ◌+◌, min, cond, ◌&&◌, List, [], ◌∷◌, Ok, Err, codes, Result, ◌==◌, nat_le, nat_lt}
use Rattle.model.specs.declared.names.Name.{Name}
use Rattle.model.specs.declared.sets.StateSet.{StateSet}
use Rattle.model.specs.Sets.{insert}
use Rattle.text.specs.declared.fault.LineFault.{LineFault}
use Rattle.text.specs.declared.fault.LineFault.TheVariants.{Form}
use Rattle.text.specs.Fields.{View, number, key, line_of, is_word, value_in}
use Rattle.text.specs.Cursors.{taken, others, ended, line_parts}
use Rattle.records.specs.declared.fault.CallFault.{CallFault}
use Rattle.records.specs.declared.fault.CallFault.TheVariants.{Rule}
use Rattle.model.specs.declared.verdict.Verdict.{Verdict}
use Rattle.model.specs.declared.verdict.Verdict.TheVariants.{Included, Excluded}
use Rattle.records.specs.declared.sheet.Stage.{Stage}
use Rattle.records.specs.declared.sheet.Stage.TheVariants.{Sheet, Hedge, Pair, Rows, Items, Ended}
use Rattle.records.specs.declared.sheet.Progress.{Progress}
use Rattle.records.specs.declared.sheet.Limits.{Limits}
use Rattle.records.specs.declared.sheet.Step.{Step}
use Rattle.records.specs.declared.sheet.Step.TheVariants.{Opened, Begun, Paired, Row as a_row, Item as an_item, Ended as the_end}
use Rattle.records.specs.Chains.{then, of_line, formless, misplaced, roomless}
use Rattle.records.specs.Places.{item_fits}

-- a key field is the word, or its line has a wrong form
abbrev pub worded : List ℕ → View → Result (Unit {0}) LineFault
worded w v = cond (is_word w v) (Ok tt) (Err (Form (line_of v)))

-- the verdict that a fixed word names
abbrev pub verdict_in : View → Result Verdict LineFault
verdict_in v =
    cond (is_word (codes "included") v) (Ok Included)
    (cond (is_word (codes "excluded") v) (Ok Excluded) (Err (Form (line_of v))))

-- `sheet=included` or `sheet=excluded`
abbrev pub sheet_line : ℕ → View → List (List ℕ) → Result Step CallFault
sheet_line n k ps =
    then (of_line (worded (codes "sheet") k)) λ _.
    then (of_line (taken key n ps)) λ word.
    then (of_line (ended n (others ps))) λ _.
    then (of_line (verdict_in word)) λ verdict.
    Ok (Opened verdict)

-- `hedge=1`
abbrev pub hedge_line : ℕ → View → List (List ℕ) → Result Step CallFault
hedge_line n k ps =
    then (of_line (worded (codes "hedge") k)) λ _.
    then (of_line (taken key n ps)) λ word.
    then (of_line (ended n (others ps))) λ _.
    then (of_line (worded (codes "1") word)) λ _.
    Ok Begun

-- `pair=A,B`: two rules
abbrev pub pair_line : ℕ → ℕ → View → List (List ℕ) → Result Step CallFault
pair_line rules n k ps =
    then (of_line (worded (codes "pair") k)) λ _.
    then (of_line (taken number n ps)) λ left.
    then (of_line (taken number n (others ps))) λ right.
    then (of_line (ended n (others (others ps)))) λ _.
    then (of_line (value_in left)) λ a.
    then (of_line (value_in right)) λ b.
    cond (nat_lt a rules && nat_lt b rules) (Ok (Paired a b)) (Err (Rule (line_of k)))

-- each field of line n is a number
abbrev pub all_numbers : ℕ → List (List ℕ) → Result (Unit {0}) LineFault
all_numbers n [] = Ok tt
all_numbers n (p ∷ ps) = then (value_in (number n p)) λ _. all_numbers n ps

-- the set of the right states, each at least `low` and rising, with those of s
abbrev pub right_states : ℕ → ℕ → ℕ → ℕ → List (List ℕ) → Result StateSet CallFault
right_states n states low s [] = Ok (record { bits = s })
right_states n states low s (p ∷ ps) =
    then (of_line (value_in (number n p))) λ q.
    cond (nat_le low q && nat_lt q (min states 128)) (right_states n states (q + 1) (insert s q) ps) (misplaced n)

-- there is a place for one record more
abbrev pub roomy : ℕ → ℕ → ℕ → Result (Unit {0}) CallFault
roomy n count room = cond (nat_lt count room) (Ok tt) (roomless n)

-- `row=Q,S,..`: a left state, and right states that rise
abbrev pub row_line : Limits → ℕ → ℕ → View → List (List ℕ) → Result Step CallFault
row_line L count n k ps =
    then (roomy (line_of k) count L.room) λ _.
    then (of_line (all_numbers n ps)) λ _.
    then (of_line (taken number n ps)) λ first.
    then (of_line (value_in first)) λ left.
    then (right_states n L.states 0 0 (others ps)) λ right.
    cond (nat_lt left L.states) (Ok (a_row (record { left = left; right = right }))) (misplaced (line_of k))

-- `item=T,CHILD,NEXT`: a name, and the items that begin its inside and that follow it
abbrev pub item_line : List Name → ℕ → ℕ → ℕ → View → List (List ℕ) → Result Step CallFault
item_line names room count n k ps =
    then (of_line (taken number n ps)) λ first.
    then (of_line (taken number n (others ps))) λ second.
    then (of_line (taken number n (others (others ps)))) λ third.
    then (of_line (ended n (others (others (others ps))))) λ _.
    then (roomy (line_of k) count room) λ _.
    then (of_line (value_in first)) λ name.
    then (of_line (value_in second)) λ child.
    then (of_line (value_in third)) λ next.
    cond (item_fits names count (record { name = name; child = child; next = next }))
    (Ok (an_item (record { name = name; child = child; next = next }))) (misplaced (line_of k))

-- `end=N`: the number of records
abbrev pub end_line : ℕ → ℕ → View → List (List ℕ) → Result Step CallFault
end_line count n k ps =
    then (of_line (worded (codes "end") k)) λ _.
    then (of_line (taken number n ps)) λ first.
    then (of_line (ended n (others ps))) λ _.
    then (of_line (value_in first)) λ m.
    cond (m == count) (Ok the_end) (misplaced (line_of k))

-- a line by its stage
abbrev pub at_stage : Limits → List Name → Progress → ℕ → View → List (List ℕ) → Stage → Result Step CallFault
at_stage L names p n k ps Sheet = sheet_line n k ps
at_stage L names p n k ps Hedge = hedge_line n k ps
at_stage L names p n k ps Pair = pair_line L.rules n k ps
at_stage L names p n k ps Rows = cond (is_word (codes "row") k) (row_line L p.count n k ps) (end_line p.count n k ps)
at_stage L names p n k ps Items =
    cond (is_word (codes "item") k) (item_line names L.room p.count n k ps) (end_line p.count n k ps)
at_stage L names p n k ps Ended = formless (line_of k)

-- line n of a text, after the progress p
abbrev pub judged : Limits → List Name → Progress → ℕ → List ℕ → Result Step CallFault
judged L names p n bs = then (of_line (line_parts n bs)) λ kf. at_stage L names p n kf.0 kf.1 p.stage
