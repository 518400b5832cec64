-- The turns of a meeting: it ends, meets a wide row, goes on, or runs out of rows.
use Rattle.std.proofs.Common.{◌≡◌, ℕ, suc, ◌+◌, ◌-◌, ◌<◌, ◌≤◌, Bool, true, false, ltb, List, length, get_or, [], ◌∷◌, take, Err, sym, ap, ◌∙◌, arith}
use Rattle.std.proofs.lemmas.Bool.{lt-leb, lt-ltb, le-ltb, leb-true, leb-false}
use Rattle.std.proofs.lemmas.List.{take_all}
use Rattle.model.specs.declared.rows.Row.{Row}
use Rattle.model.specs.Blank.{blank_row}
use Rattle.theory.specs.Machine.{Machine}
use Rattle.theory.specs.Count.{entered}
use Rattle.theory.specs.Inequality.{wide, same_row}
use Rattle.theory.specs.Meeting.{all, wide_row, out_of_rows, Met, sides, widened, meet_on, meet}
use Rattle.book.specs.declared.Book.{Book}
use Rattle.sides.specs.Took.{Took}
use Rattle.sides.specs.declared.entering.Stop.{Stop}
use Rattle.sides.specs.declared.entering.Stop.TheVariants.{Wide, OutOfRows}
use Rattle.search.specs.Ends.{met_by}
use Rattle.book.specs.Feeding.{holds, room, Fills}

-- what a turn does once a row is there to be taken
step : Machine → ℕ → ℕ → ℕ → List Row → Bool → Bool → Met
step m limit steps taken rows is_IsWide over =
    elim is_IsWide [
      | true ↦ record { end = wide_row; rows = rows }
      | false ↦ elim over [
        | true ↦ record { end = out_of_rows; rows = take limit (widened m rows taken) }
        | false ↦ meet_on m limit steps (taken + 1) (widened m rows taken)
      ]
    ]

walk_step : (m : Machine) (limit steps taken : ℕ) (rows : List Row) → taken < length rows →
    meet_on m limit (suc steps) taken rows
    ≡ step m limit steps taken rows (wide m (get_or rows taken blank_row)) (ltb limit (length (widened m rows taken)))
unfolding step
walk_step m limit steps taken rows lt =
    let P : Bool → Met = λ b. elim b [
      | true ↦ record { end = all; rows = rows }
      | false ↦ elim (wide m (get_or rows taken blank_row)) [
        | true ↦ record { end = wide_row; rows = rows }
        | false ↦ elim (ltb limit (length (widened m rows taken))) [
          | true ↦ record { end = out_of_rows; rows = take limit (widened m rows taken) }
          | false ↦ meet_on m limit steps (taken + 1) (widened m rows taken)
        ]
      ]
    ] in
    ap P (lt-leb (length rows) taken lt)

-- with steps counted down from a total
steps_more : (total taken : ℕ) → taken < total → total - taken ≡ suc (total - (taken + 1))
steps_more total taken lt = omega arith

pub walk_wide : (m : Machine) (limit total taken : ℕ) (rows : List Row) → taken < total → taken < length rows →
    wide m (get_or rows taken blank_row) ≡ true →
    meet_on m limit (total - taken) taken rows ≡ record { end = wide_row; rows = rows }
unfolding step
walk_wide m limit total taken rows lt here is =
    ap (λ s. meet_on m limit s taken rows) (steps_more total taken lt)
    ∙ walk_step m limit (total - (taken + 1)) taken rows here
    ∙ ap (λ b. step m limit (total - (taken + 1)) taken rows b (ltb limit (length (widened m rows taken)))) is

pub walk_full : (m : Machine) (limit total taken : ℕ) (rows : List Row) → taken < total → taken < length rows →
    wide m (get_or rows taken blank_row) ≡ false → limit < length (widened m rows taken) →
    meet_on m limit (total - taken) taken rows ≡ record { end = out_of_rows; rows = take limit (widened m rows taken) }
unfolding step
walk_full m limit total taken rows lt here narrow over =
    ap (λ s. meet_on m limit s taken rows) (steps_more total taken lt)
    ∙ walk_step m limit (total - (taken + 1)) taken rows here
    ∙ ap (λ b. step m limit (total - (taken + 1)) taken rows b (ltb limit (length (widened m rows taken)))) narrow
    ∙ ap (step m limit (total - (taken + 1)) taken rows false) (lt-ltb limit (length (widened m rows taken)) over)

pub walk_more : (m : Machine) (limit total taken : ℕ) (rows : List Row) → taken < total → taken < length rows →
    wide m (get_or rows taken blank_row) ≡ false → length (widened m rows taken) ≤ limit →
    meet_on m limit (total - taken) taken rows ≡ meet_on m limit (total - (taken + 1)) (taken + 1) (widened m rows taken)
unfolding step
walk_more m limit total taken rows lt here narrow room =
    ap (λ s. meet_on m limit s taken rows) (steps_more total taken lt)
    ∙ walk_step m limit (total - (taken + 1)) taken rows here
    ∙ ap (λ b. step m limit (total - (taken + 1)) taken rows b (ltb limit (length (widened m rows taken)))) narrow
    ∙ ap (step m limit (total - (taken + 1)) taken rows false) (le-ltb limit (length (widened m rows taken)) room)

-- the same over a book of rows whose row number `taken` is taken
module _ (m : Machine) (total taken : ℕ) (b a : Book Row) (r : Row) (here : taken < length (holds b))
    (at : r ≡ get_or (holds b) taken blank_row) where
  whole : entered same_row (holds b) (sides m r) ≡ widened m (holds b) taken
  unfolding widened
  whole = ap (λ r. entered same_row (holds b) (sides m r)) at

  pub turn_wide : taken < total → wide m r ≡ true →
      meet_on m (room b) (total - taken) taken (holds b) ≡ record { end = wide_row; rows = holds b }
  turn_wide more is = walk_wide m (room b) total taken (holds b) more here (ap (wide m) (sym at) ∙ is)

  pub turn_full : taken < total → wide m r ≡ false → Fills same_row b a (sides m r) false →
      meet_on m (room b) (total - taken) taken (holds b) ≡ record { end = out_of_rows; rows = holds a }
  turn_full more narrow fills =
      let over = leb-false _ _ (sym fills.fed.fits) in
      let e = ap length whole in
      let large : room b < length (widened m (holds b) taken) = omega arith in
      walk_full m (room b) total taken (holds b) more here (ap (wide m) (sym at) ∙ narrow) large
      ∙ (λ i. record { end = out_of_rows; rows = sym (fills.fed.held ∙ ap (take (room b)) whole) i })

  pub turn_more : taken < total → wide m r ≡ false → Fills same_row b a (sides m r) true →
      meet_on m (room b) (total - taken) taken (holds b) ≡ meet_on m (room b) (total - (taken + 1)) (taken + 1) (holds a)
  turn_more more narrow fills =
      let few = leb-true _ _ (sym fills.fed.fits) in
      let e = ap length whole in
      let small : length (widened m (holds b) taken) ≤ room b = omega arith in
      walk_more m (room b) total taken (holds b) more here (ap (wide m) (sym at) ∙ narrow) small
      ∙ ap (meet_on m (room b) (total - (taken + 1)) (taken + 1)) (sym (fills.fed.held ∙ ap (take (room b)) whole ∙ take_all (room b) (widened m (holds b) taken) small))

-- a meeting begins with the root alone in the book
pub meet_start : (m : Machine) (root : Row) (b a : Book Row) → holds b ≡ [] → 0 < room b → Fills same_row b a (root ∷ []) true →
    meet_on m (room b) (room b + 1) 0 (holds a) ≡ meet m (room b) root
unfolding meet
meet_start m root b a none some fills =
    ap (meet_on m (room b) (room b + 1) 0) (fills.fed.held ∙ ap (λ l. take (room b) (entered same_row l (root ∷ []))) none ∙ take_all (room b) (root ∷ []) (omega arith))

-- a turn that stops the meeting
pub turn_stops : (m : Machine) (total taken : ℕ) (b a : Book Row) (r : Row) → taken < length (holds b) →
    r ≡ get_or (holds b) taken blank_row → taken < total → (stop : Stop) → Took m r b a (Err stop) →
    met_by (Err stop) (holds a) ≡ meet_on m (room b) (total - taken) taken (holds b)
turn_stops m total taken b a r here at more Wide took =
    ap (λ (k : Book Row). met_by (Err Wide) (holds k)) took.1 ∙ sym (turn_wide m total taken b a r here at more took.0)
turn_stops m total taken b a r here at more OutOfRows took = sym (turn_full m total taken b a r here at more took.0 took.1)
