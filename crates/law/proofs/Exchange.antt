-- The sheet of a verdict is accepted by everybody.
use Rattle.std.proofs.Common.{◌≡◌, ℕ, suc, ◌+◌, ◌-◌, ◌<◌, ◌≤◌, Bool, true, false, cond, not, ◌&&◌, ◌||◌, eqb, ltb, leb, List, [], ◌∷◌, ◌++◌, length, get_or, take, replicate, None, Ok, Err, Result, sym, refl, ap, ◌∙◌, subst, arith}
use Rattle.std.proofs.lemmas.List.{take_at, length-append, length-replicate}
use Rattle.std.proofs.lemmas.Bool.{cond-true, lt-ltb, le-leb, eq-eqb, and_from, false≢true, ltb-false}
use Rattle.model.specs.declared.names.Name.{Name}
use Rattle.model.specs.declared.rows.Row.{Row}
use Rattle.model.specs.declared.rows.Item.{Item}
use Rattle.model.specs.Blank.{blank_row, blank_item}
use Rattle.theory.specs.Machine.{Machine}
use Rattle.theory.specs.Inequality.{Member, here, there}
use Rattle.theory.specs.Meeting.{meet, all}
use Rattle.text.specs.Pieces.{whole_text, last_byte}
use Rattle.ledger.specs.Settled.{Settled}
use Rattle.records.specs.declared.fault.CallFault.{CallFault}
use Rattle.records.specs.declared.sheet.Sheet.{Sheet}
use Rattle.model.specs.declared.verdict.Verdict.{Verdict}
use Rattle.model.specs.declared.verdict.Verdict.TheVariants.{Included, Excluded}
use Rattle.records.specs.Chains.{then, of_line}
use Rattle.records.specs.Places.{item_fits}
use Rattle.records.specs.Reading.{Found, sheet_read, counted, limit as most_bytes}
use Rattle.records.specs.declared.sheet.Stage.TheVariants.{Ended}
use Rattle.records.specs.declared.fault.CallFault.TheVariants.{Output}
use Rattle.text.specs.declared.fault.LineFault.TheVariants.{Form}
use Rattle.records.proofs.Chained.{then_ok}
use Rattle.records_law.specs.Laws.{Sizes, as_read}
use Rattle.records_law.proofs.Readback.{reads_back}
use Rattle.judge.specs.Judgement.{refusal}
use Rattle.judge_law.proofs.Included.{included_exchange}
use Rattle.judge_law.proofs.Excluded.{excluded_witness}
use Rattle.writing.specs.Texts.{sheet_text, records_text, all_texts, row_text, item_text, verdict_line, pair_text, end_text}
use Rattle.writing.specs.Checks.{row_fits, places_checked, records_checked, pair_checked, sheet_checked}
use Rattle.search.specs.Answered.{root_of, Shown, Refused, Answered}
use Rattle.inequality.specs.Verdicts.{table, unmarked}
use Rattle.inequality.specs.Marks.{Sided}
use Rattle.inequality.specs.Reached.{Begun}
use Rattle.inequality.proofs.Marking.{marks_right}
use Rattle.inequality.proofs.Meets.{meet_begun, meet_all}
use Rattle.inequality.proofs.Verdict.{unmarked_unrefuted}
use Rattle.search.specs.declared.answer.Answer.{Answer}
use Rattle.search.specs.declared.answer.Answer.TheVariants as answer
use Rattle.tables.specs.Plain.{Plain}
use Rattle.load.specs.Loaded.{rules_of}
use Rattle.law.specs.Grounded.{Grounded}
use Rattle.law.specs.Sheets.{kind_fault, judged, sheet_outcome, sheet_answer, AcceptedEverywhere, Exchanged}
use Rattle.law.proofs.Machines.{fits, rules_few, rules_few32, states_few, names_few}
use Rattle.law.proofs.Questions.{table_shows}
use Rattle.law.proofs.Spelled.{had_fits}
use Rattle.law.proofs.Rows.{reachable_in, root_in, row_in_fits}

-- each record of a list fits its place, the first after k others
abbrev pub FitOn : {X : Type 0} → (ℕ → X → Bool) → ℕ → List X → Type 0
FitOn fits k [] = Unit {0}
FitOn fits k (x ∷ xs) = (fits k x ≡ true) × FitOn fits (k + 1) xs

-- records that fit pass their checks, whatever stands behind them
places_pass : {X : Type 0} (fits : ℕ → X → Bool) (k : ℕ) (xs more : List X) → FitOn fits k xs →
    places_checked fits k (length xs) (xs ++ more) ≡ Ok tt
places_pass fits k [] more fit = refl
places_pass fits k (x ∷ xs) more fit = cond-true _ _ _ fit.0 ∙ places_pass fits (k + 1) xs more fit.1

-- the records of a verdict as lists of rows and of items
abbrev rows_with : Verdict → ℕ → List Row → List Row
rows_with Included room rows = rows ++ replicate (room - length rows) blank_row
rows_with Excluded room rows = replicate room blank_row

abbrev items_with : Verdict → ℕ → List Item → List Item
items_with Included room items = replicate room blank_item
items_with Excluded room items = items ++ replicate (room - length items) blank_item

-- the records of a verdict fit
abbrev pub RecordsFit : Plain → Machine → Verdict → List Row → List Item → Type 0
RecordsFit t m Included rows items = FitOn (λ _ r. row_fits (length m.states) r) 0 rows
RecordsFit t m Excluded rows items = FitOn (item_fits t.names) 0 items

-- how many records a verdict has
abbrev pub records_number : Verdict → List Row → List Item → ℕ
records_number Included rows items = length rows
records_number Excluded rows items = length items

counts_pass : (n : ℕ) → 1 ≤ n → n ≤ 512 → counted n n ≡ Ok tt
counts_pass n lo hi = cond-true _ _ _
    (and_from (leb 1 n && leb n 512) _ (and_from (leb 1 n) _ (le-leb 1 n lo) (le-leb n 512 hi)) (eq-eqb n n refl))

-- the sheet of a verdict with its records
abbrev pub sheet_with : Verdict → ℕ → ℕ → List Row → List Item → Sheet
sheet_with v a b rs is = record { verdict = v; left = a; right = b; records = records_number v rs is }

with_length : {X : Type 0} (x : X) (xs : List X) (room : ℕ) → length xs ≤ room → length (xs ++ replicate (room - length xs) x) ≡ room
with_length x xs room le =
    length-append xs (replicate (room - length xs) x) ∙ ap (λ k. length xs + k) (length-replicate (room - length xs) x) ∙ omega arith

rows_count : (v : Verdict) (room : ℕ) (rs : List Row) (is : List Item) → records_number v rs is ≤ room → length (rows_with v room rs) ≡ room
rows_count Included room rs is le = with_length blank_row rs room le
rows_count Excluded room rs is le = length-replicate room blank_row

items_count : (v : Verdict) (room : ℕ) (rs : List Row) (is : List Item) → records_number v rs is ≤ room → length (items_with v room is) ≡ room
items_count Included room rs is le = length-replicate room blank_item
items_count Excluded room rs is le = with_length blank_item is room le

records_pass : (t : Plain) (m : Machine) (v : Verdict) (room : ℕ) (rs : List Row) (is : List Item) → RecordsFit t m v rs is →
    records_checked (length m.states) t.names v (records_number v rs is) (rows_with v room rs) (items_with v room is) ≡ Ok tt
records_pass t m Included room rs is fit = places_pass (λ _ r. row_fits (length m.states) r) 0 rs (replicate (room - length rs) blank_row) fit
records_pass t m Excluded room rs is fit = places_pass (item_fits t.names) 0 is (replicate (room - length is) blank_item) fit

-- writing does not refuse it
checked : (t : Plain) (m : Machine) (v : Verdict) (a b room : ℕ) (rs : List Row) (is : List Item) → a < rules_of t → b < rules_of t →
    1 ≤ room → room ≤ 512 → records_number v rs is ≤ room → RecordsFit t m v rs is →
    sheet_checked (rules_of t) (length m.states) t.names (sheet_with v a b rs is) (rows_with v room rs) (items_with v room is) ≡ Ok tt
checked t m v a b room rs is la lb lo hi le fit =
    ap (λ k. then (counted k (length (items_with v room is))) (λ _. rest)) (rows_count v room rs is le)
    ∙ ap (λ k. then (counted room k) (λ _. rest)) (items_count v room rs is le)
    ∙ ap (λ r. then r (λ _. rest)) (counts_pass room lo hi)
    ∙ ap (λ r. then r (λ _. records_checked (length m.states) t.names v (records_number v rs is) (rows_with v room rs) (items_with v room is)))
    (cond-true _ _ _ (and_from (ltb a (rules_of t)) _ (lt-ltb a (rules_of t) la) (lt-ltb b (rules_of t) lb)))
    ∙ records_pass t m v room rs is fit
  where
    rest : Result (Unit {0}) CallFault
    rest = then (pair_checked (rules_of t) (sheet_with v a b rs is)) λ _.
        records_checked (length m.states) t.names v (records_number v rs is) (rows_with v room rs) (items_with v room is)

-- its text is the same for every room
text_same : (v : Verdict) (a b one other : ℕ) (rs : List Row) (is : List Item) →
    sheet_text (sheet_with v a b rs is) (rows_with v one rs) (items_with v one is)
    ≡ sheet_text (sheet_with v a b rs is) (rows_with v other rs) (items_with v other is)
text_same v a b one other rs is = ap (λ l. verdict_line v ++ (pair_text a b ++ (l ++ end_text (records_number v rs is)))) (same v)
  where
    same : (v : Verdict) → records_text v (records_number v rs is) (rows_with v one rs) (items_with v one is)
        ≡ records_text v (records_number v rs is) (rows_with v other rs) (items_with v other is)
    same Included = ap (all_texts row_text)
        (take_at rs (replicate (one - length rs) blank_row) (length rs) refl ∙ sym (take_at rs (replicate (other - length rs) blank_row) (length rs) refl))
    same Excluded = ap (all_texts item_text)
        (take_at is (replicate (one - length is) blank_item) (length is) refl ∙ sym (take_at is (replicate (other - length is) blank_item) (length is) refl))

-- what is read of it
abbrev pub found : Verdict → ℕ → ℕ → List Row → List Item → Found
found v a b rs is = record {
  at = record { stage = Ended; verdict = v; left = a; right = b; count = records_number v rs is };
  rows = elim v [ Included ↦ rs | Excluded ↦ [] ];
  items = elim v [ Included ↦ [] | Excluded ↦ is ];
}

as_found : (v : Verdict) (a b room : ℕ) (rs : List Row) (is : List Item) →
    as_read (sheet_with v a b rs is) (rows_with v room rs) (items_with v room is) ≡ found v a b rs is
as_found Included a b room rs is = ap (λ l. record { at = (found Included a b rs is).at; rows = l; items = [] }) (take_at rs (replicate (room - length rs) blank_row) (length rs) refl)
as_found Excluded a b room rs is = ap (λ l. record { at = (found Excluded a b rs is).at; rows = []; items = l }) (take_at is (replicate (room - length is) blank_item) (length is) refl)

sizes : (t : Plain) (m : Machine) → ∥ Grounded t m ∥₁ → Sizes (rules_of t) (length m.states) t.names
sizes t m g = record { few_rules = rules_few32 t m g; few_states = states_few t m g; few_names = names_few t m g }

-- it reads back
read_back : (t : Plain) (m : Machine) → ∥ Grounded t m ∥₁ → (v : Verdict) (a b room : ℕ) (rs : List Row) (is : List Item) → a < rules_of t → b < rules_of t →
    1 ≤ room → room ≤ 512 → records_number v rs is ≤ room → RecordsFit t m v rs is →
    sheet_read (rules_of t) (length m.states) t.names room room (sheet_text (sheet_with v a b rs is) (rows_with v room rs) (items_with v room is))
    ≡ Ok (found v a b rs is)
read_back t m g v a b room rs is la lb lo hi le fit =
    let rows = rows_with v room rs in
    let items = items_with v room is in
    let text = sheet_text (sheet_with v a b rs is) rows items in
    ap (λ k. sheet_read (rules_of t) (length m.states) t.names k room text) (sym (rows_count v room rs is le))
    ∙ ap (λ k. sheet_read (rules_of t) (length m.states) t.names (length rows) k text) (sym (items_count v room rs is le))
    ∙ reads_back (rules_of t) (length m.states) t.names (sheet_with v a b rs is) rows items (sizes t m g) (checked t m v a b room rs is la lb lo hi le fit)
    ∙ ap Ok (as_found v a b room rs is)

-- a text that is read is no longer than a sheet may be
read_short : (rules states : ℕ) (names : List Name) (m n : ℕ) (text : List ℕ) (f : Found) → sheet_read rules states names m n text ≡ Ok f → length text ≤ 262144
read_short rules states names m n text f e =
    let a = then_ok (counted m n) _ f e in
    let b = then_ok (of_line (whole_text most_bytes text)) _ f a.2 in
    long_enough (eqb (length text) 0) (ltb most_bytes (length text)) (not (eqb (last_byte text) 10)) refl b.0 b.1
  where
    long_enough : (x y z : Bool) → ltb most_bytes (length text) ≡ y → (u : Unit {0}) →
        of_line (cond (x || y || z) (Err (Form 1)) (Ok tt)) ≡ Ok u → length text ≤ 262144
    long_enough x false z is u ok = ltb-false most_bytes (length text) is
    long_enough false true z is u ok = let bad : false ≡ true = cc in absurd (false≢true bad)
    long_enough true true z is u ok = let bad : false ≡ true = cc in absurd (false≢true bad)

-- Records that fit, and show their claim whatever is settled, make a sheet that is accepted everywhere.
pub everywhere : (t : Plain) (m : Machine) → ∥ Grounded t m ∥₁ → (v : Verdict) (a b count : ℕ) (rs : List Row) (is : List Item) →
    a < rules_of t → b < rules_of t → 1 ≤ count → count ≤ 512 → records_number v rs is ≤ count → RecordsFit t m v rs is →
    ((settled : ℕ → ℕ → Settled) → kind_fault m settled (rules_of t) (found v a b rs is) v ≡ None) →
    AcceptedEverywhere t m (sheet_with v a b rs is) (rows_with v count rs) (items_with v count is)
everywhere t m g v a b count rs is la lb lo hi le fit shows = record {
  written = λ room long. ap (λ r. then r (λ _. cond (leb (length text) room) (Ok (length text)) (Err Output))) (checked t m v a b count rs is la lb lo hi le fit)
      ∙ cond-true _ _ _ (le-leb (length text) room long);
  short = read_short (rules_of t) (length m.states) t.names count count text (found v a b rs is) (read_back t m g v a b count rs is la lb lo hi le fit);
  accepted = λ settled room lo' hi' le'.
      ap (λ x. sheet_answer (sheet_outcome t m settled room room x)) (text_same v a b count room rs is)
      ∙ ap (λ r. sheet_answer (judged m settled (rules_of t) r)) (read_back t m g v a b room rs is la lb lo' hi' le' fit)
      ∙ ap (λ o. sheet_answer (elim (refusal o) [ Ok u ↦ Ok (found v a b rs is) | Err e ↦ Err e ])) (shows settled);
}
  where
    text : List ℕ
    text = sheet_text (sheet_with v a b rs is) (rows_with v count rs) (items_with v count is)

-- rows over the states fit their places
rows_fit : (states : ℕ) (k : ℕ) (rs : List Row) → ((r : Row) → Member r rs → row_fits states r ≡ true) → FitOn (λ _ r. row_fits states r) k rs
rows_fit states k [] each = tt
rows_fit states k (r ∷ rs) each = (each r here, rows_fit states (k + 1) rs (λ x mem. each x (there mem)))

-- the same for the sheet's values, rows and items as they were left
moved : (t : Plain) (m : Machine) (v : Verdict) (a b count : ℕ) (rs : List Row) (is : List Item) (n : ℕ) (rows : List Row) (items : List Item) →
    n ≡ records_number v rs is → rows ≡ rows_with v count rs → items ≡ items_with v count is →
    AcceptedEverywhere t m (sheet_with v a b rs is) (rows_with v count rs) (items_with v count is) →
    AcceptedEverywhere t m (record { verdict = v; left = a; right = b; records = n }) rows items
moved t m v a b count rs is n rows items en er ei acc =
    let P : ℕ → Type 0 = λ k. AcceptedEverywhere t m (record { verdict = v; left = a; right = b; records = k }) rows items in
    let Q : List Row → Type 0 = λ l. AcceptedEverywhere t m (sheet_with v a b rs is) l items in
    let R : List Item → Type 0 = λ l. AcceptedEverywhere t m (sheet_with v a b rs is) (rows_with v count rs) l in
    subst P (sym en) (subst Q (sym er) (subst R (sym ei) acc))

unmarked_few : (rows : List Row) (ms : List Bool) → length (unmarked rows ms) ≤ length rows
unmarked_few [] ms = omega arith
unmarked_few (r ∷ rows) [] = omega arith
unmarked_few (r ∷ rows) (true ∷ ms) = let rec = unmarked_few rows ms in omega arith
unmarked_few (r ∷ rows) (false ∷ ms) = let rec = unmarked_few rows ms in omega arith

table_few : (m : Machine) (rows : List Row) → length (table m rows) ≤ length rows
unfolding table
table_few m rows = unmarked_few rows _

-- a row of the table was met
table_met : (m : Machine) (rows : List Row) → Sided m rows → (r : Row) → Member r (table m rows) → Member r rows
unfolding table
table_met m rows sided r mem = ((unmarked_unrefuted m rows _ (marks_right m rows sided) r).0 mem).0

-- the exchange of an included verdict
pub included_exchanged : (t : Plain) (m : Machine) → ∥ Grounded t m ∥₁ → (a b limit met n : ℕ) → a < rules_of t → b < rules_of t →
    1 ≤ limit → limit ≤ 512 → (rows : List Row) (items : List Item) → (meet m limit (root_of a b)).end ≡ all →
    Shown m (meet m limit (root_of a b)).rows limit limit n rows items →
    AcceptedEverywhere t m (record { verdict = Included; left = a; right = b; records = n }) rows items
included_exchanged t m g a b limit met n la lb lo hi rows items e s =
    moved t m Included a b limit rs [] n rows items s.count
    (s.first_rows ∙ ap (λ k. rs ++ replicate (limit - k) blank_row) s.count) s.no_items
    (everywhere t m g Included a b limit rs [] la lb lo hi (omega (arith, table_few m (meet m limit (root_of a b)).rows, begun.3))
    (rows_fit (length m.states) 0 rs (λ r mem. row_in_fits (length m.states) r (states_few t m g)
    (reachable_in m (fits t m g) (root_in (length m.states) a b (omega (arith, rules_few t m g)) (omega (arith, rules_few t m g)))
    (begun.2 r (table_met m _ (meet_all m limit (root_of a b) lo e).2 r mem)))))
    (λ settled. included_exchange m settled (rules_of t) a b rs (table_shows m limit (root_of a b) lo e s.verdict)))
  where
    rs : List Row
    rs = table m (meet m limit (root_of a b)).rows

    begun : Begun m limit (root_of a b) (meet m limit (root_of a b)).rows
    begun = meet_begun m limit (root_of a b) lo

-- records that fit one by one fit together
fit_together : {X : Type 0} (d : X) (fits? : ℕ → X → Bool) (j : ℕ) (xs : List X) → ((k : ℕ) → k < length xs → fits? (j + k) (get_or xs k d) ≡ true) → FitOn fits? j xs
fit_together d fits? j [] each = tt
fit_together d fits? j (x ∷ xs) each = (
  subst (λ n. fits? n x ≡ true) (omega arith) (each 0 (omega arith)),
  fit_together d fits? (j + 1) xs (λ k lt. subst (λ n. fits? n (get_or xs k d) ≡ true) (omega arith) (each (suc k) (omega arith))),
)

-- the exchange of an excluded verdict
pub excluded_exchanged : (t : Plain) (m : Machine) → ∥ Grounded t m ∥₁ → (a b limit n : ℕ) → a < rules_of t → b < rules_of t →
    1 ≤ limit → limit ≤ 512 → (rows : List Row) (items : List Item) →
    Refused m (meet m limit (root_of a b)).rows (root_of a b) limit limit n rows items →
    AcceptedEverywhere t m (record { verdict = Excluded; left = a; right = b; records = n }) rows items
excluded_exchanged t m g a b limit n la lb lo hi rows items s =
    moved t m Excluded a b limit [] is n rows items (sym s.count) s.no_rows
    (s.first_items ∙ ap (λ k. is ++ replicate (limit - k) blank_item) (sym s.count))
    (everywhere t m g Excluded a b limit [] is la lb lo hi (omega (arith, s.count, s.few, begun.3))
    (fit_together blank_item (item_fits t.names) 0 is (λ k lt.
    subst (λ j. item_fits t.names j (get_or is k blank_item) ≡ true) (omega arith)
    (had_fits t m g a b la (meet m limit (root_of a b)).rows begun.2 is s.earlier (s.left_had (fits t m g)) k lt)))
    (λ settled. (excluded_witness m (states_few t m g) a b is (omega (arith, rules_few32 t m g))).1 (s.spells (fits t m g))))
  where
    is : List Item
    is = take n items

    begun : Begun m limit (root_of a b) (meet m limit (root_of a b)).rows
    begun = meet_begun m limit (root_of a b) lo

-- The sheet of each verdict is accepted by everybody.
pub exchanged : (t : Plain) (m : Machine) → ∥ Grounded t m ∥₁ → (a b limit : ℕ) → a < rules_of t → b < rules_of t → 1 ≤ limit → limit ≤ 512 →
    (answer : Answer) (rows : List Row) (items : List Item) → Answered m (root_of a b) limit limit answer rows items → Exchanged t m a b answer rows items
exchanged t m g a b limit la lb lo hi (answer.Included met n) rows items ans =
    included_exchanged t m g a b limit met n la lb lo hi rows items ans.0 ans.2
exchanged t m g a b limit la lb lo hi (answer.Excluded met n) rows items ans = excluded_exchanged t m g a b limit n la lb lo hi rows items ans.2
exchanged t m g a b limit la lb lo hi (answer.Wide met) rows items ans = tt
exchanged t m g a b limit la lb lo hi (answer.OutOfRows met) rows items ans = tt
