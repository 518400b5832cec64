-- What every line keeps: the records so far are counted, have their places and fit them.
use Rattle.std.proofs.Common.{◌≡◌, ℕ, suc, ◌+◌, ◌-◌, ◌*◌, ◌/◌, ◌%◌, ◌^◌, ◌<◌, ◌≤◌, min, Bool, true, false, cond, ◌&&◌, eqb, ltb, leb, ◌⊎◌, List, [], ◌∷◌, ◌++◌, length, set, replicate, IfOk, Ok, Err, codes, Result, sym, refl, ap, ◌∙◌, subst, inl, inr, ⊎_elim, pow-suc, add-one, arith}
use native.Mathlib.Nat.{div-eq_of_lt}
use lib.Bits.{bit_or, or_shifted_r}
use Rattle.std.specs.List.{AllByRecursion}
use Rattle.std.proofs.Math.Pow.{pow_mono}
use Rattle.std.proofs.lemmas.Nat.{pow_pos}
use Rattle.std.proofs.ByRecursion.{All-push}
use Rattle.std.proofs.lemmas.List.{length_push, get_or_push, get_or_append_left, set_at, append_assoc}
use Rattle.std.proofs.lemmas.Bool.{and_parts, ltb-true, leb-true, lt-ltb, eqb-true, cond-true, cases_lt}
use Rattle.model.specs.declared.names.Name.{Name}
use Rattle.model.specs.declared.rows.Row.{Row}
use Rattle.model.specs.declared.rows.Item.{Item}
use Rattle.model.specs.Blank.{blank_item}
use Rattle.model.specs.Sets.{has, insert}
use Rattle.text.specs.Pieces.{lines, onto}
use Rattle.text.specs.Fields.{View, key, number, line_of, is_word, value_in}
use Rattle.text.specs.Cursors.{taken, others, ended, line_parts}
use Rattle.records.specs.declared.fault.CallFault.{CallFault}
use Rattle.model.specs.declared.verdict.Verdict.{Verdict}
use Rattle.model.specs.declared.verdict.Verdict.TheVariants.{Included, Excluded}
use Rattle.records.specs.declared.sheet.Stage.{Stage}
use Rattle.records.specs.declared.sheet.Stage.TheVariants.{Sheet, Hedge, Pair, Rows, Items, Ended}
use Rattle.records.specs.declared.sheet.Progress.{Progress}
use Rattle.records.specs.declared.sheet.Limits.{Limits}
use Rattle.records.specs.declared.sheet.Step.{Step}
use Rattle.records.specs.declared.sheet.Step.TheVariants.{Opened, Begun, Paired, Row as a_row, Item as an_item, Ended as the_end}
use Rattle.records.specs.Chains.{then, of_line, misplaced}
use Rattle.records.specs.Places.{item_fits, RowFits, ItemsFit, HasPlace}
use Rattle.records.specs.Lines.{worded, verdict_in, pair_line, all_numbers, right_states, roomy, row_line, item_line, end_line, at_stage, judged}
use Rattle.records.specs.Reading.{records_of, advanced, more_rows, more_items, row_placed, item_placed, Found, entered, finished, run, padded, begun, Opening, answer, itself}
use Rattle.records.proofs.Chained.{made_then, made_cond, made_either, cond_ok, made_is}

-- a number below a power of two is below each higher one
pub pow_up : (s m n : ℕ) → s < 2 ^ m → m ≤ n → s < 2 ^ n
pow_up s m n h le = omega (arith, pow_mono le)

-- a state above all those of a set is added to the set's number
pub insert_high : (s low q : ℕ) → s < 2 ^ low → low ≤ q → q < 128 → insert s q ≡ 2 ^ q + s
insert_high s low q h le lt =
    let small : s < 2 ^ q = pow_up s low q h le in
    cond-true (ltb q 128) (bit_or s (2 ^ q)) s (lt-ltb q 128 lt)
    ∙ ap (bit_or s) (omega arith)
    ∙ or_shifted_r 1 q s small
    ∙ omega arith

pub insert_below : (s low q : ℕ) → s < 2 ^ low → low ≤ q → q < 128 → insert s q < 2 ^ (q + 1)
insert_below s low q h le lt =
    let small : s < 2 ^ q = pow_up s low q h le in
    let e = insert_high s low q h le lt in
    let two : 2 ^ (q + 1) ≡ 2 ^ q * 2 = ap (λ k. 2 ^ k) (add-one q) ∙ pow-suc 2 q in
    omega arith

-- the states of a set are below n where its number is below 2 ^ n
pub has_below : (s n q : ℕ) → s < 2 ^ n → has s q ≡ true → q < n
has_below s n q h e =
    ⊎_elim (λ (l : q < n). l)
    (λ (l : n ≤ q).
    let none : (s / 2 ^ q) % 2 ≡ 0 = ap (λ k. k % 2) (div-eq_of_lt (pow_up s n q h l)) in
    let one : (s / 2 ^ q) % 2 ≡ 1 = eqb-true _ _ (and_parts (ltb q 128) _ e).1 in
    absurd (omega arith))
    (cases_lt q n)

-- the right states of a row that is read
pub right_fits : (n states low s : ℕ) (ps : List (List ℕ)) → s < 2 ^ low → low ≤ states →
    IfOk (right_states n states low s ps) (λ set. set.bits < 2 ^ states)
right_fits n states low s [] h le = pow_up s low states h le
right_fits n states low s (p ∷ ps) h le =
    made_then (of_line (value_in (number n p))) _ _ λ q _.
    go q (leb low q && ltb q (min states 128)) refl (λ l m. right_fits n states (q + 1) (insert s q) ps (insert_below s low q h l (omega arith)) (omega arith))
  where
    go : (q : ℕ) (b : Bool) → (leb low q && ltb q (min states 128)) ≡ b →
        (low ≤ q → q < min states 128 → IfOk (right_states n states (q + 1) (insert s q) ps) (λ set. set.bits < 2 ^ states)) →
        IfOk (cond b (right_states n states (q + 1) (insert s q) ps) (misplaced n)) (λ set. set.bits < 2 ^ states)
    go q true e rec = let t = and_parts (leb low q) _ e in rec (leb-true low q t.0) (ltb-true q (min states 128) t.1)
    go q false e rec = tt

-- what a line may say at a stage
abbrev pub Good : Limits → List Name → Progress → Step → Type 0
Good L names p (Opened v) = p.stage ≡ Sheet
Good L names p Begun = p.stage ≡ Hedge
Good L names p (Paired a b) = (p.stage ≡ Pair) × (a < L.rules) × (b < L.rules)
Good L names p (a_row r) = (p.stage ≡ Rows) × (p.count < L.room) × RowFits L.states r
Good L names p (an_item i) = (p.stage ≡ Items) × (p.count < L.room) × (item_fits names p.count i ≡ true)
Good L names p the_end = (p.stage ≡ Rows) ⊎ (p.stage ≡ Items)

-- a row that is read
pub row_good : (L : Limits) (names : List Name) (p : Progress) (n : ℕ) (k : View) (ps : List (List ℕ)) → p.stage ≡ Rows →
    IfOk (row_line L p.count n k ps) (Good L names p)
row_good L names p n k ps e =
    let P = Good L names p in
    made_then (roomy (line_of k) p.count L.room) _ P λ _ room.
    made_then (of_line (all_numbers n ps)) _ P λ _ _.
    made_then (of_line (taken number n ps)) _ P λ first _.
    made_then (of_line (value_in first)) _ P λ left _.
    made_then (right_states n L.states 0 0 (others ps)) _ P λ right is.
    made_cond (ltb left L.states) (a_row (record { left = left; right = right })) _ P λ fits.
    let bits : right.bits < 2 ^ L.states = made_is _ _ right is (right_fits n L.states 0 0 (others ps) (omega (arith, pow_pos 0)) (omega arith)) in
    (e, ltb-true _ _ (cond_ok (ltb p.count L.room) tt _ _ room).0, record { left_state = ltb-true _ _ fits; right_bits = bits; right_states = λ q h. has_below right.bits L.states q bits h })

-- an item that is read
pub item_good : (L : Limits) (names : List Name) (p : Progress) (n : ℕ) (k : View) (ps : List (List ℕ)) → p.stage ≡ Items →
    IfOk (item_line names L.room p.count n k ps) (Good L names p)
item_good L names p n k ps e =
    let P = Good L names p in
    made_then (of_line (taken number n ps)) _ P λ first _.
    made_then (of_line (taken number n (others ps))) _ P λ second _.
    made_then (of_line (taken number n (others (others ps)))) _ P λ third _.
    made_then (of_line (ended n (others (others (others ps))))) _ P λ _ _.
    made_then (roomy (line_of k) p.count L.room) _ P λ _ room.
    made_then (of_line (value_in first)) _ P λ name _.
    made_then (of_line (value_in second)) _ P λ child _.
    made_then (of_line (value_in third)) _ P λ next _.
    let i : Item = record { name = name; child = child; next = next } in
    made_cond (item_fits names p.count i) (an_item i) _ P λ fits.
    (e, ltb-true _ _ (cond_ok (ltb p.count L.room) tt _ _ room).0, fits)

-- an end that is read
pub end_good : (L : Limits) (names : List Name) (p : Progress) (n : ℕ) (k : View) (ps : List (List ℕ)) → (p.stage ≡ Rows) ⊎ (p.stage ≡ Items) →
    IfOk (end_line p.count n k ps) (Good L names p)
end_good L names p n k ps e =
    let P = Good L names p in
    made_then (of_line (worded (codes "end") k)) _ P λ _ _.
    made_then (of_line (taken number n ps)) _ P λ first _.
    made_then (of_line (ended n (others ps))) _ P λ _ _.
    made_then (of_line (value_in first)) _ P λ m _.
    made_cond (eqb m p.count) the_end _ P λ _. e

-- a pair that is read
pub pair_good : (L : Limits) (names : List Name) (p : Progress) (n : ℕ) (k : View) (ps : List (List ℕ)) → p.stage ≡ Pair →
    IfOk (pair_line L.rules n k ps) (Good L names p)
pair_good L names p n k ps e =
    let P = Good L names p in
    made_then (of_line (worded (codes "pair") k)) _ P λ _ _.
    made_then (of_line (taken number n ps)) _ P λ left _.
    made_then (of_line (taken number n (others ps))) _ P λ right _.
    made_then (of_line (ended n (others (others ps)))) _ P λ _ _.
    made_then (of_line (value_in left)) _ P λ a _.
    made_then (of_line (value_in right)) _ P λ b _.
    made_cond (ltb a L.rules && ltb b L.rules) (Paired a b) _ P λ fits.
    let t = and_parts (ltb a L.rules) _ fits in (e, ltb-true _ _ t.0, ltb-true _ _ t.1)

-- a line at a stage
pub stage_good : (L : Limits) (names : List Name) (p : Progress) (n : ℕ) (k : View) (ps : List (List ℕ)) (s : Stage) → p.stage ≡ s →
    IfOk (at_stage L names p n k ps s) (Good L names p)
stage_good L names p n k ps Sheet e =
    let P = Good L names p in
    made_then (of_line (worded (codes "sheet") k)) _ P λ _ _.
    made_then (of_line (taken key n ps)) _ P λ word _.
    made_then (of_line (ended n (others ps))) _ P λ _ _.
    made_then (of_line (verdict_in word)) _ P λ verdict _. e
stage_good L names p n k ps Hedge e =
    let P = Good L names p in
    made_then (of_line (worded (codes "hedge") k)) _ P λ _ _.
    made_then (of_line (taken key n ps)) _ P λ word _.
    made_then (of_line (ended n (others ps))) _ P λ _ _.
    made_then (of_line (worded (codes "1") word)) _ P λ _ _. e
stage_good L names p n k ps Pair e = pair_good L names p n k ps e
stage_good L names p n k ps Rows e =
    made_either (is_word (codes "row") k) (row_line L p.count n k ps) (end_line p.count n k ps) (Good L names p) (row_good L names p n k ps e) (end_good L names p n k ps (inl e))
stage_good L names p n k ps Items e =
    made_either (is_word (codes "item") k) (item_line names L.room p.count n k ps) (end_line p.count n k ps) (Good L names p) (item_good L names p n k ps e) (end_good L names p n k ps (inr e))
stage_good L names p n k ps Ended e = tt

pub judged_good : (L : Limits) (names : List Name) (p : Progress) (n : ℕ) (bs : List ℕ) →
    IfOk (judged L names p n bs) (Good L names p)
judged_good L names p n bs = made_then (of_line (line_parts n bs)) _ (Good L names p) λ kf _. stage_good L names p n kf.0 kf.1 p.stage refl

-- where the records so far stand
abbrev pub Placed : Stage → Verdict → List Row → List Item → Type 0
Placed Sheet v rows items = (rows ≡ []) × (items ≡ [])
Placed Hedge v rows items = (v ≡ Excluded) × (rows ≡ []) × (items ≡ [])
Placed Pair v rows items = (rows ≡ []) × (items ≡ [])
Placed Rows v rows items = (v ≡ Included) × (items ≡ [])
Placed Items v rows items = (v ≡ Excluded) × (rows ≡ [])
Placed Ended Included rows items = items ≡ []
Placed Ended Excluded rows items = rows ≡ []

-- the records so far are counted and fit their places
pub record Kept (L : Limits) (names : List Name) (f : Found) : Type 0 where
  pub counted : f.at.count ≡ length f.rows + length f.items
  pub within : f.at.count ≤ L.room
  pub placed : Placed f.at.stage f.at.verdict f.rows f.items
  pub rows_fit : AllByRecursion (RowFits L.states) f.rows
  pub items_fit : ItemsFit names f.items

placed_records : (v : Verdict) (rows : List Row) (items : List Item) → rows ≡ [] → items ≡ [] → Placed (records_of v) v rows items
placed_records Included rows items a b = (refl, b)
placed_records Excluded rows items a b = (refl, a)

placed_end : (v : Verdict) (rows : List Row) (items : List Item) → ((v ≡ Included) × (items ≡ [])) ⊎ ((v ≡ Excluded) × (rows ≡ [])) → Placed Ended v rows items
placed_end Included rows items (inl t) = t.1
placed_end Included rows items (inr t) = absurd (cc t.0)
placed_end Excluded rows items (inl t) = absurd (cc t.0)
placed_end Excluded rows items (inr t) = t.1

-- one item more
pub items_push : (names : List Name) (items : List Item) (i : Item) → ItemsFit names items → item_fits names (length items) i ≡ true → ItemsFit names (items ++ i ∷ [])
items_push names items i h fits k lt =
    ⊎_elim
    (λ (l : k < length items). ap (item_fits names k) (get_or_append_left items (i ∷ []) blank_item k l) ∙ h k l)
    (λ (l : length items ≤ k).
    let e : length items ≡ k = omega (arith, length_push items i) in
    ap (item_fits names k) (get_or_push items i blank_item k e) ∙ subst (λ j. item_fits names j i ≡ true) e fits)
    (cases_lt k (length items))

-- a line keeps it
pub kept_step : (L : Limits) (names : List Name) (f : Found) (s : Step) → Kept L names f → Good L names f.at s → Kept L names (entered f s)
kept_step L names f (Opened v) h e =
    record { counted = h.counted; within = h.within; placed = subst (λ t. Placed t f.at.verdict f.rows f.items) e h.placed; rows_fit = h.rows_fit; items_fit = h.items_fit }
kept_step L names f Begun h e =
    let t = subst (λ t. Placed t f.at.verdict f.rows f.items) e h.placed in
    record { counted = h.counted; within = h.within; placed = (t.0, t.1); rows_fit = h.rows_fit; items_fit = h.items_fit }
kept_step L names f (Paired a b) h (e, _, _) =
    let t = subst (λ t. Placed t f.at.verdict f.rows f.items) e h.placed in
    record { counted = h.counted; within = h.within; placed = placed_records f.at.verdict f.rows f.items t.0 t.1; rows_fit = h.rows_fit; items_fit = h.items_fit }
kept_step L names f (a_row r) h (e, room, fits) =
    let t = subst (λ t. Placed t f.at.verdict f.rows f.items) e h.placed in
    record {
      counted = omega (arith, length_push f.rows r, h.counted);
      within = omega (arith, room);
      placed = subst (λ t. Placed t f.at.verdict (f.rows ++ r ∷ []) f.items) (sym e) (t.0, t.1);
      rows_fit = All-push (RowFits L.states) f.rows r h.rows_fit fits;
      items_fit = h.items_fit;
    }
kept_step L names f (an_item i) h (e, room, fits) =
    let t = subst (λ t. Placed t f.at.verdict f.rows f.items) e h.placed in
    let n : f.at.count ≡ length f.items = h.counted ∙ ap (λ rs. length rs + length f.items) t.1 ∙ omega arith in
    record {
      counted = omega (arith, length_push f.items i, h.counted);
      within = omega (arith, room);
      placed = subst (λ t. Placed t f.at.verdict f.rows (f.items ++ i ∷ [])) (sym e) (t.0, t.1);
      rows_fit = h.rows_fit;
      items_fit = items_push names f.items i h.items_fit (subst (λ j. item_fits names j i ≡ true) n fits);
    }
kept_step L names f the_end h e =
    record {
      counted = h.counted;
      within = h.within;
      placed = placed_end f.at.verdict f.rows f.items (⊎_elim (λ a. inl (subst (λ t. Placed t f.at.verdict f.rows f.items) a h.placed)) (λ a. inr (subst (λ t. Placed t f.at.verdict f.rows f.items) a h.placed)) e);
      rows_fit = h.rows_fit;
      items_fit = h.items_fit;
    }

-- before the first line
pub kept_begun : (L : Limits) (names : List Name) (s : Stage) → Opening s → Kept L names (begun s)
kept_begun L names s h =
    record { counted = refl; within = omega arith; placed = start s h; rows_fit = tt; items_fit = λ k lt. absurd (omega arith) }
  where
    start : (s : Stage) → Opening s → Placed s Excluded [] []
    start Sheet h = (refl, refl)
    start Hedge h = (refl, refl, refl)
    start Pair h = absurd h
    start Rows h = absurd h
    start Items h = absurd h
    start Ended h = absurd h

-- a record at the first blank place
pub set_padded : {X : Type 0} (b x : X) (n c : ℕ) (xs : List X) → length xs ≡ c → c < n → set (padded b n xs) c x ≡ padded b n (xs ++ x ∷ [])
set_padded b x n c xs e lt =
    let more : n - length xs ≡ suc (n - length (xs ++ x ∷ [])) = omega (arith, length_push xs x) in
    ap (λ k. set (xs ++ replicate k b) c x) more
    ∙ set_at xs b (replicate (n - length (xs ++ x ∷ [])) b) x c e
    ∙ sym (append_assoc xs (x ∷ []) (replicate (n - length (xs ++ x ∷ [])) b))

-- a line's row and item go to their places
pub row_goes : (L : Limits) (names : List Name) (f : Found) (s : Step) (b : Row) → Kept L names f → Good L names f.at s →
    row_placed f.at.count (padded b L.room f.rows) s ≡ padded b L.room (more_rows f.rows s)
row_goes L names f (Opened v) b h g = refl
row_goes L names f Begun b h g = refl
row_goes L names f (Paired x y) b h g = refl
row_goes L names f (a_row r) b h g =
    let t = subst (λ t. Placed t f.at.verdict f.rows f.items) g.0 h.placed in
    let n : length f.rows ≡ f.at.count = omega (arith, h.counted, ap length t.1) in
    set_padded b r L.room f.at.count f.rows n g.1
row_goes L names f (an_item i) b h g = refl
row_goes L names f the_end b h g = refl

pub item_goes : (L : Limits) (names : List Name) (f : Found) (s : Step) (b : Item) → Kept L names f → Good L names f.at s →
    item_placed f.at.count (padded b L.room f.items) s ≡ padded b L.room (more_items f.items s)
item_goes L names f (Opened v) b h g = refl
item_goes L names f Begun b h g = refl
item_goes L names f (Paired x y) b h g = refl
item_goes L names f (a_row r) b h g = refl
item_goes L names f (an_item i) b h g =
    let t = subst (λ t. Placed t f.at.verdict f.rows f.items) g.0 h.placed in
    let n : length f.items ≡ f.at.count = omega (arith, h.counted, ap length t.1) in
    set_padded b i L.room f.at.count f.items n g.1
item_goes L names f the_end b h g = refl

-- a record that is read has its place
pub good_place : (L : Limits) (names : List Name) (p : Progress) (s : Step) (n : ℕ) → L.room ≡ n → Good L names p s → HasPlace p.count n s
good_place L names p (Opened v) n e g = tt
good_place L names p Begun n e g = tt
good_place L names p (Paired a b) n e g = tt
good_place L names p (a_row r) n e g = omega (arith, g.1)
good_place L names p (an_item i) n e g = omega (arith, g.1)
good_place L names p the_end n e g = tt

-- what every line keeps, a text keeps, and it ends at its end line
pub run_keeps : (L : Limits) (names : List Name) (P : Found → Type 0) →
    ((f : Found) (s : Step) → P f → Good L names f.at s → P (entered f s)) →
    (ls : List (List ℕ)) (f : Found) (n : ℕ) → P f → IfOk (run L names f n ls) (λ g. P g × (g.at.stage ≡ Ended))
run_keeps L names P step [] f n h = last f.at.stage refl
  where
    last : (s : Stage) → f.at.stage ≡ s → IfOk (finished (n + 1) f s) (λ g. P g × (g.at.stage ≡ Ended))
    last Sheet e = tt
    last Hedge e = tt
    last Pair e = tt
    last Rows e = tt
    last Items e = tt
    last Ended e = (h, e)
run_keeps L names P step (l ∷ ls) f n h =
    made_then (judged L names f.at (n + 1) l) _ (λ g. P g × (g.at.stage ≡ Ended)) λ s e.
    run_keeps L names P step ls (entered f s) (n + 1) (step f s h (made_is _ _ s e (judged_good L names f.at (n + 1) l)))

-- after its pair line a sheet has a pair of rules
abbrev pub HasPair : ℕ → Progress → Stage → Type 0
HasPair rules p Sheet = Unit {0}
HasPair rules p Hedge = ⊥
HasPair rules p Pair = Unit {0}
HasPair rules p Rows = (p.left < rules) × (p.right < rules)
HasPair rules p Items = (p.left < rules) × (p.right < rules)
HasPair rules p Ended = (p.left < rules) × (p.right < rules)

pub pair_step : (L : Limits) (names : List Name) (f : Found) (s : Step) → HasPair L.rules f.at f.at.stage → Good L names f.at s →
    HasPair L.rules (advanced f.at s) (advanced f.at s).stage
pair_step L names f (Opened v) h g = tt
pair_step L names f Begun h g = absurd (subst (HasPair L.rules f.at) g h)
pair_step L names f (Paired a b) h g = pair f.at.verdict
  where
    pair : (v : Verdict) → HasPair L.rules (advanced f.at (Paired a b)) (records_of v)
    pair Included = (g.1, g.2)
    pair Excluded = (g.1, g.2)
pair_step L names f (a_row r) h g =
    subst (HasPair L.rules (advanced f.at (a_row r))) (sym g.0) (subst (HasPair L.rules f.at) g.0 h)
pair_step L names f (an_item i) h g =
    subst (HasPair L.rules (advanced f.at (an_item i))) (sym g.0) (subst (HasPair L.rules f.at) g.0 h)
pair_step L names f the_end h g =
    ⊎_elim (λ e. subst (HasPair L.rules f.at) e h) (λ e. subst (HasPair L.rules f.at) e h) g

-- a text has no more lines than bytes
pub lines_few : (xs : List ℕ) → length (lines xs) ≤ length xs
lines_few [] = omega arith
lines_few (x ∷ xs) =
    elim (eqb x 10) as (λ b. length (cond b ([] ∷ lines xs) (onto x (lines xs))) ≤ suc (length xs)) [ true ↦ omega (arith, lines_few xs) | false ↦ longer (lines xs) (lines_few xs) ]
  where
    longer : (ps : List (List ℕ)) → length ps ≤ length xs → length (onto x ps) ≤ suc (length xs)
    longer [] h = omega arith
    longer (p ∷ ps) h = omega arith

-- a line that is read, one that is refused, and no line more
pub run_step : (L : Limits) (names : List Name) (f : Found) (p : Progress) (n m : ℕ) (l : List ℕ) (ls rest : List (List ℕ)) (s : Step) →
    f.at ≡ p → ls ≡ l ∷ rest → m ≡ n + 1 → Ok s ≡ judged L names p m l → run L names f n ls ≡ run L names (entered f s) m rest
run_step L names f p n m l ls rest s at is num e =
    ap (run L names f n) is
    ∙ ap (λ k. then (judged L names f.at k l) λ t. run L names (entered f t) k rest) (sym num)
    ∙ ap (λ q. then (judged L names q m l) λ t. run L names (entered f t) m rest) at
    ∙ ap (λ r. then r λ t. run L names (entered f t) m rest) (sym e)

pub run_stop : (L : Limits) (names : List Name) (f : Found) (p : Progress) (n m : ℕ) (l : List ℕ) (ls rest : List (List ℕ)) (e : CallFault) →
    f.at ≡ p → ls ≡ l ∷ rest → m ≡ n + 1 → Err e ≡ judged L names p m l → run L names f n ls ≡ Err e
run_stop L names f p n m l ls rest e at is num h =
    ap (run L names f n) is
    ∙ ap (λ k. then (judged L names f.at k l) λ t. run L names (entered f t) k rest) (sym num)
    ∙ ap (λ q. then (judged L names q m l) λ t. run L names (entered f t) m rest) at
    ∙ ap (λ r. then r λ t. run L names (entered f t) m rest) (sym h)

pub run_done : (L : Limits) (names : List Name) (f : Found) (p : Progress) (n m : ℕ) (ls : List (List ℕ)) →
    f.at ≡ p → ls ≡ [] → m ≡ n + 1 → run L names f n ls ≡ finished m f p.stage
run_done L names f p n m ls at is num =
    ap (run L names f n) is ∙ ap (λ k. finished k f f.at.stage) (sym num) ∙ ap (λ q. finished m f q.stage) at

-- what a line says is lawful at its stage
pub says : (L : Limits) (names : List Name) (f : Found) (p : Progress) (n : ℕ) (bs : List ℕ) (s : Step) → f.at ≡ p → Ok s ≡ judged L names p n bs → Good L names f.at s
says L names f p n bs s at e =
    made_is (Good L names f.at) (judged L names f.at n bs) s (ap (λ q. judged L names q n bs) at ∙ sym e) (judged_good L names f.at n bs)

-- what a text's end gives
pub end_answer : (m : ℕ) (f : Found) (p : Progress) (s : Stage) → f.at ≡ p → finished m p s ≡ answer itself (finished m f s)
end_answer m f p Sheet at = refl
end_answer m f p Hedge at = refl
end_answer m f p Pair at = refl
end_answer m f p Rows at = refl
end_answer m f p Items at = refl
end_answer m f p Ended at = ap (λ q. Ok q) (sym at)

pub end_holds : {X Y : Type 0} (P : X → Type 0) (m : ℕ) (f : Found) (y : Y) (s : Stage) (g : Result Found CallFault → X) (r : Result Y CallFault) (R : Result Found CallFault) →
    r ≡ finished m y s → R ≡ finished m f s → P (g (Ok f)) → IfOk r (λ _. P (g R))
end_holds P m f y s g r R er eR h = subst (λ q. IfOk q (λ _. P (g R))) (sym er) (subst (λ Q. IfOk (finished m y s) (λ _. P (g Q))) (sym eR) (at s))
  where
    at : (s : Stage) → IfOk (finished m y s) (λ _. P (g (finished m f s)))
    at Sheet = tt
    at Hedge = tt
    at Pair = tt
    at Rows = tt
    at Items = tt
    at Ended = h
