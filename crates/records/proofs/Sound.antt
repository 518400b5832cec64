-- The records of a text that was read, as the slices hold them afterwards.
use Rattle.std.proofs.Common.{◌≡◌, ℕ, ◌+◌, ◌-◌, ◌<◌, ◌≤◌, true, ◌||◌, eqb, ltb, leb, List, [], length, replicate, IfOk, Ok, Err, Result, sym, refl, ap, ◌∙◌, subst, ⊎_elim, arith}
use native.Mathlib.Nat.{sub-zero}
use Rattle.std.specs.List.{AllByRecursion}
use Rattle.std.proofs.ByRecursion.{All-get_or}
use Rattle.std.proofs.lemmas.Result.{IfOk-weaker}
use Rattle.std.proofs.lemmas.List.{length-append, length-replicate, get_or_append_left, take_at, drop_at}
use Rattle.std.proofs.lemmas.Bool.{and_parts, or_cases, ltb-true, leb-true, eqb-true, false≢true}
use Rattle.model.specs.declared.names.Name.{Name}
use Rattle.model.specs.declared.rows.Row.{Row}
use Rattle.model.specs.declared.rows.Item.{Item}
use Rattle.model.specs.Blank.{blank_row, blank_item}
use Rattle.theory.specs.Items.{Earlier}
use Rattle.text.specs.Pieces.{lines, whole_text}
use Rattle.records.specs.declared.fault.CallFault.{CallFault}
use Rattle.model.specs.declared.verdict.Verdict.{Verdict}
use Rattle.model.specs.declared.verdict.Verdict.TheVariants.{Included, Excluded}
use Rattle.records.specs.declared.sheet.Stage.{Stage}
use Rattle.records.specs.declared.sheet.Stage.TheVariants.{Sheet, Hedge, Pair, Rows, Items, Ended}
use Rattle.records.specs.declared.sheet.Progress.{Progress}
use Rattle.records.specs.declared.sheet.Limits.{Limits}
use Rattle.records.specs.Chains.{of_line}
use Rattle.records.specs.Places.{is_element, element, item_fits, RowFits, ItemSound, ItemsFit}
use Rattle.records.specs.declared.sheet.Step.{Step}
use Rattle.records.specs.declared.sheet.Step.TheVariants.{Opened, Begun, Paired, Row as a_row, Item as an_item, Ended as the_end}
use Rattle.records.specs.Reading.{Found, advanced, begun, Opening, run, counted, limit, text_read, sheet_of, sheet_read, hedge_read, answer, itself, rows_in, items_in, padded, RowsSound, ItemsSound, RecordsSound, SheetSound}
use Rattle.records.proofs.Chained.{made_then, made_is, cond_ok}
use Rattle.records.proofs.Kept.{Kept, Placed, Good, HasPair, kept_begun, kept_step, pair_step, run_keeps}

-- the tests of an item, one by one
pub item_sound : (names : List Name) (k : ℕ) (i : Item) → item_fits names k i ≡ true → ItemSound names k i
item_sound names k i h =
    let a = and_parts _ (eqb i.child 0 || element names i.name) h in
    let b = and_parts _ (leb i.next k) a.0 in
    let c = and_parts (ltb i.name (length names)) (leb i.child k) b.0 in
    record {
      named = ltb-true _ _ c.0;
      child_earlier = leb-true _ _ c.1;
      next_earlier = leb-true _ _ b.1;
      simple_empty = λ e. ⊎_elim (λ z. eqb-true i.child 0 z) (λ z. elim (false≢true (sym (ap is_element e) ∙ z)) [ ]) (or_cases _ _ a.1);
    }

-- a list with blanks after it
pub padded_length : {X : Type 0} (b : X) (n : ℕ) (xs : List X) → length xs ≤ n → length (padded b n xs) ≡ n
padded_length b n xs h = length-append xs (replicate (n - length xs) b) ∙ omega (arith, length-replicate (n - length xs) b)

-- no records, and blanks alone
padded_none : {X : Type 0} (b : X) (m : ℕ) (xs : List X) → xs ≡ [] → padded b m xs ≡ replicate (length (padded b m xs)) b
padded_none b m xs e =
    let is : padded b m xs ≡ replicate m b = ap (padded b m) e ∙ ap (λ l. replicate l b) (sub-zero m) in
    is ∙ ap (λ l. replicate l b) (sym (ap length is ∙ length-replicate m b))

-- the rows of a list with blanks after it
rows_sound : (states n : ℕ) (rows : List Row) → length rows ≤ n → AllByRecursion (RowFits states) rows → (items : List Item) (m : ℕ) → items ≡ [] →
    RowsSound states (length rows) (padded blank_row n rows) (padded blank_item m items)
rows_sound states n rows le fit items m none =
    let long = padded_length blank_row n rows le in
    record {
      within = omega arith;
      fit = λ k lt. subst (RowFits states) (sym (get_or_append_left rows _ blank_row k lt)) (All-get_or (RowFits states) rows k blank_row lt fit);
      others = drop_at rows _ (length rows) refl ∙ ap (λ l. replicate (l - length rows) blank_row) (sym long);
      no_items = padded_none blank_item m items none;
    }

items_sound : (names : List Name) (n : ℕ) (items : List Item) → length items ≤ n → ItemsFit names items → (rows : List Row) (m : ℕ) → rows ≡ [] →
    ItemsSound names (length items) (padded blank_row m rows) (padded blank_item n items)
items_sound names n items le fit rows m none =
    let long = padded_length blank_item n items le in
    let front = take_at items (replicate (n - length items) blank_item) (length items) refl in
    record {
      within = omega arith;
      fit = λ k lt. subst (ItemSound names k) (sym (get_or_append_left items _ blank_item k lt)) (item_sound names k _ (fit k lt));
      earlier = subst Earlier (sym front) (λ k lt. let s = item_sound names k _ (fit k lt) in (s.child_earlier, s.next_earlier));
      others = drop_at items _ (length items) refl ∙ ap (λ l. replicate (l - length items) blank_item) (sym long);
      no_rows = padded_none blank_row m rows none;
    }

-- a text that is read is kept, ends at its end line, and was given as many items as rows
pub text_keeps : (L : Limits) (names : List Name) (s : Stage) (m n : ℕ) (bs : List ℕ) (P : Found → Type 0) →
    IfOk (run L names (begun s) 0 (lines bs)) P → IfOk (text_read L names s m n bs) (λ f. P f × (m ≡ n))
text_keeps L names s m n bs P h =
    made_then (counted m n) _ (λ f. P f × (m ≡ n)) λ _ e.
    made_then (of_line (whole_text limit bs)) _ (λ f. P f × (m ≡ n)) λ _ _.
    IfOk-weaker (run L names (begun s) 0 (lines bs)) P (λ f. P f × (m ≡ n)) (λ f p. (p, eqb-true m n (and_parts _ (eqb m n) (cond_ok _ tt _ _ e).0).1)) h

-- what a call answers came of a text that was read
pub answer_ok : (R : Result Found CallFault) (p : Progress) → Ok p ≡ answer itself R → (f : Found) × (R ≡ Ok f) × (f.at ≡ p)
answer_ok (Ok f) p e = (f, refl, cc)
answer_ok (Err x) p e = absurd cc

pub answer_more : {X : Type 0} (g : Progress → X) (R : Result Found CallFault) (p : Progress) → Ok p ≡ answer itself R → Ok (g p) ≡ answer g R
answer_more g (Ok f) p e = let at : p ≡ f.at = cc in ap (λ q. Ok (g q)) at
answer_more g (Err x) p e = absurd cc

-- the records of a text that ended, by its verdict
ended_sound : (L : Limits) (names : List Name) (rows : List Row) (items : List Item) (m n count : ℕ) →
    count ≡ length rows + length items → count ≤ m → count ≤ n → AllByRecursion (RowFits L.states) rows → ItemsFit names items →
    (v : Verdict) → Placed Ended v rows items → RecordsSound L.states names v count (padded blank_row m rows) (padded blank_item n items)
ended_sound L names rows items m n count is lm ln rf if Included none =
    let e : length rows ≡ count = omega (arith, ap length none) in
    subst (λ k. RowsSound L.states k (padded blank_row m rows) (padded blank_item n items)) e (rows_sound L.states m rows (omega arith) rf items n none)
ended_sound L names rows items m n count is lm ln rf if Excluded none =
    let e : length items ≡ count = omega (arith, ap length none) in
    subst (λ k. ItemsSound names k (padded blank_row m rows) (padded blank_item n items)) e (items_sound names n items (omega arith) if rows m none)

-- what a text that was read is known to be
pub text_sound : (L : Limits) (names : List Name) (s : Stage) (m n : ℕ) (bs : List ℕ) (p : Progress) (rows : List Row) (items : List Item) →
    Opening s → L.room ≡ m → Ok p ≡ answer itself (text_read L names s m n bs) →
    rows ≡ padded blank_row m (rows_in (text_read L names s m n bs)) → items ≡ padded blank_item n (items_in (text_read L names s m n bs)) →
    RecordsSound L.states names p.verdict p.count rows items
text_sound L names s m n bs p rows items o room e er ei =
    let R = text_read L names s m n bs in
    let a = answer_ok R p e in
    let f = a.0 in
    let k : (Kept L names f × (f.at.stage ≡ Ended)) × (m ≡ n) =
    made_is _ R f a.1 (text_keeps L names s m n bs (λ g. Kept L names g × (g.at.stage ≡ Ended)) (run_keeps L names (Kept L names) (kept_step L names) (lines bs) (begun s) 0 (kept_begun L names s o))) in
    let K = k.0.0 in
    let placed = subst (λ t. Placed t f.at.verdict f.rows f.items) k.0.1 K.placed in
    let lm : f.at.count ≤ m = omega (arith, K.within) in
    let ln : f.at.count ≤ n = omega (arith, K.within, k.1) in
    let S = ended_sound L names f.rows f.items m n f.at.count K.counted lm ln K.rows_fit K.items_fit f.at.verdict placed in
    let r : rows ≡ padded blank_row m f.rows = er ∙ ap (λ Q. padded blank_row m (rows_in Q)) a.1 in
    let i : items ≡ padded blank_item n f.items = ei ∙ ap (λ Q. padded blank_item n (items_in Q)) a.1 in
    subst (λ q. RecordsSound L.states names q.verdict q.count rows items) a.2
    (subst (λ rs. RecordsSound L.states names f.at.verdict f.at.count rs items) (sym r)
    (subst (λ is. RecordsSound L.states names f.at.verdict f.at.count (padded blank_row m f.rows) is) (sym i) S))

-- the pair of a sheet that was read
pub pair_sound : (L : Limits) (names : List Name) (m n : ℕ) (bs : List ℕ) (p : Progress) →
    Ok p ≡ answer itself (text_read L names Sheet m n bs) → (p.left < L.rules) × (p.right < L.rules)
pair_sound L names m n bs p e =
    let R = text_read L names Sheet m n bs in
    let a = answer_ok R p e in
    let f = a.0 in
    let k : (HasPair L.rules f.at f.at.stage × (f.at.stage ≡ Ended)) × (m ≡ n) =
    made_is _ R f a.1 (text_keeps L names Sheet m n bs (λ g. HasPair L.rules g.at g.at.stage × (g.at.stage ≡ Ended)) (run_keeps L names (λ g. HasPair L.rules g.at g.at.stage) (pair_step L names) (lines bs) (begun Sheet) 0 tt)) in
    let h = subst (HasPair L.rules f.at) k.0.1 k.0.0 in
    subst (λ q. (q.left < L.rules) × (q.right < L.rules)) a.2 h

-- no line of a hedge's text changes the verdict that it began with
abbrev pub AHedge : Progress → Stage → Type 0
AHedge p Sheet = ⊥
AHedge p Hedge = p.verdict ≡ Excluded
AHedge p Pair = ⊥
AHedge p Rows = ⊥
AHedge p Items = p.verdict ≡ Excluded
AHedge p Ended = p.verdict ≡ Excluded

pub hedge_step : (L : Limits) (names : List Name) (f : Found) (s : Step) → AHedge f.at f.at.stage → Good L names f.at s → AHedge (advanced f.at s) (advanced f.at s).stage
hedge_step L names f (Opened v) h g = absurd (subst (AHedge f.at) g h)
hedge_step L names f Begun h g = subst (AHedge f.at) g h
hedge_step L names f (Paired a b) h g = absurd (subst (AHedge f.at) g.0 h)
hedge_step L names f (a_row r) h g = absurd (subst (AHedge f.at) g.0 h)
hedge_step L names f (an_item i) h g = subst (AHedge (advanced f.at (an_item i))) (sym g.0) (subst (AHedge f.at) g.0 h)
hedge_step L names f the_end h g = ⊎_elim (λ e. absurd (subst (AHedge f.at) e h)) (λ e. subst (AHedge f.at) e h) g

-- a hedge's text has items alone
pub hedge_excluded : (L : Limits) (names : List Name) (m n : ℕ) (bs : List ℕ) (p : Progress) →
    Ok p ≡ answer itself (text_read L names Hedge m n bs) → p.verdict ≡ Excluded
hedge_excluded L names m n bs p e =
    let R = text_read L names Hedge m n bs in
    let a = answer_ok R p e in
    let f = a.0 in
    let k : (AHedge f.at f.at.stage × (f.at.stage ≡ Ended)) × (m ≡ n) =
    made_is _ R f a.1 (text_keeps L names Hedge m n bs (λ g. AHedge g.at g.at.stage × (g.at.stage ≡ Ended)) (run_keeps L names (λ g. AHedge g.at g.at.stage) (hedge_step L names) (lines bs) (begun Hedge) 0 refl)) in
    let h = subst (AHedge f.at) k.0.1 k.0.0 in
    sym (ap (λ q. q.verdict) a.2) ∙ h

-- a hedge's text that was read
pub hedge_sound : (names : List Name) (m n : ℕ) (bs : List ℕ) (p : Progress) (rows : List Row) (items : List Item) →
    Ok p ≡ answer itself (hedge_read names m n bs) →
    rows ≡ padded blank_row m (rows_in (hedge_read names m n bs)) → items ≡ padded blank_item n (items_in (hedge_read names m n bs)) →
    ItemsSound names p.count rows items
hedge_sound names m n bs p rows items e er ei =
    let L : Limits = record { rules = 0; states = 0; room = m } in
    subst (λ v. RecordsSound 0 names v p.count rows items) (hedge_excluded L names m n bs p e) (text_sound L names Hedge m n bs p rows items tt refl e er ei)

-- a sheet's text that was read
pub sheet_sound : (rules states : ℕ) (names : List Name) (m n : ℕ) (bs : List ℕ) (p : Progress) (rows : List Row) (items : List Item) →
    Ok p ≡ answer itself (sheet_read rules states names m n bs) →
    rows ≡ padded blank_row m (rows_in (sheet_read rules states names m n bs)) → items ≡ padded blank_item n (items_in (sheet_read rules states names m n bs)) →
    SheetSound rules states names (sheet_of p) rows items
sheet_sound rules states names m n bs p rows items e er ei =
    let L : Limits = record { rules = rules; states = states; room = m } in
    let pair = pair_sound L names m n bs p e in
    record { left_rule = pair.0; right_rule = pair.1; sound = text_sound L names Sheet m n bs p rows items tt refl e er ei }
