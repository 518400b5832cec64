-- What is written reads back.
use Rattle.std.proofs.Common.{◌≡◌, ℕ, zero, suc, ◌+◌, ◌<◌, ◌≤◌, Bool, true, false, cond, ◌&&◌, ltb, List, [], ◌∷◌, ◌++◌, map, length, take, Ok, codes, decimal, sym, refl, ap, ◌∙◌, arith}
use Rattle.std.specs.List.{AllByRecursion}
use Rattle.std.proofs.lemmas.List.{append_assoc, append-nil, length-take-le}
use Rattle.std.proofs.lemmas.Bool.{and_parts, ltb-true}
use Rattle.model.specs.declared.names.Name.{Name}
use Rattle.model.specs.declared.rows.Row.{Row}
use Rattle.model.specs.declared.rows.Item.{Item}
use Rattle.text.specs.Pieces.{lines, whole_text}
use Rattle.model.specs.declared.verdict.Verdict.{Verdict}
use Rattle.model.specs.declared.verdict.Verdict.TheVariants.{Included, Excluded}
use Rattle.records.specs.declared.sheet.Stage.TheVariants.{Sheet, Rows, Items, Ended}
use Rattle.records.specs.declared.sheet.Progress.{Progress}
use Rattle.records.specs.declared.sheet.Limits.{Limits}
use Rattle.records.specs.declared.sheet.Sheet.{Sheet as SheetType}
use Rattle.records.specs.declared.sheet.Step.{Step}
use Rattle.records.specs.declared.sheet.Step.TheVariants.{Opened, Paired, Row as a_row, Item as an_item, Ended as the_end}
use Rattle.records.specs.Chains.{then, of_line, misplaced}
use Rattle.records.specs.Places.{item_fits}
use Rattle.records.specs.Lines.{judged}
use Rattle.records.specs.Reading.{Found, records_of, entered, run, begun, counted, limit}
use Rattle.records.proofs.Chained.{then_ok, cond_ok}
use Rattle.records.proofs.Sound.{item_sound}
use Rattle.writing.specs.Texts.{members, row_text, item_text, all_texts, verdict_text, verdict_line, pair_text, end_text, records_text, sheet_text}
use Rattle.writing.specs.Checks.{row_fits, places_checked, records_checked, pair_checked}
use Rattle.writing.proofs.Bounded.{places_ok, counts_ok}
use Rattle.records_law.specs.Laws.{rows_of, items_of, Sizes, ReadsBack}
use Rattle.records_law.proofs.Forward.{line_bytes, lines_line, lacks_from, lacks_decimal, lacks_members, sheet_on, pair_on, end_on, row_bytes, item_bytes, row_on, item_on}
use Rattle.records_law.proofs.Tight.{sheet_whole}

-- one line more
pub run_on : (L : Limits) (names : List Name) (f : Found) (n : ℕ) (l : List ℕ) (ls : List (List ℕ)) (s : Step) → judged L names f.at (n + 1) l ≡ Ok s →
    run L names f n (l ∷ ls) ≡ run L names (entered f s) (n + 1) ls
run_on L names f n l ls s e = ap (λ r. then r λ t. run L names (entered f t) (n + 1) ls) e

-- what is read at the end
abbrev pub ended : Progress → ℕ → List Row → List Item → Found
ended p n rows items = record { at = record { stage = Ended; verdict = p.verdict; left = p.left; right = p.right; count = n }; rows = rows; items = items }

-- the end line
last_line : (L : Limits) (names : List Name) (f : Found) (n m : ℕ) (v : Verdict) → f.at.stage ≡ records_of v → f.at.count ≡ m → m < 1000000000 →
    run L names f n (line_bytes (codes "end") (decimal m) [] ∷ []) ≡ Ok (ended f.at m f.rows f.items)
last_line L names f n m v e is few =
    run_on L names f n (line_bytes (codes "end") (decimal m) []) [] the_end (end_on L names f.at (n + 1) m v e is few)
    ∙ ap (λ k. Ok (ended f.at k f.rows f.items)) is

-- rows, and then the end
pub rows_run : (L : Limits) (names : List Name) → L.states ≤ 128 → L.room ≤ 512 → (rs : List Row) (f : Found) (n m : ℕ) →
    f.at.stage ≡ Rows → f.at.count + length rs ≡ m → m ≤ L.room → AllByRecursion (λ r. row_fits L.states r ≡ true) rs →
    run L names f n (map row_bytes rs ++ line_bytes (codes "end") (decimal m) [] ∷ []) ≡ Ok (ended f.at m (f.rows ++ rs) f.items)
rows_run L names st rm [] f n m e is le fit =
    last_line L names f n m Included e (omega arith) (omega arith) ∙ ap (λ l. Ok (ended f.at m l f.items)) (sym (append-nil f.rows))
rows_run L names st rm (r ∷ rs) f n m e is le fit =
    run_on L names f n (row_bytes r) (map row_bytes rs ++ line_bytes (codes "end") (decimal m) [] ∷ []) (a_row r) (row_on L names f.at (n + 1) r e (omega arith) (omega arith) fit.0)
    ∙ rows_run L names st rm rs (entered f (a_row r)) (n + 1) m e (omega arith) le fit.1
    ∙ ap (λ l. Ok (ended f.at m l f.items)) (append_assoc f.rows (r ∷ []) rs)

-- items that fit, one after the other
abbrev pub FitFrom : List Name → ℕ → List Item → Type 0
FitFrom names k [] = Unit {0}
FitFrom names k (i ∷ is) = (item_fits names k i ≡ true) × FitFrom names (k + 1) is

-- items, and then the end
pub items_run : (L : Limits) (names : List Name) → length names ≤ 64 → L.room ≤ 512 → (is : List Item) (f : Found) (n m : ℕ) →
    f.at.stage ≡ Items → f.at.count + length is ≡ m → m ≤ L.room → FitFrom names f.at.count is →
    run L names f n (map item_bytes is ++ line_bytes (codes "end") (decimal m) [] ∷ []) ≡ Ok (ended f.at m f.rows (f.items ++ is))
items_run L names nm rm [] f n m e is le fit =
    last_line L names f n m Excluded e (omega arith) (omega arith) ∙ ap (λ l. Ok (ended f.at m f.rows l)) (sym (append-nil f.items))
items_run L names nm rm (i ∷ is) f n m e sum le fit =
    run_on L names f n (item_bytes i) (map item_bytes is ++ line_bytes (codes "end") (decimal m) [] ∷ []) (an_item i) (item_on L names f.at (n + 1) i e (omega arith) (omega arith) (omega arith) fit.0)
    ∙ items_run L names nm rm is (entered f (an_item i)) (n + 1) m e (omega arith) le fit.1
    ∙ ap (λ l. Ok (ended f.at m f.rows l)) (append_assoc f.items (i ∷ []) is)

-- items that pass their checks
fit_checked : (names : List Name) (n k : ℕ) (items : List Item) → places_checked (item_fits names) k n items ≡ Ok tt → FitFrom names k (take n items)
fit_checked names zero k items e = tt
fit_checked names (suc n) k [] e = tt
fit_checked names (suc n) k (i ∷ is) e = go (item_fits names k i) refl e (fit_checked names n (k + 1) is)
  where
    go : (b : Bool) → item_fits names k i ≡ b → cond b (places_checked (item_fits names) (k + 1) n is) (misplaced (k + 3)) ≡ Ok tt →
        (places_checked (item_fits names) (k + 1) n is ≡ Ok tt → FitFrom names (k + 1) (take n is)) → (item_fits names k i ≡ true) × FitFrom names (k + 1) (take n is)
    go true h x rec = (h, rec x)
    go false h x rec = absurd cc

-- the lines of records
rows_lines : (states : ℕ) → states ≤ 128 → (rs : List Row) (rest : List ℕ) → AllByRecursion (λ r. row_fits states r ≡ true) rs → lines (all_texts row_text rs ++ rest) ≡ map row_bytes rs ++ lines rest
rows_lines states st [] rest fit = refl
rows_lines states st (r ∷ rs) rest fit =
    let left : r.left < states = ltb-true _ _ (and_parts (ltb r.left states) _ fit.0).0 in
    ap lines (append_assoc (row_text r) (all_texts row_text rs) rest)
    ∙ lines_line (codes "row") (decimal r.left) (map decimal (members 128 0 r.right.bits)) (all_texts row_text rs ++ rest) refl (lacks_decimal 10 r.left (omega arith) (omega arith)) (lacks_members 10 (omega arith) 128 0 r.right.bits (omega arith))
    ∙ ap (λ l. row_bytes r ∷ l) (rows_lines states st rs rest fit.1)

items_lines : (names : List Name) → length names ≤ 64 → (k : ℕ) (is : List Item) (rest : List ℕ) → k + length is ≤ 512 → FitFrom names k is → lines (all_texts item_text is ++ rest) ≡ map item_bytes is ++ lines rest
items_lines names nm k [] rest most fit = refl
items_lines names nm k (i ∷ is) rest most fit =
    let s = item_sound names k i fit.0 in
    let a : i.name < 1000000000 = omega (arith, s.named) in
    let b : i.child < 1000000000 = omega (arith, s.child_earlier) in
    let c : i.next < 1000000000 = omega (arith, s.next_earlier) in
    ap lines (append_assoc (item_text i) (all_texts item_text is) rest)
    ∙ lines_line (codes "item") (decimal i.name) (decimal i.child ∷ decimal i.next ∷ []) (all_texts item_text is ++ rest) refl (lacks_decimal 10 i.name (omega arith) a) (lacks_decimal 10 i.child (omega arith) b, (lacks_decimal 10 i.next (omega arith) c, tt))
    ∙ ap (λ l. item_bytes i ∷ l) (items_lines names nm (k + 1) is rest (omega arith) fit.1)

end_lines : (n : ℕ) → n < 1000000000 → lines (end_text n) ≡ line_bytes (codes "end") (decimal n) [] ∷ []
end_lines n h = ap lines (sym (append-nil (end_text n))) ∙ lines_line (codes "end") (decimal n) [] [] refl (lacks_decimal 10 n (omega arith) h) tt

-- the records of a sheet with its end
records_run : (rules states : ℕ) (names : List Name) (s : SheetType) (rows : List Row) (items : List Item) (n : ℕ) → Sizes rules states names → length rows ≤ 512 → length rows ≡ length items →
    (v : Verdict) → records_checked states names v s.records rows items ≡ Ok tt →
    run (record { rules = rules; states = states; room = length rows }) names (record { at = record { stage = records_of v; verdict = v; left = s.left; right = s.right; count = 0 }; rows = []; items = [] }) n (lines (records_text v s.records rows items ++ end_text s.records))
    ≡ Ok (record { at = record { stage = Ended; verdict = v; left = s.left; right = s.right; count = s.records }; rows = rows_of v s.records rows; items = items_of v s.records items })
records_run rules states names s rows items n z lr same Included e =
    let L : Limits = record { rules = rules; states = states; room = length rows } in
    let p = places_ok (λ _ r. row_fits states r) (λ r. row_fits states r ≡ true) 512 (λ k r lt h. h) s.records 0 rows (omega arith) e in
    let long = length-take-le s.records rows p.1 in
    ap (run L names (record { at = record { stage = Rows; verdict = Included; left = s.left; right = s.right; count = 0 }; rows = []; items = [] }) n) (rows_lines states z.few_states (take s.records rows) (end_text s.records) p.0 ∙ ap (λ l. map row_bytes (take s.records rows) ++ l) (end_lines s.records (omega (arith, p.1))))
    ∙ rows_run L names z.few_states lr (take s.records rows) (record { at = record { stage = Rows; verdict = Included; left = s.left; right = s.right; count = 0 }; rows = []; items = [] }) n s.records refl (omega (arith, long)) p.1 p.0
records_run rules states names s rows items n z lr same Excluded e =
    let L : Limits = record { rules = rules; states = states; room = length rows } in
    let p = places_ok (item_fits names) (λ _. Unit {0}) 512 (λ k i lt h. tt) s.records 0 items (omega arith) e in
    let fit = fit_checked names s.records 0 items e in
    let long = length-take-le s.records items p.1 in
    ap (run L names (record { at = record { stage = Items; verdict = Excluded; left = s.left; right = s.right; count = 0 }; rows = []; items = [] }) n) (items_lines names z.few_names 0 (take s.records items) (end_text s.records) (omega (arith, long, p.1)) fit ∙ ap (λ l. map item_bytes (take s.records items) ++ l) (end_lines s.records (omega (arith, p.1))))
    ∙ items_run L names z.few_names lr (take s.records items) (record { at = record { stage = Items; verdict = Excluded; left = s.left; right = s.right; count = 0 }; rows = []; items = [] }) n s.records refl (omega (arith, long)) (omega (arith, p.1)) fit

lacks_verdict : (v : Verdict) (rest : List ℕ) → lines (verdict_line v ++ rest) ≡ line_bytes (codes "sheet") (verdict_text v) [] ∷ lines rest
lacks_verdict Included rest = lines_line (codes "sheet") (codes "included") [] rest refl (lacks_from 10 (codes "included") refl) tt
lacks_verdict Excluded rest = lines_line (codes "sheet") (codes "excluded") [] rest refl (lacks_from 10 (codes "excluded") refl) tt

-- what is written reads back
pub reads_back : ReadsBack
reads_back rules states names s rows items z e =
    let L : Limits = record { rules = rules; states = states; room = length rows } in
    let a = then_ok (counted (length rows) (length items)) _ tt e in
    let b = then_ok (pair_checked rules s) _ tt a.2 in
    let c = counts_ok (length rows) (length items) a.1 in
    let p = and_parts (ltb s.left rules) _ (cond_ok (ltb s.left rules && ltb s.right rules) tt tt _ b.1).0 in
    let l : s.left < rules = ltb-true _ _ p.0 in
    let r : s.right < rules = ltb-true _ _ p.1 in
    let few : rules ≤ 32 = z.few_rules in
    let la : s.left < 1000000000 = omega arith in
    let lb : s.right < 1000000000 = omega arith in
    let text = sheet_text s rows items in
    let rest = records_text s.verdict s.records rows items ++ end_text s.records in
    let V = line_bytes (codes "sheet") (verdict_text s.verdict) [] in
    let P = line_bytes (codes "pair") (decimal s.left) (decimal s.right ∷ []) in
    let whole : whole_text limit text ≡ Ok tt = sheet_whole rules states names s rows items z.few_rules z.few_states z.few_names c.1 (omega (arith, c.1, c.2)) l r b.2 in
    let ls : lines text ≡ V ∷ P ∷ lines rest =
    lacks_verdict s.verdict (pair_text s.left s.right ++ rest)
    ∙ ap (λ t. V ∷ t) (lines_line (codes "pair") (decimal s.left) (decimal s.right ∷ []) rest refl (lacks_decimal 10 s.left (omega arith) la) (lacks_decimal 10 s.right (omega arith) lb, tt)) in
    let f1 : Found = entered (begun Sheet) (Opened s.verdict) in
    ap (λ q. then q λ _. then (of_line (whole_text limit text)) λ _. run L names (begun Sheet) 0 (lines text)) a.1
    ∙ ap (λ q. then (of_line q) λ _. run L names (begun Sheet) 0 (lines text)) whole
    ∙ ap (run L names (begun Sheet) 0) ls
    ∙ run_on L names (begun Sheet) 0 V (P ∷ lines rest) (Opened s.verdict) (sheet_on L names (begun Sheet).at (0 + 1) s.verdict refl)
    ∙ run_on L names f1 (0 + 1) P (lines rest) (Paired s.left s.right) (pair_on L names f1.at (0 + 1 + 1) s.left s.right refl (omega arith) l r)
    ∙ records_run rules states names s rows items (0 + 1 + 1) z c.1 c.2 s.verdict b.2
