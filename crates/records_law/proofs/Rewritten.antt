-- What is accepted was written so.
use Rattle.std.proofs.Common.{◌≡◌, ℕ, ◌+◌, Bool, true, false, cond, not, ◌||◌, eqb, ltb, ◌⊎◌, List, [], ◌∷◌, ◌++◌, length, take, Ok, Err, codes, decimal, Result, sym, refl, ap, ◌∙◌, inl, inr, arith}
use Rattle.std.proofs.lemmas.List.{append_assoc, append-nil, take_all}
use Rattle.std.proofs.lemmas.Bool.{or_parts, not-false, eqb-true}
use Rattle.model.specs.declared.names.Name.{Name}
use Rattle.model.specs.declared.rows.Row.{Row}
use Rattle.model.specs.declared.rows.Item.{Item}
use Rattle.text.specs.Pieces.{lines, last_byte, whole_text}
use Rattle.model.specs.declared.verdict.Verdict.{Verdict}
use Rattle.model.specs.declared.verdict.Verdict.TheVariants.{Included, Excluded}
use Rattle.records.specs.declared.sheet.Stage.{Stage}
use Rattle.records.specs.declared.sheet.Stage.TheVariants.{Sheet, Hedge, Pair, Rows, Items, Ended}
use Rattle.records.specs.declared.sheet.Limits.{Limits}
use Rattle.records.specs.declared.sheet.Step.{Step}
use Rattle.records.specs.declared.sheet.Step.TheVariants.{Opened, Row as a_row, Item as an_item, Ended as the_end}
use Rattle.records.specs.Chains.{then, of_line}
use Rattle.records.specs.Lines.{judged}
use Rattle.records.specs.Reading.{Found, records_of, entered, finished, run, begun, counted, limit, sheet_of}
use Rattle.records.proofs.Chained.{then_ok, line_ok}
use Rattle.writing.specs.Texts.{line_text, row_text, item_text, all_texts, verdict_text, verdict_line, pair_text, end_text, records_text, sheet_text}
use Rattle.records_law.specs.Laws.{IsWritten}
use Rattle.records_law.proofs.Pieced.{unlined, ends_from, lines_back}
use Rattle.records_law.proofs.Forward.{line_bytes, line_ends, row_bytes, item_bytes}
use Rattle.records_law.proofs.Readback.{ended}
use Rattle.records_law.proofs.Backward.{opened, sheet_back, pair_back, rows_line, items_line, no_line}

same_ok : {X E : Type 0} {x y : X} → ◌≡◌ {A = Result X E} (Ok x) (Ok y) → x ≡ y
same_ok h = cc

no_ok : {X E : Type 0} {e : E} {y : X} → ◌≡◌ {A = Result X E} (Err e) (Ok y) → ⊥
no_ok h = absurd cc

-- a text may end only at its end
ends_here : (n : ℕ) (f g : Found) (s : Stage) → finished n f s ≡ Ok g → (s ≡ Ended) × (g ≡ f)
ends_here n f g Sheet e = absurd (no_ok e)
ends_here n f g Hedge e = absurd (no_ok e)
ends_here n f g Pair e = absurd (no_ok e)
ends_here n f g Rows e = absurd (no_ok e)
ends_here n f g Items e = absurd (no_ok e)
ends_here n f g Ended e = (refl, sym (same_ok e))

-- after the end line there is no line
after_end : (L : Limits) (names : List Name) (ls : List (List ℕ)) (f : Found) (n : ℕ) (g : Found) → f.at.stage ≡ Ended → run L names f n ls ≡ Ok g → (ls ≡ []) × (g ≡ f)
after_end L names [] f n g e h = (refl, (ends_here (n + 1) f g f.at.stage h).1)
after_end L names (l ∷ ls) f n g e h = let a = then_ok (judged L names f.at (n + 1) l) _ g h in absurd (no_line L names f.at (n + 1) l a.0 e a.1)

-- some line is left
stage_apart : (v : Verdict) → records_of v ≡ Ended → ⊥
stage_apart Included h = absurd cc
stage_apart Excluded h = absurd cc

-- a line and the lines after it
with_line : (k p : List ℕ) (ps : List (List ℕ)) (l : List ℕ) (ls : List (List ℕ)) (rest : List ℕ) → l ≡ line_bytes k p ps → unlined ls ≡ rest → unlined (l ∷ ls) ≡ line_text k p ps ++ rest
with_line k p ps l ls rest is more = ap (λ b. b ++ 10 ∷ unlined ls) is ∙ ap (λ r. line_bytes k p ps ++ 10 ∷ r) more ∙ sym (line_ends k p ps rest)

-- the rows that are left of an included sheet
pub record RowsLeft (f g : Found) (ls : List (List ℕ)) : Type 0 where
  pub rows : List Row
  pub count : ℕ
  pub counted : count ≡ f.at.count + length rows
  pub is : g ≡ ended f.at count (f.rows ++ rows) f.items
  pub bytes : unlined ls ≡ all_texts row_text rows ++ end_text count

pub rows_back : (L : Limits) (names : List Name) (ls : List (List ℕ)) (f : Found) (n : ℕ) (g : Found) → f.at.stage ≡ Rows → run L names f n ls ≡ Ok g → RowsLeft f g ls
rows_back L names [] f n g e h = absurd (stage_apart Included (sym e ∙ (ends_here (n + 1) f g f.at.stage h).0))
rows_back L names (l ∷ ls) f n g e h =
    let a = then_ok (judged L names f.at (n + 1) l) (λ s. run L names (entered f s) (n + 1) ls) g h in
    go a.0 (rows_line L names f.at (n + 1) l a.0 e a.1) a.2 (λ r k. rows_back L names ls (entered f (a_row r)) (n + 1) g e k)
  where
    go : (s : Step) → ((r : Row) × (s ≡ a_row r) × (l ≡ row_bytes r)) ⊎ ((s ≡ the_end) × (l ≡ line_bytes (codes "end") (decimal f.at.count) [])) →
        run L names (entered f s) (n + 1) ls ≡ Ok g →
        ((r : Row) → run L names (entered f (a_row r)) (n + 1) ls ≡ Ok g → RowsLeft (entered f (a_row r)) g ls) → RowsLeft f g (l ∷ ls)
    go s (inl (r, is, line)) k rec =
        let t = rec r (ap (λ x. run L names (entered f x) (n + 1) ls) (sym is) ∙ k) in
        record {
          rows = r ∷ t.rows;
          count = t.count;
          counted = omega (arith, t.counted);
          is = t.is ∙ ap (λ xs. ended f.at t.count xs f.items) (append_assoc f.rows (r ∷ []) t.rows);
          bytes = with_line (codes "row") (decimal r.left) _ l ls (all_texts row_text t.rows ++ end_text t.count) line t.bytes ∙ sym (append_assoc (row_text r) (all_texts row_text t.rows) (end_text t.count));
        }
    go s (inr (is, line)) k rec =
        let t = after_end L names ls (entered f the_end) (n + 1) g refl (ap (λ x. run L names (entered f x) (n + 1) ls) (sym is) ∙ k) in
        record {
          rows = [];
          count = f.at.count;
          counted = omega arith;
          is = t.1 ∙ ap (λ xs. ended f.at f.at.count xs f.items) (sym (append-nil f.rows));
          bytes = with_line (codes "end") (decimal f.at.count) [] l ls [] line (ap unlined t.0) ∙ append-nil (end_text f.at.count);
        }

-- the items that are left of an excluded one
pub record ItemsLeft (f g : Found) (ls : List (List ℕ)) : Type 0 where
  pub items : List Item
  pub count : ℕ
  pub counted : count ≡ f.at.count + length items
  pub is : g ≡ ended f.at count f.rows (f.items ++ items)
  pub bytes : unlined ls ≡ all_texts item_text items ++ end_text count

pub items_back : (L : Limits) (names : List Name) (ls : List (List ℕ)) (f : Found) (n : ℕ) (g : Found) → f.at.stage ≡ Items → run L names f n ls ≡ Ok g → ItemsLeft f g ls
items_back L names [] f n g e h = absurd (stage_apart Excluded (sym e ∙ (ends_here (n + 1) f g f.at.stage h).0))
items_back L names (l ∷ ls) f n g e h =
    let a = then_ok (judged L names f.at (n + 1) l) (λ s. run L names (entered f s) (n + 1) ls) g h in
    go a.0 (items_line L names f.at (n + 1) l a.0 e a.1) a.2 (λ i k. items_back L names ls (entered f (an_item i)) (n + 1) g e k)
  where
    go : (s : Step) → ((i : Item) × (s ≡ an_item i) × (l ≡ item_bytes i)) ⊎ ((s ≡ the_end) × (l ≡ line_bytes (codes "end") (decimal f.at.count) [])) →
        run L names (entered f s) (n + 1) ls ≡ Ok g →
        ((i : Item) → run L names (entered f (an_item i)) (n + 1) ls ≡ Ok g → ItemsLeft (entered f (an_item i)) g ls) → ItemsLeft f g (l ∷ ls)
    go s (inl (i, is, line)) k rec =
        let t = rec i (ap (λ x. run L names (entered f x) (n + 1) ls) (sym is) ∙ k) in
        record {
          items = i ∷ t.items;
          count = t.count;
          counted = omega (arith, t.counted);
          is = t.is ∙ ap (λ xs. ended f.at t.count f.rows xs) (append_assoc f.items (i ∷ []) t.items);
          bytes = with_line (codes "item") (decimal i.name) (decimal i.child ∷ decimal i.next ∷ []) l ls (all_texts item_text t.items ++ end_text t.count) line t.bytes ∙ sym (append_assoc (item_text i) (all_texts item_text t.items) (end_text t.count));
        }
    go s (inr (is, line)) k rec =
        let t = after_end L names ls (entered f the_end) (n + 1) g refl (ap (λ x. run L names (entered f x) (n + 1) ls) (sym is) ∙ k) in
        record {
          items = [];
          count = f.at.count;
          counted = omega arith;
          is = t.1 ∙ ap (λ xs. ended f.at f.at.count f.rows xs) (sym (append-nil f.items));
          bytes = with_line (codes "end") (decimal f.at.count) [] l ls [] line (ap unlined t.0) ∙ append-nil (end_text f.at.count);
        }

-- what stands after the pair, by the verdict
records_back : (L : Limits) (names : List Name) (ls : List (List ℕ)) (v : Verdict) (a b n : ℕ) (g : Found) →
    run L names (record { at = record { stage = records_of v; verdict = v; left = a; right = b; count = 0 }; rows = []; items = [] }) n ls ≡ Ok g →
    (g.at.verdict ≡ v) × (g.at.left ≡ a) × (g.at.right ≡ b) × (unlined ls ≡ records_text v g.at.count g.rows g.items ++ end_text g.at.count)
records_back L names ls Included a b n g h =
    let f : Found = record { at = record { stage = Rows; verdict = Included; left = a; right = b; count = 0 }; rows = []; items = [] } in
    let t = rows_back L names ls f n g refl h in
    let whole : take t.count t.rows ≡ t.rows = take_all t.count t.rows (omega (arith, t.counted)) in (
      ap (λ x. x.at.verdict) t.is,
      ap (λ x. x.at.left) t.is,
      ap (λ x. x.at.right) t.is,
      t.bytes ∙ ap (λ xs. all_texts row_text xs ++ end_text t.count) (sym whole)
          ∙ ap (λ x. records_text Included x.at.count x.rows x.items ++ end_text x.at.count) (sym t.is),
    )
records_back L names ls Excluded a b n g h =
    let f : Found = record { at = record { stage = Items; verdict = Excluded; left = a; right = b; count = 0 }; rows = []; items = [] } in
    let t = items_back L names ls f n g refl h in
    let whole : take t.count t.items ≡ t.items = take_all t.count t.items (omega (arith, t.counted)) in (
      ap (λ x. x.at.verdict) t.is,
      ap (λ x. x.at.left) t.is,
      ap (λ x. x.at.right) t.is,
      t.bytes ∙ ap (λ xs. all_texts item_text xs ++ end_text t.count) (sym whole)
          ∙ ap (λ x. records_text Excluded x.at.count x.rows x.items ++ end_text x.at.count) (sym t.is),
    )

-- the lines of a sheet
lines_written : (L : Limits) (names : List Name) (ls : List (List ℕ)) (g : Found) → run L names (begun Sheet) 0 ls ≡ Ok g → unlined ls ≡ sheet_text (sheet_of g.at) g.rows g.items
lines_written L names [] g h = absurd (no_ok h)
lines_written L names (l1 ∷ []) g h =
    let a = then_ok (judged L names (begun Sheet).at (0 + 1) l1) (λ s. run L names (entered (begun Sheet) s) (0 + 1) []) g h in
    let o = opened L names (begun Sheet).at (0 + 1) l1 a.0 a.1 in
    let s = sheet_back (0 + 1) o.word o.parts a.0 o.says in
    absurd (no_ok (ap (λ x. run L names (entered (begun Sheet) x) (0 + 1) []) (sym s.1) ∙ a.2))
lines_written L names (l1 ∷ l2 ∷ ls) g h =
    let a = then_ok (judged L names (begun Sheet).at (0 + 1) l1) (λ s. run L names (entered (begun Sheet) s) (0 + 1) (l2 ∷ ls)) g h in
    let o = opened L names (begun Sheet).at (0 + 1) l1 a.0 a.1 in
    let s = sheet_back (0 + 1) o.word o.parts a.0 o.says in
    let v = s.0 in
    let f : Found = entered (begun Sheet) (Opened v) in
    let next : run L names f (0 + 1) (l2 ∷ ls) ≡ Ok g = ap (λ x. run L names (entered (begun Sheet) x) (0 + 1) (l2 ∷ ls)) (sym s.1) ∙ a.2 in
    let b = then_ok (judged L names f.at (0 + 1 + 1) l2) (λ s. run L names (entered f s) (0 + 1 + 1) ls) g next in
    let q = opened L names f.at (0 + 1 + 1) l2 b.0 b.1 in
    let p = pair_back L.rules (0 + 1 + 1) q.word q.parts b.0 q.says in
    let x = p.0 in
    let y = p.1 in
    let r = records_back L names ls v x y (0 + 1 + 1) g (ap (λ t. run L names (entered f t) (0 + 1 + 1) ls) (sym p.2) ∙ b.2) in
    let V : verdict_text v ≡ verdict_text g.at.verdict = ap verdict_text (sym r.0) in
    let rest = records_text v g.at.count g.rows g.items ++ end_text g.at.count in
    with_line (codes "sheet") (verdict_text v) [] l1 (l2 ∷ ls) (pair_text x y ++ rest) (o.bytes ∙ s.2)
    (with_line (codes "pair") (decimal x) (decimal y ∷ []) l2 ls rest (q.bytes ∙ p.3) r.3)
    ∙ ap (λ w. verdict_line w ++ (pair_text x y ++ (records_text w g.at.count g.rows g.items ++ end_text g.at.count))) (sym r.0)
    ∙ ap (λ w. verdict_line g.at.verdict ++ (pair_text w y ++ (records_text g.at.verdict g.at.count g.rows g.items ++ end_text g.at.count))) (sym r.1)
    ∙ ap (λ w. verdict_line g.at.verdict ++ (pair_text g.at.left w ++ (records_text g.at.verdict g.at.count g.rows g.items ++ end_text g.at.count))) (sym r.2)

-- a text that is read ends in LF
whole_ends : (bs : List ℕ) (x : Unit {0}) → whole_text limit bs ≡ Ok x → last_byte bs ≡ 10
whole_ends bs x e = go (eqb (length bs) 0 || ltb limit (length bs) || not (eqb (last_byte bs) 10)) refl e
  where
    go : (b : Bool) → (eqb (length bs) 0 || ltb limit (length bs) || not (eqb (last_byte bs) 10)) ≡ b → cond b (Err (Rattle.text.specs.declared.fault.LineFault.TheVariants.Form 1)) (Ok tt) ≡ Ok x → last_byte bs ≡ 10
    go true h k = absurd (no_ok k)
    go false h k = eqb-true (last_byte bs) 10 (not-false _ (or_parts _ (not (eqb (last_byte bs) 10)) h).1)

-- what is accepted was written so
pub is_written : IsWritten
is_written rules states names m n bs f e =
    let L : Limits = record { rules = rules; states = states; room = m } in
    let a = then_ok (counted m n) (λ _. then (of_line (whole_text limit bs)) λ _. run L names (begun Sheet) 0 (lines bs)) f e in
    let b = then_ok (of_line (whole_text limit bs)) (λ _. run L names (begun Sheet) 0 (lines bs)) f a.2 in
    sym (lines_back bs (ends_from bs (whole_ends bs b.0 (line_ok _ b.0 b.1)))) ∙ lines_written L names (lines bs) f b.2
