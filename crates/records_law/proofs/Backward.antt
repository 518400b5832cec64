-- A line that is accepted is, byte for byte, the line of what it says.
use Rattle.std.proofs.Common.{◌≡◌, ℕ, Bool, true, false, cond, ◌&&◌, eqb, ltb, ◌⊎◌, List, [], ◌∷◌, ◌++◌, map, Some, None, Ok, Err, codes, decimal, Option, Result, sym, refl, ap, ◌∙◌, inl, inr, arith}
use Rattle.std.specs.Str.{bytes_eq}
use Rattle.std.proofs.lemmas.Nat.{pow_pos}
use Rattle.std.proofs.lemmas.Slice.Eq.{bytes_eq-Decides}
use Rattle.std.proofs.lemmas.Bool.{eqb-true}
use Rattle.model.specs.declared.names.Name.{Name}
use Rattle.model.specs.declared.rows.Row.{Row}
use Rattle.model.specs.declared.rows.Item.{Item}
use Rattle.text.specs.declared.fault.LineFault.TheVariants.{Form}
use Rattle.text.specs.Pieces.{before, after, fields}
use Rattle.text.specs.Fields.{View, key, number, value_in}
use Rattle.text.specs.Cursors.{taken, others, ended, parts_at}
use Rattle.model.specs.declared.verdict.Verdict.{Verdict}
use Rattle.model.specs.declared.verdict.Verdict.TheVariants.{Included, Excluded}
use Rattle.records.specs.declared.sheet.Stage.TheVariants.{Rows, Items, Ended}
use Rattle.records.specs.declared.sheet.Progress.{Progress}
use Rattle.records.specs.declared.sheet.Limits.{Limits}
use Rattle.records.specs.declared.sheet.Step.{Step}
use Rattle.records.specs.declared.sheet.Step.TheVariants.{Opened, Paired, Row as a_row, Item as an_item, Ended as the_end}
use Rattle.records.specs.Chains.{then, of_line}
use Rattle.records.specs.Places.{item_fits}
use Rattle.records.specs.Lines.{worded, verdict_in, sheet_line, pair_line, roomy, all_numbers, right_states, row_line, item_line, end_line, at_stage, judged}
use Rattle.records.proofs.Chained.{then_ok, line_ok, cond_ok}
use Rattle.writing.specs.Texts.{members, verdict_text}
use Rattle.records_law.proofs.Numbers.{value_back}
use Rattle.records_law.proofs.Pieced.{joined, fields_back, after_back}
use Rattle.records_law.proofs.Bits.{right_back}
use Rattle.records_law.proofs.Forward.{line_bytes, row_bytes, item_bytes}

-- a line with a key and fields
pub record OpenedLine (L : Limits) (names : List Name) (p : Progress) (n : ℕ) (bs : List ℕ) (s : Step) : Type 0 where
  pub word : List ℕ
  pub parts : List (List ℕ)
  pub bytes : bs ≡ word ++ 61 ∷ joined parts
  pub says : at_stage L names p n (key n word) parts p.stage ≡ Ok s

pub opened : (L : Limits) (names : List Name) (p : Progress) (n : ℕ) (bs : List ℕ) (s : Step) → judged L names p n bs ≡ Ok s → OpenedLine L names p n bs s
opened L names p n bs s e = go (after 61 bs) refl e
  where
    go : (o : Option (List ℕ)) → after 61 bs ≡ o → then (of_line (parts_at n (before 61 bs) o)) (λ kf. at_stage L names p n kf.0 kf.1 p.stage) ≡ Ok s → OpenedLine L names p n bs s
    go None a k = absurd cc
    go (Some r) a k =
        record {
          word = before 61 bs;
          parts = fields r;
          bytes = after_back 61 bs r a ∙ ap (λ t. before 61 bs ++ 61 ∷ t) (sym (fields_back r));
          says = k;
        }

-- a word that is as it should be
pub word_back : (n : ℕ) (w k : List ℕ) (x : Unit {0}) → of_line (worded w (key n k)) ≡ Ok x → k ≡ w
word_back n w k x e = (bytes_eq-Decides k w).0 (cond_ok (bytes_eq k w) tt x (Form n) (line_ok _ x e)).0

-- a field that is there, and none that is left
pub taken_back : (K : ℕ → List ℕ → View) (n : ℕ) (ps : List (List ℕ)) (f : View) → of_line (taken K n ps) ≡ Ok f → (p : List ℕ) × (ps ≡ p ∷ others ps) × (f ≡ K n p)
taken_back K n [] f e = absurd cc
taken_back K n (p ∷ ps) f e = (p, refl, cc)

pub ended_back : (n : ℕ) (ps : List (List ℕ)) (x : Unit {0}) → of_line (ended n ps) ≡ Ok x → ps ≡ []
ended_back n [] x e = refl
ended_back n (p ∷ ps) x e = absurd cc

-- a number that is there
pub number_field : (n : ℕ) (ps : List (List ℕ)) (f : View) (a : ℕ) → of_line (taken number n ps) ≡ Ok f → of_line (value_in f) ≡ Ok a → ps ≡ decimal a ∷ others ps
number_field n ps f a e v =
    let t = taken_back number n ps f e in
    t.1 ∙ ap (λ p. p ∷ others ps) (value_back n a t.0 (line_ok _ a (ap (λ g. of_line (value_in g)) (sym t.2) ∙ v)))

same_ok : {X E : Type 0} {x y : X} → ◌≡◌ {A = Result X E} (Ok x) (Ok y) → x ≡ y
same_ok h = cc

-- the verdict that is named
verdict_back : (n : ℕ) (p : List ℕ) (v : Verdict) → verdict_in (key n p) ≡ Ok v → p ≡ verdict_text v
verdict_back n p v e = go (bytes_eq p (codes "included")) refl (bytes_eq p (codes "excluded")) refl e
  where
    go : (a : Bool) → bytes_eq p (codes "included") ≡ a → (b : Bool) → bytes_eq p (codes "excluded") ≡ b →
        cond a (Ok Included) (cond b (Ok Excluded) (Err (Form n))) ≡ Ok v → p ≡ verdict_text v
    go true ea b eb k = (bytes_eq-Decides p (codes "included")).0 ea ∙ ap verdict_text (same_ok k)
    go false ea true eb k = (bytes_eq-Decides p (codes "excluded")).0 eb ∙ ap verdict_text (same_ok k)
    go false ea false eb k = absurd cc

-- the first line of a sheet
pub sheet_back : (n : ℕ) (k : List ℕ) (ps : List (List ℕ)) (s : Step) → sheet_line n (key n k) ps ≡ Ok s →
    (v : Verdict) × (s ≡ Opened v) × (k ++ 61 ∷ joined ps ≡ line_bytes (codes "sheet") (verdict_text v) [])
sheet_back n k ps s e =
    let a = then_ok (of_line (worded (codes "sheet") (key n k))) _ s e in
    let b = then_ok (of_line (taken key n ps)) _ s a.2 in
    let c = then_ok (of_line (ended n (others ps))) _ s b.2 in
    let d = then_ok (of_line (verdict_in b.0)) _ s c.2 in
    let t = taken_back key n ps b.0 b.1 in
    let v = d.0 in
    let word : t.0 ≡ verdict_text v = verdict_back n t.0 v (line_ok _ v (ap (λ f. of_line (verdict_in f)) (sym t.2) ∙ d.1)) in
    let all : ps ≡ verdict_text v ∷ [] = t.1 ∙ ap (λ l. t.0 ∷ l) (ended_back n (others ps) c.0 c.1) ∙ ap (λ p. p ∷ []) word in
    (v, sym (same_ok d.2), ap (λ w. w ++ 61 ∷ joined ps) (word_back n (codes "sheet") k a.0 a.1) ∙ ap (λ l. codes "sheet" ++ 61 ∷ joined l) all)

-- the pair
pub pair_back : (rules n : ℕ) (k : List ℕ) (ps : List (List ℕ)) (s : Step) → pair_line rules n (key n k) ps ≡ Ok s →
    (a : ℕ) × (b : ℕ) × (s ≡ Paired a b) × (k ++ 61 ∷ joined ps ≡ line_bytes (codes "pair") (decimal a) (decimal b ∷ []))
pair_back rules n k ps s e =
    let a = then_ok (of_line (worded (codes "pair") (key n k))) _ s e in
    let b = then_ok (of_line (taken number n ps)) _ s a.2 in
    let c = then_ok (of_line (taken number n (others ps))) _ s b.2 in
    let d = then_ok (of_line (ended n (others (others ps)))) _ s c.2 in
    let x = then_ok (of_line (value_in b.0)) _ s d.2 in
    let y = then_ok (of_line (value_in c.0)) _ s x.2 in
    let z = cond_ok (ltb x.0 rules && ltb y.0 rules) (Paired x.0 y.0) s _ y.2 in
    let all : ps ≡ decimal x.0 ∷ decimal y.0 ∷ [] =
    number_field n ps b.0 x.0 b.1 x.1
    ∙ ap (λ l. decimal x.0 ∷ l) (number_field n (others ps) c.0 y.0 c.1 y.1 ∙ ap (λ l. decimal y.0 ∷ l) (ended_back n (others (others ps)) d.0 d.1)) in
    (x.0, y.0, sym z.1, ap (λ w. w ++ 61 ∷ joined ps) (word_back n (codes "pair") k a.0 a.1) ∙ ap (λ l. codes "pair" ++ 61 ∷ joined l) all)

-- the end
pub end_back : (count n : ℕ) (k : List ℕ) (ps : List (List ℕ)) (s : Step) → end_line count n (key n k) ps ≡ Ok s →
    (s ≡ the_end) × (k ++ 61 ∷ joined ps ≡ line_bytes (codes "end") (decimal count) [])
end_back count n k ps s e =
    let a = then_ok (of_line (worded (codes "end") (key n k))) _ s e in
    let b = then_ok (of_line (taken number n ps)) _ s a.2 in
    let c = then_ok (of_line (ended n (others ps))) _ s b.2 in
    let x = then_ok (of_line (value_in b.0)) _ s c.2 in
    let z = cond_ok (eqb x.0 count) the_end s _ x.2 in
    let all : ps ≡ decimal count ∷ [] =
    number_field n ps b.0 x.0 b.1 x.1 ∙ ap (λ l. decimal x.0 ∷ l) (ended_back n (others ps) c.0 c.1) ∙ ap (λ m. decimal m ∷ []) (eqb-true x.0 count z.0) in
    (sym z.1, ap (λ w. w ++ 61 ∷ joined ps) (word_back n (codes "end") k a.0 a.1) ∙ ap (λ l. codes "end" ++ 61 ∷ joined l) all)

-- a row
pub row_back : (L : Limits) (count n : ℕ) (k : List ℕ) (ps : List (List ℕ)) (s : Step) → k ≡ codes "row" → row_line L count n (key n k) ps ≡ Ok s →
    (r : Row) × (s ≡ a_row r) × (k ++ 61 ∷ joined ps ≡ row_bytes r)
row_back L count n k ps s word e =
    let a = then_ok (roomy n count L.room) _ s e in
    let b = then_ok (of_line (all_numbers n ps)) _ s a.2 in
    let c = then_ok (of_line (taken number n ps)) _ s b.2 in
    let x = then_ok (of_line (value_in c.0)) _ s c.2 in
    let y = then_ok (right_states n L.states 0 0 (others ps)) _ s x.2 in
    let z = cond_ok (ltb x.0 L.states) (a_row (record { left = x.0; right = y.0 })) s _ y.2 in
    let r : Row = record { left = x.0; right = y.0 } in
    let all : ps ≡ decimal x.0 ∷ map decimal (members 128 0 y.0.bits) =
    number_field n ps c.0 x.0 c.1 x.1 ∙ ap (λ l. decimal x.0 ∷ l) (right_back n L.states 0 0 (others ps) y.0 (omega (arith, pow_pos 0)) (omega arith) y.1) in
    (r, sym z.1, ap (λ w. w ++ 61 ∷ joined ps) word ∙ ap (λ l. codes "row" ++ 61 ∷ joined l) all)

-- an item
pub item_back : (names : List Name) (room count n : ℕ) (k : List ℕ) (ps : List (List ℕ)) (s : Step) → k ≡ codes "item" → item_line names room count n (key n k) ps ≡ Ok s →
    (i : Item) × (s ≡ an_item i) × (k ++ 61 ∷ joined ps ≡ item_bytes i)
item_back names room count n k ps s word e =
    let a = then_ok (of_line (taken number n ps)) _ s e in
    let b = then_ok (of_line (taken number n (others ps))) _ s a.2 in
    let c = then_ok (of_line (taken number n (others (others ps)))) _ s b.2 in
    let d = then_ok (of_line (ended n (others (others (others ps))))) _ s c.2 in
    let m = then_ok (roomy n count room) _ s d.2 in
    let x = then_ok (of_line (value_in a.0)) _ s m.2 in
    let y = then_ok (of_line (value_in b.0)) _ s x.2 in
    let w = then_ok (of_line (value_in c.0)) _ s y.2 in
    let i : Item = record { name = x.0; child = y.0; next = w.0 } in
    let z = cond_ok (item_fits names count i) (an_item i) s _ w.2 in
    let all : ps ≡ decimal x.0 ∷ decimal y.0 ∷ decimal w.0 ∷ [] =
    number_field n ps a.0 x.0 a.1 x.1
    ∙ ap (λ l. decimal x.0 ∷ l) (number_field n (others ps) b.0 y.0 b.1 y.1
    ∙ ap (λ l. decimal y.0 ∷ l) (number_field n (others (others ps)) c.0 w.0 c.1 w.1
    ∙ ap (λ l. decimal w.0 ∷ l) (ended_back n (others (others (others ps))) d.0 d.1))) in
    (i, sym z.1, ap (λ q. q ++ 61 ∷ joined ps) word ∙ ap (λ l. codes "item" ++ 61 ∷ joined l) all)

-- a row or the end
pub rows_line : (L : Limits) (names : List Name) (p : Progress) (n : ℕ) (bs : List ℕ) (s : Step) → p.stage ≡ Rows → judged L names p n bs ≡ Ok s →
    ((r : Row) × (s ≡ a_row r) × (bs ≡ row_bytes r)) ⊎ ((s ≡ the_end) × (bs ≡ line_bytes (codes "end") (decimal p.count) []))
rows_line L names p n bs s e h =
    let o = opened L names p n bs s h in
    go o.word o.parts o.bytes (bytes_eq o.word (codes "row")) refl (ap (at_stage L names p n (key n o.word) o.parts) (sym e) ∙ o.says)
  where
    go : (k : List ℕ) (ps : List (List ℕ)) → bs ≡ k ++ 61 ∷ joined ps → (b : Bool) → bytes_eq k (codes "row") ≡ b →
        cond b (row_line L p.count n (key n k) ps) (end_line p.count n (key n k) ps) ≡ Ok s →
        ((r : Row) × (s ≡ a_row r) × (bs ≡ row_bytes r)) ⊎ ((s ≡ the_end) × (bs ≡ line_bytes (codes "end") (decimal p.count) []))
    go k ps is true w x = let t = row_back L p.count n k ps s ((bytes_eq-Decides k (codes "row")).0 w) x in inl (t.0, t.1, is ∙ t.2)
    go k ps is false w x = let t = end_back p.count n k ps s x in inr (t.0, is ∙ t.1)

-- an item or the end
pub items_line : (L : Limits) (names : List Name) (p : Progress) (n : ℕ) (bs : List ℕ) (s : Step) → p.stage ≡ Items → judged L names p n bs ≡ Ok s →
    ((i : Item) × (s ≡ an_item i) × (bs ≡ item_bytes i)) ⊎ ((s ≡ the_end) × (bs ≡ line_bytes (codes "end") (decimal p.count) []))
items_line L names p n bs s e h =
    let o = opened L names p n bs s h in
    go o.word o.parts o.bytes (bytes_eq o.word (codes "item")) refl (ap (at_stage L names p n (key n o.word) o.parts) (sym e) ∙ o.says)
  where
    go : (k : List ℕ) (ps : List (List ℕ)) → bs ≡ k ++ 61 ∷ joined ps → (b : Bool) → bytes_eq k (codes "item") ≡ b →
        cond b (item_line names L.room p.count n (key n k) ps) (end_line p.count n (key n k) ps) ≡ Ok s →
        ((i : Item) × (s ≡ an_item i) × (bs ≡ item_bytes i)) ⊎ ((s ≡ the_end) × (bs ≡ line_bytes (codes "end") (decimal p.count) []))
    go k ps is true w x = let t = item_back names L.room p.count n k ps s ((bytes_eq-Decides k (codes "item")).0 w) x in inl (t.0, t.1, is ∙ t.2)
    go k ps is false w x = let t = end_back p.count n k ps s x in inr (t.0, is ∙ t.1)

-- nothing follows the end
pub no_line : (L : Limits) (names : List Name) (p : Progress) (n : ℕ) (bs : List ℕ) (s : Step) → p.stage ≡ Ended → judged L names p n bs ≡ Ok s → ⊥
no_line L names p n bs s e h =
    let o = opened L names p n bs s h in
    let k : at_stage L names p n (key n o.word) o.parts Ended ≡ Ok s = ap (at_stage L names p n (key n o.word) o.parts) (sym e) ∙ o.says in
    absurd cc
