-- The lines of a sheet that is written are judged to be what they were written of.
use Rattle.std.proofs.Common.{◌≡◌, ℕ, zero, suc, ◌+◌, ◌/◌, ◌%◌, ◌^◌, ◌<◌, ◌≤◌, min, Bool, true, false, cond, not, ◌&&◌, eqb, ltb, leb, List, [], ◌∷◌, ◌++◌, map, length, Some, Ok, Err, codes, decimal, Result, sym, refl, ap, ◌∙◌, subst, ⊎_elim, mod-eq_of_lt, arith}
use Rattle.std.specs.List.{list_all}
use Rattle.std.proofs.lemmas.Nat.{pow_pos, le-div, mod_below}
use Rattle.std.proofs.lemmas.Fmt.{digits_decimal}
use Rattle.std.proofs.lemmas.List.{append_assoc}
use Rattle.std.proofs.lemmas.Bool.{and_parts, and_from, ltb-true, lt-ltb, leb-true, eqb-true, eq-eqb, ne_eqb, cond-true, not-true, cases_lt}
use Rattle.model.specs.declared.names.Name.{Name}
use Rattle.model.specs.declared.rows.Row.{Row}
use Rattle.model.specs.declared.rows.Item.{Item}
use Rattle.model.specs.declared.sets.StateSet.{StateSet}
use Rattle.model.specs.Sets.{has}
use Rattle.text.specs.Forms.{digit}
use Rattle.text.specs.Pieces.{after, lines}
use Rattle.text.specs.Fields.{key, number, value_in}
use Rattle.text.specs.Cursors.{parts_at, line_parts}
use Rattle.records.specs.declared.fault.CallFault.{CallFault}
use Rattle.records.specs.declared.fault.CallFault.TheVariants.{Rule}
use Rattle.model.specs.declared.verdict.Verdict.{Verdict}
use Rattle.model.specs.declared.verdict.Verdict.TheVariants.{Included, Excluded}
use Rattle.records.specs.declared.sheet.Stage.{Stage}
use Rattle.records.specs.declared.sheet.Stage.TheVariants.{Sheet, Pair, Rows, Items}
use Rattle.records.specs.declared.sheet.Progress.{Progress}
use Rattle.records.specs.declared.sheet.Limits.{Limits}
use Rattle.records.specs.declared.sheet.Step.{Step}
use Rattle.records.specs.declared.sheet.Step.TheVariants.{Opened, Paired, Row as a_row, Item as an_item, Ended as the_end}
use Rattle.records.specs.Chains.{then, of_line, misplaced, roomless}
use Rattle.records.specs.Places.{item_fits}
use Rattle.records.specs.Lines.{all_numbers, right_states, end_line, at_stage, judged}
use Rattle.records.specs.Reading.{records_of}
use Rattle.records.proofs.Kept.{has_below, pow_up}
use Rattle.writing.proofs.Spelled.{members_suc, members_zero}
use Rattle.records.proofs.Sound.{item_sound}
use Rattle.writing.specs.Texts.{further, line_text, members, verdict_text}
use Rattle.writing.specs.Checks.{row_fits}
use Rattle.records_law.proofs.Numbers.{own, value_on}
use Rattle.records_law.proofs.Pieced.{Lacks, lacks_append, AllLack, fields_on, before_on, lines_on}
use Rattle.records_law.proofs.Bits.{right_on, numbers_on}

-- a list without the mark, by a test
abbrev pub lacks : ℕ → List ℕ → Bool
lacks m [] = true
lacks m (x ∷ xs) = not (eqb x m) && lacks m xs

pub lacks_from : (m : ℕ) (xs : List ℕ) → lacks m xs ≡ true → Lacks m xs
lacks_from m [] h = tt
lacks_from m (x ∷ xs) h = let p = and_parts (not (eqb x m)) (lacks m xs) h in (not-true (eqb x m) p.0, lacks_from m xs p.1)

-- digits are neither LF nor comma
pub lacks_digits : (m : ℕ) → m < 48 → (ds : List ℕ) → list_all digit ds ≡ true → Lacks m ds
lacks_digits m lt [] h = tt
lacks_digits m lt (d ∷ ds) h =
    let p = and_parts (leb 48 d && leb d 57) (list_all digit ds) h in
    let low : 48 ≤ d = leb-true 48 d (and_parts (leb 48 d) (leb d 57) p.0).0 in
    (ne_eqb d m (λ e. omega (arith, e)), lacks_digits m lt ds p.1)

pub lacks_decimal : (m n : ℕ) → m < 48 → n < 1000000000 → Lacks m (decimal n)
lacks_decimal m n lt h = lacks_digits m lt (decimal n) (digits_decimal own n (omega arith))

-- a line without its LF
abbrev pub line_bytes : List ℕ → List ℕ → List (List ℕ) → List ℕ
line_bytes k p ps = k ++ 61 ∷ (p ++ further ps)

pub line_ends : (k p : List ℕ) (ps : List (List ℕ)) (rest : List ℕ) → line_text k p ps ++ rest ≡ line_bytes k p ps ++ 10 ∷ rest
line_ends k p ps rest =
    append_assoc k (61 ∷ (p ++ (further ps ++ 10 ∷ []))) rest
    ∙ ap (λ t. k ++ 61 ∷ t) (append_assoc p (further ps ++ 10 ∷ []) rest ∙ ap (λ t. p ++ t) (append_assoc (further ps) (10 ∷ []) rest) ∙ sym (append_assoc p (further ps) (10 ∷ rest)))
    ∙ sym (append_assoc k (61 ∷ (p ++ further ps)) (10 ∷ rest))

-- all fields lack a byte
abbrev pub AllWithout : ℕ → List (List ℕ) → Type 0
AllWithout m [] = Unit {0}
AllWithout m (p ∷ ps) = Lacks m p × AllWithout m ps

lacks_further : (ps : List (List ℕ)) → AllWithout 10 ps → Lacks 10 (further ps)
lacks_further [] h = tt
lacks_further (p ∷ ps) h = (refl, lacks_append 10 p (further ps) h.0 (lacks_further ps h.1))

comma_lack : (ps : List (List ℕ)) → AllWithout 44 ps → AllLack ps
comma_lack [] h = tt
comma_lack (p ∷ ps) h = (h.0, comma_lack ps h.1)

-- a line of a text
pub lines_line : (k p : List ℕ) (ps : List (List ℕ)) (rest : List ℕ) → lacks 10 k ≡ true → Lacks 10 p → AllWithout 10 ps → lines (line_text k p ps ++ rest) ≡ line_bytes k p ps ∷ lines rest
lines_line k p ps rest hk hp hs =
    ap lines (line_ends k p ps rest)
    ∙ lines_on (line_bytes k p ps) rest (lacks_append 10 k (61 ∷ (p ++ further ps)) (lacks_from 10 k hk) (refl, lacks_append 10 p (further ps) hp (lacks_further ps hs)))

after_on : (m : ℕ) (xs rest : List ℕ) → Lacks m xs → after m (xs ++ m ∷ rest) ≡ Some rest
after_on m [] rest h = cond-true (eqb m m) _ _ (eq-eqb m m refl)
after_on m (x ∷ xs) rest h = ap (λ b. cond b (Some (xs ++ m ∷ rest)) (after m (xs ++ m ∷ rest))) h.0 ∙ after_on m xs rest h.1

-- a line's key and fields
pub parts_on : (n : ℕ) (k p : List ℕ) (ps : List (List ℕ)) → lacks 61 k ≡ true → Lacks 44 p → AllWithout 44 ps → line_parts n (line_bytes k p ps) ≡ Ok (key n k, p ∷ ps)
parts_on n k p ps hk hp hs =
    ap (λ b. parts_at n b (after 61 (line_bytes k p ps))) (before_on 61 k (p ++ further ps) (lacks_from 61 k hk))
    ∙ ap (parts_at n k) (after_on 61 k (p ++ further ps) (lacks_from 61 k hk))
    ∙ ap (λ l. Ok (key n k, l)) (fields_on p ps hp (comma_lack ps hs))

-- such a line at its stage
pub judged_on : (L : Limits) (names : List Name) (p : Progress) (s : Stage) (n : ℕ) (k f : List ℕ) (fs : List (List ℕ)) → p.stage ≡ s →
    lacks 61 k ≡ true → Lacks 44 f → AllWithout 44 fs → judged L names p n (line_bytes k f fs) ≡ at_stage L names p n (key n k) (f ∷ fs) s
judged_on L names p s n k f fs e hk hf hs =
    ap (λ r. then (of_line r) λ kf. at_stage L names p n kf.0 kf.1 p.stage) (parts_on n k f fs hk hf hs) ∙ ap (at_stage L names p n (key n k) (f ∷ fs)) e

-- the first line of a sheet
pub sheet_on : (L : Limits) (names : List Name) (p : Progress) (n : ℕ) (v : Verdict) → p.stage ≡ Sheet →
    judged L names p n (line_bytes (codes "sheet") (verdict_text v) []) ≡ Ok (Opened v)
sheet_on L names p n Included e = judged_on L names p Sheet n (codes "sheet") (codes "included") [] e refl (lacks_from 44 (codes "included") refl) tt
sheet_on L names p n Excluded e = judged_on L names p Sheet n (codes "sheet") (codes "excluded") [] e refl (lacks_from 44 (codes "excluded") refl) tt

-- the pair
pub pair_on : (L : Limits) (names : List Name) (p : Progress) (n a b : ℕ) → p.stage ≡ Pair → L.rules ≤ 1000000000 → a < L.rules → b < L.rules →
    judged L names p n (line_bytes (codes "pair") (decimal a) (decimal b ∷ [])) ≡ Ok (Paired a b)
pair_on L names p n a b e few ha hb =
    judged_on L names p Pair n (codes "pair") (decimal a) (decimal b ∷ []) e refl (lacks_decimal 44 a (omega arith) (omega arith)) (lacks_decimal 44 b (omega arith) (omega arith), tt)
    ∙ ap (λ r. then (of_line r) λ x. then (of_line (value_in (number n (decimal b)))) λ y. cond (ltb x L.rules && ltb y L.rules) (Ok (Paired x y)) (Err (Rule n))) (value_on n a (omega arith))
    ∙ ap (λ r. then (of_line r) λ y. cond (ltb a L.rules && ltb y L.rules) (Ok (Paired a y)) (Err (Rule n))) (value_on n b (omega arith))
    ∙ cond-true (ltb a L.rules && ltb b L.rules) _ _ (and_from _ _ (lt-ltb a L.rules ha) (lt-ltb b L.rules hb))

-- the end
pub end_line_on : (count n m : ℕ) → count ≡ m → m < 1000000000 → end_line count n (key n (codes "end")) (decimal m ∷ []) ≡ Ok the_end
end_line_on count n m is few =
    ap (λ r. then (of_line r) λ x. cond (eqb x count) (Ok the_end) (misplaced n)) (value_on n m few)
    ∙ cond-true (eqb m count) _ _ (eq-eqb m count (sym is))

pub end_on : (L : Limits) (names : List Name) (p : Progress) (n m : ℕ) (v : Verdict) → p.stage ≡ records_of v → p.count ≡ m → m < 1000000000 →
    judged L names p n (line_bytes (codes "end") (decimal m) []) ≡ Ok the_end
end_on L names p n m Included e is few =
    judged_on L names p Rows n (codes "end") (decimal m) [] e refl (lacks_decimal 44 m (omega arith) few) tt ∙ end_line_on p.count n m is few
end_on L names p n m Excluded e is few =
    judged_on L names p Items n (codes "end") (decimal m) [] e refl (lacks_decimal 44 m (omega arith) few) tt ∙ end_line_on p.count n m is few

-- the numbers of a row lack LF and comma
pub lacks_members : (c : ℕ) → c < 48 → (m q bits : ℕ) → q + m ≤ 128 → AllWithout c (map decimal (members m q bits))
lacks_members c lt zero q bits most = subst (λ l. AllWithout c (map decimal l)) (sym (members_zero q bits)) tt
lacks_members c lt (suc m) q bits most = subst (λ l. AllWithout c (map decimal l)) (sym (members_suc m q bits)) (go (has bits q) (lacks_members c lt m (q + 1) bits (omega arith)))
  where
    go : (b : Bool) → AllWithout c (map decimal (members m (q + 1) bits)) → AllWithout c (map decimal (cond b (q ∷ members m (q + 1) bits) (members m (q + 1) bits)))
    go true ih = (lacks_decimal c q lt (omega arith), ih)
    go false ih = ih

-- the bits of a row that fits
pub fit_bits : (states : ℕ) (r : Row) → row_fits states r ≡ true → r.right.bits < 2 ^ min states 128
fit_bits states r h =
    let z : r.right.bits / 2 ^ min states 128 ≡ 0 = eqb-true _ 0 (and_parts (ltb r.left states) _ h).1 in
    ⊎_elim (λ (l : r.right.bits < 2 ^ min states 128). l)
    (λ (l : 2 ^ min states 128 ≤ r.right.bits). absurd (omega (arith, le-div 1 r.right.bits (2 ^ min states 128) (pow_pos (min states 128)) (omega arith), z)))
    (cases_lt r.right.bits (2 ^ min states 128))

abbrev pub row_bytes : Row → List ℕ
row_bytes r = line_bytes (codes "row") (decimal r.left) (map decimal (members 128 0 r.right.bits))

abbrev pub item_bytes : Item → List ℕ
item_bytes i = line_bytes (codes "item") (decimal i.name) (decimal i.child ∷ decimal i.next ∷ [])

-- a row
pub row_on : (L : Limits) (names : List Name) (p : Progress) (n : ℕ) (r : Row) → p.stage ≡ Rows → p.count < L.room → L.states ≤ 1000000000 → row_fits L.states r ≡ true →
    judged L names p n (row_bytes r) ≡ Ok (a_row r)
row_on L names p n r e room few fits =
    let bits = r.right.bits in
    let ms = map decimal (members 128 0 bits) in
    let left : r.left < L.states = ltb-true _ _ (and_parts (ltb r.left L.states) _ fits).0 in
    let small : bits < 2 ^ min L.states 128 = fit_bits L.states r fits in
    let value = value_on n r.left (omega arith) in
    let all : bits % 2 ^ 128 ≡ bits = mod-eq_of_lt (pow_up bits (min L.states 128) 128 small (omega arith)) in
    let set : right_states n L.states 0 0 ms ≡ Ok (record { bits = bits }) =
    right_on n L.states bits (λ q h. has_below bits (min L.states 128) q small h) 128 0 0 0 (omega arith) (omega (arith, pow_pos 0)) (omega (arith, mod_below bits (2 ^ 0) (pow_pos 0))) (omega arith) ∙ ap (λ b. Ok (record { bits = b })) all in
    let K : Result StateSet CallFault → ℕ → Result Step CallFault = λ q x. then q λ right. cond (ltb x L.states) (Ok (a_row (record { left = x; right = right }))) (misplaced n) in
    judged_on L names p Rows n (codes "row") (decimal r.left) ms e refl (lacks_decimal 44 r.left (omega arith) (omega arith)) (lacks_members 44 (omega arith) 128 0 bits (omega arith))
    ∙ ap (λ q. then q λ _. then (of_line (all_numbers n (decimal r.left ∷ ms))) λ _. then (of_line (value_in (number n (decimal r.left)))) λ x. K (right_states n L.states 0 0 ms) x) (cond-true (ltb p.count L.room) (Ok tt) (roomless n) (lt-ltb _ _ room))
    ∙ ap (λ q. then (of_line (then q λ _. all_numbers n ms)) λ _. then (of_line q) λ x. K (right_states n L.states 0 0 ms) x) value
    ∙ ap (λ q. then (of_line q) λ _. K (right_states n L.states 0 0 ms) r.left) (numbers_on n 128 0 bits (omega arith))
    ∙ ap (λ q. K q r.left) set
    ∙ cond-true (ltb r.left L.states) _ _ (lt-ltb _ _ left)

-- an item
pub item_on : (L : Limits) (names : List Name) (p : Progress) (n : ℕ) (i : Item) → p.stage ≡ Items → p.count < L.room → L.room ≤ 1000000000 → length names ≤ 1000000000 → item_fits names p.count i ≡ true →
    judged L names p n (item_bytes i) ≡ Ok (an_item i)
item_on L names p n i e room few many fits =
    let s = item_sound names p.count i fits in
    let ha : i.name < 1000000000 = omega (arith, s.named) in
    let hb : i.child < 1000000000 = omega (arith, s.child_earlier) in
    let hc : i.next < 1000000000 = omega (arith, s.next_earlier) in
    let K : ℕ → ℕ → ℕ → Result Step CallFault = λ x y z. cond (item_fits names p.count (record { name = x; child = y; next = z })) (Ok (an_item (record { name = x; child = y; next = z }))) (misplaced n) in
    judged_on L names p Items n (codes "item") (decimal i.name) (decimal i.child ∷ decimal i.next ∷ []) e refl (lacks_decimal 44 i.name (omega arith) ha) (lacks_decimal 44 i.child (omega arith) hb, (lacks_decimal 44 i.next (omega arith) hc, tt))
    ∙ ap (λ q. then q λ _. then (of_line (value_in (number n (decimal i.name)))) λ x. then (of_line (value_in (number n (decimal i.child)))) λ y. then (of_line (value_in (number n (decimal i.next)))) λ z. K x y z) (cond-true (ltb p.count L.room) (Ok tt) (roomless n) (lt-ltb _ _ room))
    ∙ ap (λ q. then (of_line q) λ x. then (of_line (value_in (number n (decimal i.child)))) λ y. then (of_line (value_in (number n (decimal i.next)))) λ z. K x y z) (value_on n i.name ha)
    ∙ ap (λ q. then (of_line q) λ y. then (of_line (value_in (number n (decimal i.next)))) λ z. K i.name y z) (value_on n i.child hb)
    ∙ ap (λ q. then (of_line q) λ z. K i.name i.child z) (value_on n i.next hc)
    ∙ cond-true (item_fits names p.count i) _ _ fits
