-- A sheet of a grammar is within the limit of a text.
use Rattle.std.proofs.Common.{◌≡◌, ℕ, zero, suc, ◌+◌, ◌-◌, ◌*◌, ◌^◌, ◌<◌, ◌≤◌, min, Bool, true, false, cond, ltb, List, [], ◌∷◌, ◌++◌, map, length, get_or, take, Ok, codes, decimal, refl, ap, ◌∙◌, ⊎_elim, arith}
use Rattle.std.specs.List.{AllByRecursion}
use Rattle.std.proofs.lemmas.Fmt.{length-decimal-le}
use Rattle.std.proofs.lemmas.List.{length-append, length-take-le, get_or-append_right}
use Rattle.std.proofs.lemmas.Bool.{and_parts, ltb-true, cases_lt, cond-false, or_from, ne_eqb, eq-eqb, le-ltb, not_from_true}
use Rattle.model.specs.declared.names.Name.{Name}
use Rattle.model.specs.declared.rows.Row.{Row}
use Rattle.model.specs.declared.rows.Item.{Item}
use Rattle.model.specs.Sets.{has}
use Rattle.text.specs.Pieces.{last_byte, whole_text}
use Rattle.model.specs.declared.verdict.Verdict.{Verdict}
use Rattle.model.specs.declared.verdict.Verdict.TheVariants.{Included, Excluded}
use Rattle.records.specs.declared.sheet.Sheet.{Sheet}
use Rattle.records.specs.Places.{item_fits}
use Rattle.records.specs.Reading.{limit}
use Rattle.records.proofs.Sound.{item_sound}
use Rattle.writing.specs.Texts.{further, members, row_text, item_text, all_texts, verdict_line, pair_text, end_text, records_text, sheet_text}
use Rattle.writing.specs.Checks.{row_fits, records_checked}
use Rattle.writing.proofs.Spelled.{members_suc, members_zero, line_length, two_length, one_length, sheet_length, verdict_length}
use Rattle.writing.proofs.Bounded.{places_ok}

-- the length of a number below a power of ten
digits_few : (k n : ℕ) → 0 < k → n < 10 ^ k → n < 2 ^ 64 → length (decimal n) ≤ k
digits_few k n pos h big = length-decimal-le k n pos h big

-- a state and its comma: three bytes below 100, four from there on
state_short : (q : ℕ) → q < 128 → length (decimal q) + 1 ≤ 3 + min 1 (q - 99)
state_short q lt =
    ⊎_elim (λ (l : q < 100). omega (arith, digits_few 2 q (omega arith) (omega arith) (omega arith))) (λ (l : 100 ≤ q). omega (arith, digits_few 3 q (omega arith) (omega arith) (omega arith))) (cases_lt q 100)

pub states_tight : (n q s : ℕ) → q + n ≤ 128 → length (further (map decimal (members n q s))) ≤ 3 * n + min n (q + n - 100)
states_tight zero q s most = omega (arith, ap (λ l. length (further (map decimal l))) (members_zero q s))
states_tight (suc n) q s most =
    omega (arith, ap (λ l. length (further (map decimal l))) (members_suc n q s), either (has s q) (members n (q + 1) s) (states_tight n (q + 1) s (omega arith)))
  where
    either : (b : Bool) (l : List ℕ) → length (further (map decimal l)) ≤ 3 * n + min n (q + 1 + n - 100) → length (further (map decimal (cond b (q ∷ l) l))) ≤ 3 * suc n + min (suc n) (q + suc n - 100)
    either true l k = omega (arith, length-append (decimal q) (further (map decimal l)), state_short q (omega arith))
    either false l k = omega arith

pub row_tight : (states : ℕ) (r : Row) → states ≤ 128 → row_fits states r ≡ true → length (row_text r) ≤ 430
row_tight states r few h =
    let left : r.left < states = ltb-true _ _ (and_parts (ltb r.left states) _ h).0 in
    omega (arith, line_length (codes "row") (decimal r.left) (map decimal (members 128 0 r.right.bits)), digits_few 3 r.left (omega arith) (omega arith) (omega arith), states_tight 128 0 r.right.bits (omega arith))

pub item_tight : (names : List Name) (k : ℕ) (i : Item) → length names ≤ 1000 → k < 512 → item_fits names k i ≡ true → length (item_text i) ≤ 430
item_tight names k i few lt h =
    let s = item_sound names k i h in
    let a : i.name < 1000 = omega (arith, s.named) in
    let b : i.child < 1000 = omega (arith, s.child_earlier) in
    let c : i.next < 1000 = omega (arith, s.next_earlier) in
    omega (
      arith,
      line_length (codes "item") (decimal i.name) (decimal i.child ∷ decimal i.next ∷ []),
      two_length (decimal i.child) (decimal i.next),
      digits_few 3 i.name (omega arith) (omega arith) (omega arith),
      digits_few 3 i.child (omega arith) (omega arith) (omega arith),
      digits_few 3 i.next (omega arith) (omega arith) (omega arith),
    )

all_tight : {X : Type 0} (f : X → List ℕ) (xs : List X) → AllByRecursion (λ x. length (f x) ≤ 430) xs → length (all_texts f xs) ≤ 430 * length xs
all_tight f [] h = omega arith
all_tight f (x ∷ xs) h = omega (arith, length-append (f x) (all_texts f xs), h.0, all_tight f xs h.1)

pub records_tight : (states : ℕ) (names : List Name) (v : Verdict) (n : ℕ) (rows : List Row) (items : List Item) → states ≤ 128 → length names ≤ 64 → length rows ≤ 512 → length items ≤ 512 →
    records_checked states names v n rows items ≡ Ok tt → (n ≤ 512) × (length (records_text v n rows items) ≤ 430 * 512)
records_tight states names Included n rows items st nm lr li e =
    let p = places_ok (λ _ r. row_fits states r) (λ r. length (row_text r) ≤ 430) 512 (λ k r lt h. row_tight states r st h) n 0 rows (omega arith) e in
    (omega (arith, p.1), omega (arith, all_tight row_text (take n rows) p.0, length-take-le n rows p.1, p.1))
records_tight states names Excluded n rows items st nm lr li e =
    let p = places_ok (item_fits names) (λ i. length (item_text i) ≤ 430) 512 (λ k i lt h. item_tight names k i (omega arith) lt h) n 0 items (omega arith) e in
    (omega (arith, p.1), omega (arith, all_tight item_text (take n items) p.0, length-take-le n items p.1, p.1))

-- the last byte of a text is that of its last part
last_append : (xs ys : List ℕ) → 0 < length ys → last_byte (xs ++ ys) ≡ last_byte ys
last_append xs ys h =
    let n = length-append xs ys in
    get_or-append_right xs ys (length xs) (length (xs ++ ys) - 1) 0 refl (omega arith) ∙ ap (λ k. get_or ys k 0) (omega arith)

end_long : (n : ℕ) → 5 ≤ length (end_text n)
end_long n = omega (arith, line_length (codes "end") (decimal n) [])

end_last : (n : ℕ) → last_byte (end_text n) ≡ 10
end_last n =
    last_append (codes "end=") (decimal n ++ 10 ∷ []) (omega (arith, length-append (decimal n) (10 ∷ []))) ∙ last_append (decimal n) (10 ∷ []) (omega arith)

-- a sheet of a grammar is a whole text
pub sheet_whole : (rules states : ℕ) (names : List Name) (s : Sheet) (rows : List Row) (items : List Item) → rules ≤ 32 → states ≤ 128 → length names ≤ 64 → length rows ≤ 512 → length items ≤ 512 →
    s.left < rules → s.right < rules → records_checked states names s.verdict s.records rows items ≡ Ok tt → whole_text limit (sheet_text s rows items) ≡ Ok tt
sheet_whole rules states names s rows items ru st nm lr li hl hr e =
    let k = records_tight states names s.verdict s.records rows items st nm lr li e in
    let records = records_text s.verdict s.records rows items in
    let long = end_long s.records in
    let total = sheet_length s rows items in
    let size : length (sheet_text s rows items) ≤ 262144 =
    omega (
      arith,
      total,
      verdict_length s.verdict,
      line_length (codes "pair") (decimal s.left) (decimal s.right ∷ []),
      one_length (decimal s.right),
      digits_few 2 s.left (omega arith) (omega arith) (omega arith),
      digits_few 2 s.right (omega arith) (omega arith) (omega arith),
      line_length (codes "end") (decimal s.records) [],
      digits_few 3 s.records (omega arith) (omega (arith, k.0)) (omega (arith, k.0)),
      k.1,
    ) in
    let some : length (sheet_text s rows items) ≡ 0 → ⊥ = λ z. omega (arith, total, long, z) in
    let l2 : 0 < length (records ++ end_text s.records) = omega (arith, length-append records (end_text s.records), long) in
    let l1 : 0 < length (pair_text s.left s.right ++ (records ++ end_text s.records)) = omega (arith, length-append (pair_text s.left s.right) (records ++ end_text s.records), l2) in
    let last : last_byte (sheet_text s rows items) ≡ 10 =
    last_append (verdict_line s.verdict) _ l1 ∙ last_append (pair_text s.left s.right) _ l2 ∙ last_append records (end_text s.records) (omega (arith, long)) ∙ end_last s.records in
    cond-false _ _ _ (or_from _ _ (or_from _ _ (ne_eqb _ 0 some) (le-ltb 262144 _ size)) (not_from_true _ (eq-eqb _ 10 last)))
