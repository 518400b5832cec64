-- A sheet that is written is not too long to be counted, and all its records have places.
use Rattle.std.proofs.Common.{◌≡◌, ℕ, zero, suc, ◌+◌, ◌*◌, ◌/◌, ◌%◌, ◌^◌, ◌<◌, ◌≤◌, Bool, true, false, cond, ◌&&◌, eqb, leb, List, [], ◌∷◌, map, length, take, Ok, codes, decimal, refl, ap, arith}
use Rattle.std.specs.Fmt.{digits, digits_onto, digit_glyph}
use Rattle.std.specs.List.{AllByRecursion}
use Rattle.std.proofs.lemmas.List.{length-append, length-take}
use Rattle.std.proofs.lemmas.Bool.{and_parts, leb-true, eqb-true}
use Rattle.model.specs.declared.names.Name.{Name}
use Rattle.model.specs.declared.rows.Row.{Row}
use Rattle.model.specs.declared.rows.Item.{Item}
use Rattle.model.specs.Sets.{has}
use Rattle.model.specs.declared.verdict.Verdict.{Verdict}
use Rattle.model.specs.declared.verdict.Verdict.TheVariants.{Included, Excluded}
use Rattle.records.specs.declared.sheet.Sheet.{Sheet}
use Rattle.records.specs.Chains.{misplaced}
use Rattle.records.specs.Reading.{counted}
use Rattle.records.proofs.Chained.{then_ok, cond_ok}
use Rattle.writing.specs.Texts.{further, members, row_text, item_text, all_texts, records_text, sheet_text}
use Rattle.writing.specs.Checks.{places_checked, sheet_checked}
use Rattle.writing.proofs.Spelled.{members_suc, members_zero, line_length, two_length, one_length, sheet_length, verdict_length}

-- a number has at most 64 digits
spelled_short : (k base : ℕ) (upper : Bool) (n : ℕ) (acc : List ℕ) → length (digits_onto k base upper n acc) ≤ k + length acc
spelled_short zero base upper n acc = omega arith
spelled_short (suc k) base upper n acc = either (eqb (n / base) 0) (spelled_short k base upper (n / base) (digit_glyph upper (n % base) ∷ acc))
  where
    either : (b : Bool) → length (digits_onto k base upper (n / base) (digit_glyph upper (n % base) ∷ acc)) ≤ k + suc (length acc) →
        length (cond b (digit_glyph upper (n % base) ∷ acc) (digits_onto k base upper (n / base) (digit_glyph upper (n % base) ∷ acc))) ≤ suc k + length acc
    either true h = omega arith
    either false h = omega arith

pub decimal_short : (n : ℕ) → length (decimal n) ≤ 64
unfolding digits
decimal_short n = omega (arith, spelled_short 64 10 false n [])

-- the states of a row
pub states_short : (n q s : ℕ) → length (further (map decimal (members n q s))) ≤ 65 * n
states_short zero q s = omega (arith, ap (λ l. length (further (map decimal l))) (members_zero q s))
states_short (suc n) q s =
    omega (arith, ap (λ l. length (further (map decimal l))) (members_suc n q s), either (has s q) (members n (q + 1) s) (states_short n (q + 1) s))
  where
    either : (b : Bool) (l : List ℕ) → length (further (map decimal l)) ≤ 65 * n → length (further (map decimal (cond b (q ∷ l) l))) ≤ 65 * suc n
    either true l k = omega (arith, length-append (decimal q) (further (map decimal l)), decimal_short q)
    either false l k = omega arith

-- a row, an item
pub row_short : (r : Row) → length (row_text r) ≤ 9000
row_short r =
    omega (arith, line_length (codes "row") (decimal r.left) (map decimal (members 128 0 r.right.bits)), decimal_short r.left, states_short 128 0 r.right.bits)

pub item_short : (i : Item) → length (item_text i) ≤ 9000
item_short i =
    omega (arith, line_length (codes "item") (decimal i.name) (decimal i.child ∷ decimal i.next ∷ []), two_length (decimal i.child) (decimal i.next), decimal_short i.name, decimal_short i.child, decimal_short i.next)

-- texts of records
pub all_short : {X : Type 0} (f : X → List ℕ) → ((x : X) → length (f x) ≤ 9000) → (xs : List X) → length (all_texts f xs) ≤ 9000 * length xs
all_short f h [] = omega arith
all_short f h (x ∷ xs) = omega (arith, length-append (f x) (all_texts f xs), h x, all_short f h xs)

-- records that pass their checks have places, and fit them
pub places_ok : {X : Type 0} (fits : ℕ → X → Bool) (P : X → Type 0) (most : ℕ) → ((k : ℕ) (x : X) → k < most → fits k x ≡ true → P x) →
    (n k : ℕ) (xs : List X) → k + length xs ≤ most → places_checked fits k n xs ≡ Ok tt → AllByRecursion P (take n xs) × (n ≤ length xs)
places_ok fits P most given zero k xs h e = (tt, omega arith)
places_ok fits P most given (suc n) k [] h e = absurd cc
places_ok fits P most given (suc n) k (x ∷ xs) h e =
    go (fits k x) refl e (places_ok fits P most given n (k + 1) xs (omega arith))
  where
    go : (b : Bool) → fits k x ≡ b → cond b (places_checked fits (k + 1) n xs) (misplaced (k + 3)) ≡ Ok tt →
        (places_checked fits (k + 1) n xs ≡ Ok tt → AllByRecursion P (take n xs) × (n ≤ length xs)) → AllByRecursion P (take (suc n) (x ∷ xs)) × (suc n ≤ length (x ∷ xs))
    go true is h' rec = let r = rec h' in ((given k x (omega arith) is, r.0), omega (arith, r.1))
    go false is h' rec = absurd cc

-- the records of a sheet
pub records_short : (v : Verdict) (n : ℕ) (rows : List Row) (items : List Item) → length rows ≤ 512 → length items ≤ 512 →
    length (records_text v n rows items) ≤ 9000 * 512
records_short Included n rows items lr li = omega (arith, all_short row_text row_short (take n rows), length-take n rows)
records_short Excluded n rows items lr li = omega (arith, all_short item_text item_short (take n items), length-take n items)

-- the counts of rows and items that are allowed
pub counts_ok : (m n : ℕ) → counted m n ≡ Ok tt → (1 ≤ m) × (m ≤ 512) × (m ≡ n)
counts_ok m n e =
    let a = and_parts _ (eqb m n) (cond_ok (leb 1 m && leb m 512 && eqb m n) tt tt _ e).0 in
    let b = and_parts (leb 1 m) (leb m 512) a.0 in
    (leb-true 1 m b.0, leb-true m 512 b.1, eqb-true m n a.1)

-- a sheet that passes its checks
pub sheet_short : (rules states : ℕ) (names : List Name) (s : Sheet) (rows : List Row) (items : List Item) → sheet_checked rules states names s rows items ≡ Ok tt →
    length (sheet_text s rows items) < 2 ^ 64
sheet_short rules states names s rows items e =
    let a = then_ok (counted (length rows) (length items)) _ tt e in
    let n = counts_ok (length rows) (length items) a.1 in
    omega (
      arith,
      sheet_length s rows items,
      verdict_length s.verdict,
      line_length (codes "pair") (decimal s.left) (decimal s.right ∷ []),
      one_length (decimal s.right),
      decimal_short s.left,
      decimal_short s.right,
      line_length (codes "end") (decimal s.records) [],
      decimal_short s.records,
      records_short s.verdict s.records rows items n.1 (omega (arith, n.1, n.2)),
    )
