-- The text of a sheet.
use Rattle.std.specs.Prelude.{ℕ, zero, suc, ◌+◌, cond, List, [], ◌∷◌, ◌++◌, map, take, codes, decimal}
use Rattle.model.specs.declared.rows.Row.{Row}
use Rattle.model.specs.declared.rows.Item.{Item}
use Rattle.model.specs.Sets.{has}
use Rattle.model.specs.declared.verdict.Verdict.{Verdict}
use Rattle.model.specs.declared.verdict.Verdict.TheVariants.{Included, Excluded}
use Rattle.records.specs.declared.sheet.Sheet.{Sheet}

-- fields after the first, each behind its comma
abbrev pub further : List (List ℕ) → List ℕ
further [] = []
further (p ∷ ps) = 44 ∷ (p ++ further ps)

-- a line: its key, `=`, its first field, the further ones, and LF
abbrev pub line_text : List ℕ → List ℕ → List (List ℕ) → List ℕ
line_text key p ps = key ++ 61 ∷ (p ++ (further ps ++ 10 ∷ []))

-- the states of a set, rising, among the n from q on
unfoldable pub members : ℕ → ℕ → ℕ → List ℕ
members zero q s = []
members (suc n) q s = cond (has s q) (q ∷ members n (q + 1) s) (members n (q + 1) s)

-- a row: its left state and its right states, rising
abbrev pub row_text : Row → List ℕ
row_text r = line_text (codes "row") (decimal r.left) (map decimal (members 128 0 r.right.bits))

-- an item: its name, its child and its next
abbrev pub item_text : Item → List ℕ
item_text i = line_text (codes "item") (decimal i.name) (decimal i.child ∷ decimal i.next ∷ [])

-- one text after the other
abbrev pub all_texts : {X : Type 0} → (X → List ℕ) → List X → List ℕ
all_texts f [] = []
all_texts f (x ∷ xs) = f x ++ all_texts f xs

-- the word for a verdict
abbrev pub verdict_text : Verdict → List ℕ
verdict_text Included = codes "included"
verdict_text Excluded = codes "excluded"

-- the records of a verdict
abbrev pub records_text : Verdict → ℕ → List Row → List Item → List ℕ
records_text Included n rows items = all_texts row_text (take n rows)
records_text Excluded n rows items = all_texts item_text (take n items)

-- the first line of a sheet
abbrev pub verdict_line : Verdict → List ℕ
verdict_line v = line_text (codes "sheet") (verdict_text v) []

-- the pair of a sheet
abbrev pub pair_text : ℕ → ℕ → List ℕ
pair_text a b = line_text (codes "pair") (decimal a) (decimal b ∷ [])

-- the end of a sheet
abbrev pub end_text : ℕ → List ℕ
end_text n = line_text (codes "end") (decimal n) []

-- a sheet: its verdict, its pair, its records and their number
abbrev pub sheet_text : Sheet → List Row → List Item → List ℕ
sheet_text s rows items =
    verdict_line s.verdict
    ++ (pair_text s.left s.right
    ++ (records_text s.verdict s.records rows items
    ++ end_text s.records))

-- the right states of a row
abbrev pub states_text : ℕ → List ℕ
states_text s = further (map decimal (members 128 0 s))
