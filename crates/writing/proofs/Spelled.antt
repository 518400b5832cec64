-- How the texts of records are made of their parts.
use Rattle.std.proofs.Common.{◌≡◌, ℕ, zero, suc, ◌+◌, ◌<◌, Bool, true, false, cond, List, [], ◌∷◌, ◌++◌, map, length, get_or, take, decimal, sym, refl, ap, ◌∙◌, add-one, zero-add, arith}
use Rattle.std.proofs.lemmas.List.{length-append, append_assoc, append-nil, map-append, take_more}
use Rattle.model.specs.Sets.{has}
use Rattle.writing.specs.Texts.{further, line_text, members, all_texts, verdict_line, pair_text, end_text, records_text, sheet_text}
use Rattle.model.specs.declared.rows.Row.{Row}
use Rattle.records.specs.declared.sheet.Sheet.{Sheet}
use Rattle.model.specs.declared.verdict.Verdict.{Verdict}
use Rattle.model.specs.declared.verdict.Verdict.TheVariants.{Included, Excluded}
use Rattle.model.specs.declared.rows.Item.{Item}

-- the states of a set among one more
pub members_suc : (n q s : ℕ) → members (suc n) q s ≡ cond (has s q) (q ∷ members n (q + 1) s) (members n (q + 1) s)
unfolding members
members_suc n q s = refl

pub members_zero : (q s : ℕ) → members 0 q s ≡ []
unfolding members
members_zero q s = refl

-- the states of a set among one more, the last
pub members_more : (n q s : ℕ) → members (suc n) q s ≡ members n q s ++ cond (has s (q + n)) ((q + n) ∷ []) []
members_more zero q s =
    members_suc 0 q s
    ∙ ap (λ l. cond (has s q) (q ∷ l) l) (members_zero (q + 1) s)
    ∙ ap (λ k. cond (has s k) (k ∷ []) []) (omega arith)
    ∙ ap (λ l. l ++ cond (has s (q + 0)) ((q + 0) ∷ []) []) (sym (members_zero q s))
members_more (suc n) q s =
    let k : q + 1 + n ≡ q + suc n = omega arith in
    members_suc (suc n) q s
    ∙ ap (λ l. cond (has s q) (q ∷ l) l) (members_more n (q + 1) s ∙ ap (λ j. members n (q + 1) s ++ cond (has s j) (j ∷ []) []) k)
    ∙ either (has s q) (members n (q + 1) s) (cond (has s (q + suc n)) ((q + suc n) ∷ []) [])
    ∙ ap (λ l. l ++ cond (has s (q + suc n)) ((q + suc n) ∷ []) []) (sym (members_suc n q s))
  where
    either : (b : Bool) (l r : List ℕ) → cond b (q ∷ (l ++ r)) (l ++ r) ≡ cond b (q ∷ l) l ++ r
    either true l r = refl
    either false l r = refl

-- further fields after others
pub further_append : (ps qs : List (List ℕ)) → further (ps ++ qs) ≡ further ps ++ further qs
further_append [] qs = refl
further_append (p ∷ ps) qs = ap (λ t. 44 ∷ (p ++ t)) (further_append ps qs) ∙ ap (λ t. 44 ∷ t) (sym (append_assoc p (further ps) (further qs)))

-- one number more
pub numbers_more : (ns : List ℕ) (n : ℕ) → further (map decimal (ns ++ n ∷ [])) ≡ further (map decimal ns) ++ 44 ∷ decimal n
numbers_more ns n =
    ap further (map-append decimal ns (n ∷ []))
    ∙ further_append (map decimal ns) (decimal n ∷ [])
    ∙ ap (λ t. further (map decimal ns) ++ 44 ∷ t) (append-nil (decimal n))

-- the text of the states below q, and of q
pub states_more : (q s : ℕ) → further (map decimal (members (q + 1) 0 s)) ≡ further (map decimal (members q 0 s)) ++ cond (has s q) (44 ∷ decimal q) []
states_more q s =
    ap (λ k. further (map decimal (members k 0 s))) (add-one q)
    ∙ ap (λ l. further (map decimal l)) (members_more q 0 s ∙ ap (λ k. members q 0 s ++ cond (has s k) (k ∷ []) []) (zero-add q))
    ∙ either (has s q)
  where
    either : (b : Bool) → further (map decimal (members q 0 s ++ cond b (q ∷ []) [])) ≡ further (map decimal (members q 0 s)) ++ cond b (44 ∷ decimal q) []
    either true = numbers_more (members q 0 s) q
    either false = ap (λ l. further (map decimal l)) (append-nil (members q 0 s)) ∙ sym (append-nil (further (map decimal (members q 0 s))))

pub states_with : (q s : ℕ) → has s q ≡ true → further (map decimal (members (q + 1) 0 s)) ≡ further (map decimal (members q 0 s)) ++ 44 ∷ decimal q
states_with q s e = states_more q s ∙ ap (λ b. further (map decimal (members q 0 s)) ++ cond b (44 ∷ decimal q) []) e

pub states_without : (q s : ℕ) → has s q ≡ false → further (map decimal (members (q + 1) 0 s)) ≡ further (map decimal (members q 0 s))
states_without q s e =
    states_more q s
    ∙ ap (λ b. further (map decimal (members q 0 s)) ++ cond b (44 ∷ decimal q) []) e
    ∙ append-nil (further (map decimal (members q 0 s)))

-- texts after texts
pub texts_append : {X : Type 0} (f : X → List ℕ) (xs ys : List X) → all_texts f (xs ++ ys) ≡ all_texts f xs ++ all_texts f ys
texts_append f [] ys = refl
texts_append f (x ∷ xs) ys = ap (λ t. f x ++ t) (texts_append f xs ys) ∙ sym (append_assoc (f x) (all_texts f xs) (all_texts f ys))

-- one text more
pub texts_more : {X : Type 0} (f : X → List ℕ) (xs : List X) (i : ℕ) (x : X) → i < length xs → x ≡ get_or xs i x →
    all_texts f (take (i + 1) xs) ≡ all_texts f (take i xs) ++ f x
texts_more f xs i x lt e =
    ap (all_texts f) (take_more xs i x lt)
    ∙ texts_append f (take i xs) (get_or xs i x ∷ [])
    ∙ ap (λ t. all_texts f (take i xs) ++ t) (append-nil (f (get_or xs i x)) ∙ ap f (sym e))

-- the length of a line
pub line_length : (key p : List ℕ) (ps : List (List ℕ)) → length (line_text key p ps) ≡ length key + (1 + (length p + (length (further ps) + 1)))
line_length key p ps =
    length-append key (61 ∷ (p ++ (further ps ++ 10 ∷ [])))
    ∙ ap (λ n. length key + suc n) (length-append p (further ps ++ 10 ∷ []) ∙ ap (λ n. length p + n) (length-append (further ps) (10 ∷ [])))
    ∙ omega arith

-- the length of the numbers behind their commas
pub two_length : (p q : List ℕ) → length (further (p ∷ q ∷ [])) ≡ (1 + length p) + (1 + length q)
two_length p q = ap suc (length-append p (44 ∷ (q ++ []))) ∙ ap (λ n. suc (length p + suc n)) (length-append q []) ∙ omega arith

pub one_length : (p : List ℕ) → length (further (p ∷ [])) ≡ 1 + length p
one_length p = ap suc (length-append p []) ∙ omega arith

-- the length of a sheet
pub sheet_length : (s : Sheet) (rows : List Row) (items : List Item) → length (sheet_text s rows items)
    ≡ length (verdict_line s.verdict) + (length (pair_text s.left s.right) + (length (records_text s.verdict s.records rows items) + length (end_text s.records)))
sheet_length s rows items =
    length-append (verdict_line s.verdict) _
    ∙ ap (λ n. length (verdict_line s.verdict) + n) (length-append (pair_text s.left s.right) _
    ∙ ap (λ n. length (pair_text s.left s.right) + n) (length-append (records_text s.verdict s.records rows items) (end_text s.records)))

pub verdict_length : (v : Verdict) → length (verdict_line v) ≡ 15
verdict_length Included = refl
verdict_length Excluded = refl
