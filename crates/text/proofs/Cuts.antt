-- How the place of the first mark cuts a list.
use Rattle.std.proofs.Common.{◌≡◌, ℕ, ◌+◌, ◌<◌, ◌≤◌, min, Bool, true, false, cond, not, eqb, List, [], ◌∷◌, length, take, drop, is_some, Some, None, Option, sym, refl, ap, ◌∙◌, ⊎_elim, add-one, arith, Bor}
use Rattle.std.specs.List.{position, position_or_len}
use Rattle.std.proofs.lemmas.Option.{none-some, same_Some, cond_some}
use Rattle.std.proofs.lemmas.List.{drop-drop, drop_all, length-drop}
use Rattle.std.proofs.lemmas.List.Recursion.{is_position_or_len}
use Rattle.std.proofs.lemmas.Bool.{cases_lt, lt-ltb, ltb-true}
use Rattle.text.specs.Pieces.{before, after, onto, pieces, lines, fields}
use Rattle.text.specs.Cursors.{none_left, fields_in}
use Rattle.std.specs.Option.{option_map}

-- the mark stands at the length of what is before it
pub front_is : (m : ℕ) (xs : List ℕ) → take (length (before m xs)) xs ≡ before m xs
front_is m [] = refl
front_is m (x ∷ xs) =
    elim (eqb x m) as (λ b. take (length (cond b [] (x ∷ before m xs))) (x ∷ xs) ≡ cond b [] (x ∷ before m xs)) [ true ↦ refl | false ↦ ap (λ l. x ∷ l) (front_is m xs) ]

-- a mark within the list has the rest after it
pub back_is : (m : ℕ) (xs : List ℕ) → length (before m xs) < length xs → after m xs ≡ Some (drop (length (before m xs) + 1) xs)
back_is m [] h = absurd (omega arith)
back_is m (x ∷ xs) h =
    elim (eqb x m) as (λ b. length (cond b [] (x ∷ before m xs)) < length (x ∷ xs) → cond b (Some xs) (after m xs) ≡ Some (drop (length (cond b [] (x ∷ before m xs)) + 1) (x ∷ xs))) [ true ↦ λ h. refl | false ↦ λ h. back_is m xs (omega arith) ∙ simp add-one ] h

-- with no mark nothing is after it, and everything is before it
pub no_back : (m : ℕ) (xs : List ℕ) → length xs ≤ length (before m xs) → after m xs ≡ None
no_back m [] h = refl
no_back m (x ∷ xs) h =
    elim (eqb x m) as (λ b. length (x ∷ xs) ≤ length (cond b [] (x ∷ before m xs)) → cond b (Some xs) (after m xs) ≡ None) [ true ↦ λ h. absurd (omega arith) | false ↦ λ h. no_back m xs (omega arith) ] h

pub all_front : (m : ℕ) (xs : List ℕ) → length xs ≤ length (before m xs) → before m xs ≡ xs
all_front m [] h = refl
all_front m (x ∷ xs) h =
    elim (eqb x m) as (λ b. length (x ∷ xs) ≤ length (cond b [] (x ∷ before m xs)) → cond b [] (x ∷ before m xs) ≡ x ∷ xs) [ true ↦ λ h. absurd (omega arith) | false ↦ λ h. ap (λ l. x ∷ l) (all_front m xs (omega arith)) ] h

-- what is before the mark is no longer than the list
pub front_within : (m : ℕ) (xs : List ℕ) → length (before m xs) ≤ length xs
front_within m [] = omega arith
front_within m (x ∷ xs) =
    elim (eqb x m) as (λ b. length (cond b [] (x ∷ before m xs)) ≤ length (x ∷ xs)) [ true ↦ omega arith | false ↦ omega (arith, front_within m xs) ]

-- the pieces of a list with a mark: what is before it, and the pieces of what is after it
pub pieces_more : (m : ℕ) (end : List (List ℕ)) (xs rest : List ℕ) → after m xs ≡ Some rest → pieces m end xs ≡ before m xs ∷ pieces m end rest
pieces_more m end [] rest h = absurd (none-some _ h)
pieces_more m end (x ∷ xs) rest h =
    elim (eqb x m) as (λ b. cond b (Some xs) (after m xs) ≡ Some rest → cond b ([] ∷ pieces m end xs) (onto x (pieces m end xs)) ≡ cond b [] (x ∷ before m xs) ∷ pieces m end rest) [ true ↦ λ h. ap (λ l. [] ∷ pieces m end l) (same_Some _ _ h) | false ↦ λ h. ap (onto x) (pieces_more m end xs rest h) ] h

-- the last field
pub field_last : (m : ℕ) (xs : List ℕ) → after m xs ≡ None → pieces m ([] ∷ []) xs ≡ before m xs ∷ []
field_last m [] h = refl
field_last m (x ∷ xs) h =
    elim (eqb x m) as (λ b. cond b (Some xs) (after m xs) ≡ None → cond b ([] ∷ pieces m ([] ∷ []) xs) (onto x (pieces m ([] ∷ []) xs)) ≡ cond b [] (x ∷ before m xs) ∷ []) [ true ↦ λ h. absurd (none-some _ (sym h)) | false ↦ λ h. ap (onto x) (field_last m xs h) ] h

-- a last line without its mark
pub line_last : (m : ℕ) (xs : List ℕ) → after m xs ≡ None → 0 < length xs → pieces m [] xs ≡ before m xs ∷ []
line_last m [] h l = absurd (omega arith)
line_last m (x ∷ []) h l =
    elim (eqb x m) as (λ b. ◌≡◌ {A = Option (List ℕ)} (cond b (Some []) None) None → cond b ([] ∷ []) ((x ∷ []) ∷ []) ≡ cond b [] (x ∷ []) ∷ []) [ true ↦ λ h. absurd (none-some _ (sym h)) | false ↦ λ h. refl ] h
line_last m (x ∷ y ∷ xs) h l =
    elim (eqb x m) as (λ b. cond b (Some (y ∷ xs)) (after m (y ∷ xs)) ≡ None → cond b ([] ∷ pieces m [] (y ∷ xs)) (onto x (pieces m [] (y ∷ xs))) ≡ cond b [] (x ∷ before m (y ∷ xs)) ∷ []) [ true ↦ λ h. absurd (none-some _ (sym h)) | false ↦ λ h. ap (onto x) (line_last m (y ∷ xs) h (omega arith)) ] h

-- the first mark stands where the search for it stops
before_place : (m : ℕ) (xs : List ℕ) → length (before m xs) ≡ position_or_len (λ b. eqb b m) xs
before_place m = is_position_or_len (λ l. length (before m l)) (λ b. eqb b m) refl (λ x xs. elim (eqb x m) as (λ b. length (cond b [] (x ∷ before m xs)) ≡ cond b 0 (1 + length (before m xs))) [ true ↦ refl | false ↦ omega arith ])

-- a mark that is found cuts the list, and where none is found the list is one piece
pub cut_found : (m : ℕ) (xs : List ℕ) (i : ℕ) → position (λ b. eqb b m) xs ≡ Some i → (take i xs ≡ before m xs) × (after m xs ≡ Some (drop (i + 1) xs))
cut_found m xs i h =
    let p = cond_some _ _ _ h in
    let e : length (before m xs) ≡ i = before_place m xs ∙ p.1 in
    let l = ltb-true _ _ p.0 in
    (ap (λ n. take n xs) (sym e) ∙ front_is m xs, back_is m xs (omega (arith, before_place m xs)) ∙ ap (λ n. Some (drop (n + 1) xs)) e)

pub cut_nowhere : (m : ℕ) (xs : List ℕ) → position (λ b. eqb b m) xs ≡ None → (before m xs ≡ xs) × (after m xs ≡ None)
cut_nowhere m xs h =
    ⊎_elim
    (λ (l : position_or_len (λ b. eqb b m) xs < length xs). absurd (none-some _ (sym h ∙ ap (λ b. cond b (Some (position_or_len (λ b. eqb b m) xs)) None) (lt-ltb _ _ l))))
    (λ (l : length xs ≤ position_or_len (λ b. eqb b m) xs).
    let k : length xs ≤ length (before m xs) = omega (arith, before_place m xs) in (all_front m xs k, no_back m xs k))
    (cases_lt (position_or_len (λ b. eqb b m) xs) (length xs))

-- the reader's next line, and the lines after it
pub lines_step : (xs : List ℕ) (i : ℕ) → i < length xs → lines (drop i xs) ≡ before 10 (drop i xs) ∷ lines (drop (min (i + length (before 10 (drop i xs)) + 1) (length xs)) xs)
lines_step xs i h =
    let ys = drop i xs in
    let b = length (before 10 ys) in
    let long = length-drop i xs in
    ⊎_elim
    (λ (l : b < length ys).
    let e : min (i + b + 1) (length xs) ≡ i + (b + 1) = omega arith in
    pieces_more 10 [] ys (drop (b + 1) ys) (back_is 10 ys l) ∙ ap (λ zs. before 10 ys ∷ lines zs) (drop-drop (b + 1) i xs ∙ ap (λ n. drop n xs) (sym e)))
    (λ (l : length ys ≤ b).
    let e : length xs ≤ min (i + b + 1) (length xs) = omega arith in
    line_last 10 ys (no_back 10 ys l) (omega arith) ∙ ap (λ zs. before 10 ys ∷ lines zs) (sym (drop_all _ xs e)))
    (cases_lt b (length ys))

onto_some : (x : ℕ) (ps : List (List ℕ)) → none_left (onto x ps) ≡ false
onto_some x [] = refl
onto_some x (p ∷ ps) = refl

-- there is always a first field
pub fields_some : (m : ℕ) (xs : List ℕ) → none_left (pieces m ([] ∷ []) xs) ≡ false
fields_some m [] = refl
fields_some m (x ∷ xs) =
    elim (eqb x m) as (λ b. none_left (cond b ([] ∷ pieces m ([] ∷ []) xs) (onto x (pieces m ([] ∷ []) xs))) ≡ false) [ true ↦ refl | false ↦ onto_some x (pieces m ([] ∷ []) xs) ]

-- a line has a field left where bytes are left
pub done_is : (o : Option (Bor (List ℕ))) (r : Bool) → is_some o ≡ not r → r ≡ none_left (fields_in o)
done_is None true h = refl
done_is None false h = h
done_is (Some x) true h = h ∙ sym (fields_some 44 x.now)
done_is (Some x) false h = sym (fields_some 44 x.now)

-- the next field, and the fields after it
pub fields_step : (xs : List ℕ) (o : Option (Bor (List ℕ))) → option_map (λ r. r.now) o ≡ after 44 xs → fields xs ≡ before 44 xs ∷ fields_in o
fields_step xs None h = field_last 44 xs (sym h)
fields_step xs (Some r) h = pieces_more 44 ([] ∷ []) xs r.now (sym h)
