-- Lines, fields and keys: cut apart and put together again.
use Rattle.std.proofs.Common.{◌≡◌, ℕ, suc, ◌-◌, ◌<◌, ◌≤◌, Bool, true, false, cond, not, eqb, List, [], ◌∷◌, ◌++◌, length, get_or, Some, None, Ok, Err, Option, sym, refl, ap, ◌∙◌, arith}
use Rattle.std.specs.List.{list_all, AllByRecursion}
use Rattle.std.proofs.lemmas.Option.{none-some, same_Some}
use Rattle.std.proofs.lemmas.Bool.{eq-eqb, eqb-true, and_parts, not-true, true≢false, or_parts, not-false, ltb-false, eqb-false, and_from, not_from_false}
use Rattle.text.specs.declared.fault.LineFault.{LineFault}
use Rattle.text.specs.declared.fault.LineFault.TheVariants.{Form}
use Rattle.text.specs.Pieces.{before, after, onto, pieces, lines, fields, last_byte, whole_text}
use Rattle.text.specs.Fields.{View, key}
use Rattle.text.specs.Cursors.{parts_at, line_parts}
use Rattle.text_law.specs.Writing.{written, commas, keyed, lacks}
use Rattle.text_law.proofs.Cases.{same_ok}

-- whatever a list of pieces is, one of them is first
abbrev pub SomePiece : List (List ℕ) → Type 0
SomePiece [] = ⊥
SomePiece (p ∷ ps) = Unit {0}

onto_some : (x : ℕ) (ps : List (List ℕ)) → SomePiece (onto x ps)
onto_some x [] = tt
onto_some x (p ∷ ps) = tt

pub fields_some : (xs : List ℕ) → SomePiece (fields xs)
fields_some [] = tt
fields_some (x ∷ xs) = elim (eqb x 44) as (λ b. SomePiece (cond b ([] ∷ fields xs) (onto x (fields xs)))) [ true ↦ tt | false ↦ onto_some x (fields xs) ]

lines_some : (x : ℕ) (xs : List ℕ) → SomePiece (lines (x ∷ xs))
lines_some x xs = elim (eqb x 10) as (λ b. SomePiece (cond b ([] ∷ lines xs) (onto x (lines xs)))) [ true ↦ tt | false ↦ onto_some x (lines xs) ]

-- a byte in front of the first piece
commas_onto : (x : ℕ) (ps : List (List ℕ)) → SomePiece ps → commas (onto x ps) ≡ x ∷ commas ps
commas_onto x [] h = absurd h
commas_onto x (p ∷ []) h = refl
commas_onto x (p ∷ q ∷ ps) h = refl

commas_first : (ps : List (List ℕ)) → SomePiece ps → commas ([] ∷ ps) ≡ 44 ∷ commas ps
commas_first [] h = absurd h
commas_first (p ∷ ps) h = refl

written_onto : (x : ℕ) (ps : List (List ℕ)) → SomePiece ps → written (onto x ps) ≡ x ∷ written ps
written_onto x [] h = absurd h
written_onto x (p ∷ ps) h = refl

-- fields, put together again
commas_by : (x : ℕ) (xs : List ℕ) (b : Bool) → eqb x 44 ≡ b → commas (fields xs) ≡ xs → commas (cond b ([] ∷ fields xs) (onto x (fields xs))) ≡ x ∷ xs
commas_by x xs true e h = commas_first (fields xs) (fields_some xs) ∙ ap (λ c. c ∷ commas (fields xs)) (sym (eqb-true x 44 e)) ∙ ap (λ l. x ∷ l) h
commas_by x xs false e h = commas_onto x (fields xs) (fields_some xs) ∙ ap (λ l. x ∷ l) h

pub commas_fields : (xs : List ℕ) → commas (fields xs) ≡ xs
commas_fields [] = refl
commas_fields (x ∷ xs) = commas_by x xs (eqb x 44) refl (commas_fields xs)

-- lines, put together again
last_more : (x y : ℕ) (ys : List ℕ) → last_byte (x ∷ y ∷ ys) ≡ last_byte (y ∷ ys)
last_more x y ys =
    let e : length (x ∷ y ∷ ys) - 1 ≡ suc (length (y ∷ ys) - 1) = omega arith in
    ap (λ n. get_or (x ∷ y ∷ ys) n 0) e

written_by : (x : ℕ) (xs : List ℕ) (b : Bool) → eqb x 10 ≡ b → SomePiece (lines xs) → written (lines xs) ≡ xs → written (cond b ([] ∷ lines xs) (onto x (lines xs))) ≡ x ∷ xs
written_by x xs true e s h = ap (λ c. c ∷ written (lines xs)) (sym (eqb-true x 10 e)) ∙ ap (λ l. x ∷ l) h
written_by x xs false e s h = written_onto x (lines xs) s ∙ ap (λ l. x ∷ l) h

one_line : (x : ℕ) (b : Bool) → eqb x 10 ≡ b → x ≡ 10 → written (cond b ([] ∷ []) ((x ∷ []) ∷ [])) ≡ x ∷ []
one_line x true e h = ap (λ c. c ∷ []) (sym h)
one_line x false e h = absurd (true≢false (sym (eq-eqb x 10 h) ∙ e))

pub written_lines : (xs : List ℕ) → 0 < length xs → last_byte xs ≡ 10 → written (lines xs) ≡ xs
written_lines [] l h = absurd (omega arith)
written_lines (x ∷ []) l h = one_line x (eqb x 10) refl h
written_lines (x ∷ y ∷ ys) l h = written_by x (y ∷ ys) (eqb x 10) refl (lines_some y ys) (written_lines (y ∷ ys) (omega arith) (sym (last_more x y ys) ∙ h))

-- pieces that lack the mark are found again
front : (x : ℕ) (m : ℕ) (xs : List ℕ) → lacks m (x ∷ xs) ≡ true → (eqb x m ≡ false) × (lacks m xs ≡ true)
front x m xs h = let p = and_parts (not (eqb x m)) (lacks m xs) h in (not-true (eqb x m) p.0, p.1)

pub pieces_cut : (m : ℕ) (end : List (List ℕ)) (l rest : List ℕ) → lacks m l ≡ true → pieces m end (l ++ m ∷ rest) ≡ l ∷ pieces m end rest
pieces_cut m end [] rest h = ap (λ b. cond b ([] ∷ pieces m end rest) (onto m (pieces m end rest))) (eq-eqb m m refl)
pieces_cut m end (x ∷ l) rest h =
    let f = front x m l h in
    ap (λ b. cond b ([] ∷ pieces m end (l ++ m ∷ rest)) (onto x (pieces m end (l ++ m ∷ rest)))) f.0 ∙ ap (onto x) (pieces_cut m end l rest f.1)

pieces_last : (m : ℕ) (l : List ℕ) → lacks m l ≡ true → pieces m ([] ∷ []) l ≡ l ∷ []
pieces_last m [] h = refl
pieces_last m (x ∷ l) h =
    let f = front x m l h in
    ap (λ b. cond b ([] ∷ pieces m ([] ∷ []) l) (onto x (pieces m ([] ∷ []) l))) f.0 ∙ ap (onto x) (pieces_last m l f.1)

pub lines_written : (ls : List (List ℕ)) → AllByRecursion (λ l. lacks 10 l ≡ true) ls → lines (written ls) ≡ ls
lines_written [] h = refl
lines_written (l ∷ ls) h = pieces_cut 10 [] l (written ls) h.0 ∙ ap (λ k. l ∷ k) (lines_written ls h.1)

pub fields_commas : (p : List ℕ) (ps : List (List ℕ)) → AllByRecursion (λ l. lacks 44 l ≡ true) (p ∷ ps) → fields (commas (p ∷ ps)) ≡ p ∷ ps
fields_commas p [] h = pieces_last 44 p h.0
fields_commas p (q ∷ ps) h = pieces_cut 44 ([] ∷ []) p (commas (q ∷ ps)) h.0 ∙ ap (λ k. p ∷ k) (fields_commas q ps h.1)

-- a key is found again
before_cut : (m : ℕ) (l rest : List ℕ) → lacks m l ≡ true → before m (l ++ m ∷ rest) ≡ l
before_cut m [] rest h = ap (λ b. cond b [] (m ∷ before m rest)) (eq-eqb m m refl)
before_cut m (x ∷ l) rest h =
    let f = front x m l h in
    ap (λ b. cond b [] (x ∷ before m (l ++ m ∷ rest))) f.0 ∙ ap (λ k. x ∷ k) (before_cut m l rest f.1)

after_cut : (m : ℕ) (l rest : List ℕ) → lacks m l ≡ true → after m (l ++ m ∷ rest) ≡ Some rest
after_cut m [] rest h = ap (λ b. cond b (Some rest) (after m rest)) (eq-eqb m m refl)
after_cut m (x ∷ l) rest h =
    let f = front x m l h in
    ap (λ b. cond b (Some (l ++ m ∷ rest)) (after m (l ++ m ∷ rest))) f.0 ∙ after_cut m l rest f.1

pub parts_keyed : (n : ℕ) (k : List ℕ) (p : List ℕ) (ps : List (List ℕ)) → lacks 61 k ≡ true → AllByRecursion (λ l. lacks 44 l ≡ true) (p ∷ ps) → line_parts n (keyed k (p ∷ ps)) ≡ Ok (key n k, p ∷ ps)
parts_keyed n k p ps h a =
    ap (λ o. parts_at n (before 61 (keyed k (p ∷ ps))) o) (after_cut 61 k (commas (p ∷ ps)) h) ∙ ap (λ b. Ok (key n b, fields (commas (p ∷ ps)))) (before_cut 61 k (commas (p ∷ ps)) h) ∙ ap (λ fs. Ok (key n k, fs)) (fields_commas p ps a)

-- a line with a key is the key and its fields
before_after_by : (m x : ℕ) (xs rest : List ℕ) (b : Bool) → eqb x m ≡ b → cond b (Some xs) (after m xs) ≡ Some rest → (after m xs ≡ Some rest → xs ≡ before m xs ++ m ∷ rest) → x ∷ xs ≡ cond b [] (x ∷ before m xs) ++ m ∷ rest
before_after_by m x xs rest true e h g = ap (λ c. c ∷ xs) (eqb-true x m e) ∙ ap (λ l. m ∷ l) (same_Some _ _ h)
before_after_by m x xs rest false e h g = ap (λ l. x ∷ l) (g h)

before_after : (m : ℕ) (xs rest : List ℕ) → after m xs ≡ Some rest → xs ≡ before m xs ++ m ∷ rest
before_after m [] rest h = absurd (none-some _ h)
before_after m (x ∷ xs) rest h = before_after_by m x xs rest (eqb x m) refl h (before_after m xs rest)

parts_by : (n : ℕ) (bs : List ℕ) (v : View) (fs : List (List ℕ)) (o : Option (List ℕ)) → after 61 bs ≡ o → parts_at n (before 61 bs) o ≡ Ok (v, fs) → (v ≡ key n (before 61 bs)) × (bs ≡ keyed (before 61 bs) fs)
parts_by n bs v fs None e h = absurd cc
parts_by n bs v fs (Some r) e h =
    let s : (key n (before 61 bs), fields r) ≡ (v, fs) = same_ok h in
    (sym (ap (λ p. p.0) s), before_after 61 bs r e ∙ ap (λ l. before 61 bs ++ 61 ∷ l) (sym (commas_fields r) ∙ ap (λ p. commas p.1) s))

pub parts_said : (n : ℕ) (bs : List ℕ) (v : View) (fs : List (List ℕ)) → line_parts n bs ≡ Ok (v, fs) → (v ≡ key n (before 61 bs)) × (bs ≡ keyed (before 61 bs) fs)
parts_said n bs v fs h = parts_by n bs v fs (after 61 bs) refl h

-- a text that is read whole is not empty, within the limit, and ends in LF
whole_by : (xs : List ℕ) (limit : ℕ) (f : LineFault) (b : Bool) (u : Unit {0}) → cond b (Err f) (Ok tt) ≡ Ok u → b ≡ false
whole_by xs limit f true u h = absurd cc
whole_by xs limit f false u h = refl

pub whole_said : (xs : List ℕ) (limit : ℕ) (u : Unit {0}) → whole_text limit xs ≡ Ok u → (0 < length xs) × (length xs ≤ limit) × (last_byte xs ≡ 10)
whole_said xs limit u h =
    let p = or_parts _ _ (whole_by xs limit (Form 1) _ u h) in
    let q = or_parts _ _ p.0 in
    (omega (arith, eqb-false _ _ q.0), ltb-false _ _ q.1, eqb-true _ _ (not-false _ p.1))

lacks_by : (p : ℕ → Bool) (m x : ℕ) (b : Bool) → eqb x m ≡ b → p m ≡ false → p x ≡ true → b ≡ false
lacks_by p m x true e o h = absurd (true≢false (sym h ∙ ap p (eqb-true x m e) ∙ o))
lacks_by p m x false e o h = refl

-- where all bytes pass a test, they lack a byte that does not
pub lacks_all : (p : ℕ → Bool) (m : ℕ) (xs : List ℕ) → p m ≡ false → list_all p xs ≡ true → lacks m xs ≡ true
lacks_all p m [] o h = refl
lacks_all p m (x ∷ xs) o h =
    let q = and_parts (p x) (list_all p xs) h in
    let n : eqb x m ≡ false = lacks_by p m x (eqb x m) refl o q.0 in
    and_from _ _ (not_from_false (eqb x m) n) (lacks_all p m xs o q.1)
