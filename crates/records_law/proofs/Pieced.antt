-- Lines and fields put together, and taken apart again.
use Rattle.std.proofs.Common.{◌≡◌, ℕ, suc, ◌-◌, Bool, true, false, cond, eqb, List, [], ◌∷◌, ◌++◌, length, get_or, Some, sym, refl, ap, ◌∙◌, arith}
use Rattle.std.proofs.lemmas.List.{append-nil}
use Rattle.std.proofs.lemmas.Bool.{eq-eqb, eqb-true, cond-true, cond-false}
use Rattle.text.specs.Pieces.{before, after, onto, pieces, lines, fields, last_byte}
use Rattle.writing.specs.Texts.{further}

-- a list without the mark
abbrev pub Lacks : ℕ → List ℕ → Type 0
Lacks m [] = Unit {0}
Lacks m (x ∷ xs) = (eqb x m ≡ false) × Lacks m xs

pub lacks_append : (m : ℕ) (xs ys : List ℕ) → Lacks m xs → Lacks m ys → Lacks m (xs ++ ys)
lacks_append m [] ys h k = k
lacks_append m (x ∷ xs) ys h k = (h.0, lacks_append m xs ys h.1 k)

-- a piece before the mark
pub pieces_cut : (m : ℕ) (end : List (List ℕ)) (xs rest : List ℕ) → Lacks m xs → pieces m end (xs ++ m ∷ rest) ≡ xs ∷ pieces m end rest
pieces_cut m end [] rest h = cond-true (eqb m m) _ _ (eq-eqb m m refl)
pieces_cut m end (x ∷ xs) rest h = cond-false (eqb x m) _ _ h.0 ∙ ap (onto x) (pieces_cut m end xs rest h.1)

-- the last field
pub pieces_last : (m : ℕ) (xs : List ℕ) → Lacks m xs → pieces m ([] ∷ []) xs ≡ xs ∷ []
pieces_last m [] h = refl
pieces_last m (x ∷ xs) h = cond-false (eqb x m) _ _ h.0 ∙ ap (onto x) (pieces_last m xs h.1)

-- all fields lack the comma
abbrev pub AllLack : List (List ℕ) → Type 0
AllLack [] = Unit {0}
AllLack (p ∷ ps) = Lacks 44 p × AllLack ps

pub fields_on : (p : List ℕ) (ps : List (List ℕ)) → Lacks 44 p → AllLack ps → fields (p ++ further ps) ≡ p ∷ ps
fields_on p [] h k = ap fields (append-nil p) ∙ pieces_last 44 p h
fields_on p (q ∷ qs) h k = pieces_cut 44 ([] ∷ []) p (q ++ further qs) h ∙ ap (λ l. p ∷ l) (fields_on q qs k.0 k.1)

-- fields with their commas again
abbrev pub joined : List (List ℕ) → List ℕ
joined [] = []
joined (p ∷ ps) = p ++ further ps

-- a first piece
pub record SomePiece (ps : List (List ℕ)) : Type 0 where
  pub first : List ℕ
  pub rest : List (List ℕ)
  pub is : ps ≡ first ∷ rest

onto_some : (x : ℕ) (ps : List (List ℕ)) → SomePiece (onto x ps)
onto_some x [] = record { first = x ∷ []; rest = []; is = refl }
onto_some x (p ∷ ps) = record { first = x ∷ p; rest = ps; is = refl }

pub fields_some : (xs : List ℕ) → SomePiece (fields xs)
fields_some [] = record { first = []; rest = []; is = refl }
fields_some (x ∷ xs) = go (eqb x 44)
  where
    go : (b : Bool) → SomePiece (cond b ([] ∷ fields xs) (onto x (fields xs)))
    go true = record { first = []; rest = fields xs; is = refl }
    go false = onto_some x (fields xs)

onto_joined : (x : ℕ) (ps : List (List ℕ)) → joined (onto x ps) ≡ x ∷ joined ps
onto_joined x [] = refl
onto_joined x (p ∷ ps) = refl

pub fields_back : (xs : List ℕ) → joined (fields xs) ≡ xs
fields_back [] = refl
fields_back (x ∷ xs) = go (eqb x 44) refl (fields_some xs) (fields_back xs)
  where
    go : (b : Bool) → eqb x 44 ≡ b → SomePiece (fields xs) → joined (fields xs) ≡ xs → joined (cond b ([] ∷ fields xs) (onto x (fields xs))) ≡ x ∷ xs
    go true e s ih =
        ap further s.is ∙ ap (λ l. 44 ∷ l) (sym (ap joined s.is) ∙ ih) ∙ ap (λ k. k ∷ xs) (sym (eqb-true x 44 e))
    go false e s ih = onto_joined x (fields xs) ∙ ap (λ l. x ∷ l) ih

-- a line's key and what is after it
pub before_on : (m : ℕ) (xs rest : List ℕ) → Lacks m xs → before m (xs ++ m ∷ rest) ≡ xs
before_on m [] rest h = cond-true (eqb m m) _ _ (eq-eqb m m refl)
before_on m (x ∷ xs) rest h = cond-false (eqb x m) _ _ h.0 ∙ ap (λ l. x ∷ l) (before_on m xs rest h.1)

pub after_back : (m : ℕ) (xs r : List ℕ) → after m xs ≡ Some r → xs ≡ before m xs ++ m ∷ r
after_back m [] r h = absurd cc
after_back m (x ∷ xs) r h = go (eqb x m) refl h (after_back m xs r)
  where
    go : (b : Bool) → eqb x m ≡ b → cond b (Some xs) (after m xs) ≡ Some r → (after m xs ≡ Some r → xs ≡ before m xs ++ m ∷ r) →
        x ∷ xs ≡ cond b [] (x ∷ before m xs) ++ m ∷ r
    go true e k ih = let t : xs ≡ r = cc in ap (λ l. x ∷ l) t ∙ ap (λ n. n ∷ r) (eqb-true x m e)
    go false e k ih = ap (λ l. x ∷ l) (ih k)

-- lines with their ends again
abbrev pub unlined : List (List ℕ) → List ℕ
unlined [] = []
unlined (l ∷ ls) = l ++ 10 ∷ unlined ls

pub lines_on : (l rest : List ℕ) → Lacks 10 l → lines (l ++ 10 ∷ rest) ≡ l ∷ lines rest
lines_on l rest h = pieces_cut 10 [] l rest h

-- a text that ends in LF
abbrev pub Ends : List ℕ → Type 0
Ends [] = Unit {0}
Ends (x ∷ []) = x ≡ 10
Ends (x ∷ y ∷ ys) = Ends (y ∷ ys)

pub ends_from : (xs : List ℕ) → last_byte xs ≡ 10 → Ends xs
ends_from [] h = tt
ends_from (x ∷ []) h = h
ends_from (x ∷ y ∷ ys) h = ends_from (y ∷ ys) (ap (λ k. get_or (x ∷ y ∷ ys) k 0) e ∙ h)
  where
    e : suc (length (y ∷ ys) - 1) ≡ length (x ∷ y ∷ ys) - 1
    e = omega arith

ends_tail : (x : ℕ) (xs : List ℕ) → Ends (x ∷ xs) → Ends xs
ends_tail x [] h = tt
ends_tail x (y ∷ ys) h = h

pub lines_back : (xs : List ℕ) → Ends xs → unlined (lines xs) ≡ xs
lines_back [] h = refl
lines_back (x ∷ xs) h = go (eqb x 10) refl (lines_back xs (ends_tail x xs h))
  where
    tail : (xs : List ℕ) → Ends (x ∷ xs) → eqb x 10 ≡ false → unlined (lines xs) ≡ xs → (ls : List (List ℕ)) → lines xs ≡ ls → unlined (onto x ls) ≡ x ∷ xs
    tail [] h e ih ls is = absurd (cc (eq-eqb x 10 h))
    tail (y ∷ ys) h e ih [] is = let z : [] ≡ y ∷ ys = ap unlined (sym is) ∙ ih in absurd cc
    tail (y ∷ ys) h e ih (l ∷ ls) is = ap (λ t. x ∷ t) (ap unlined (sym is) ∙ ih)

    go : (b : Bool) → eqb x 10 ≡ b → unlined (lines xs) ≡ xs → unlined (cond b ([] ∷ lines xs) (onto x (lines xs))) ≡ x ∷ xs
    go true e ih = ap (λ l. 10 ∷ l) ih ∙ ap (λ k. k ∷ xs) (sym (eqb-true x 10 e))
    go false e ih = tail xs h e ih (lines xs) refl
