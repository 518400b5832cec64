-- The marks of a list that is closed under sides are right.
use Rattle.std.proofs.Common.{◌≡◌, ℕ, zero, suc, ◌<◌, ◌≤◌, Bool, true, false, ◌&&◌, ◌||◌, eqb, ◌⊎◌, List, [], ◌∷◌, map, length, get_or, sym, refl, ap, ◌∙◌, subst, inl, inr, ⊎_elim, arith}
use lib.ListN.{length-map}
use Rattle.std.proofs.lemmas.Bool.{and_parts, and_from, or_cases, or_left, or_right, eqb-true, eq-eqb, false≢true}
use Rattle.std.proofs.lemmas.List.{get_or-map}
use Rattle.model.specs.declared.rows.Row.{Row}
use Rattle.model.specs.Blank.{blank_row}
use Rattle.theory.specs.Count.{any}
use Rattle.theory.specs.Machine.{Machine}
use Rattle.theory.specs.Inequality.{same_row, Refuted, by_empty, by_either_or, inconsistent, EitherOr, either_ors, Member}
use Rattle.inequality.specs.Marks.{Sided, marked, both_marked, sweep_by, sweep, sweeps, marks, Right, Swept}
use Rattle.inequality.proofs.Lists.{Tells, any_found, any_from, member_at, place_of}

-- the test on rows tells equal rows
pub tells_row : Tells same_row
tells_row = record {
  equal = λ a b e. let p = and_parts (eqb a.left b.left) _ e in
      (λ i. record {
        left = eqb-true a.left b.left p.0 i;
        right = record { bits = eqb-true a.right.bits b.right.bits p.1 i };
      });
  itself = λ a. and_from _ _ (eq-eqb a.left a.left refl) (eq-eqb a.right.bits a.right.bits refl);
}

-- a row is marked exactly when a place that holds it has its mark set
pub marked_found : (rows : List Row) (ms : List Bool) (r : Row) → marked rows ms r ≡ true →
    (i : ℕ) × (i < length rows) × (get_or rows i blank_row ≡ r) × (get_or ms i false ≡ true)
marked_found [] ms r e = elim (false≢true e) [ ]
marked_found (x ∷ rows) [] r e = elim (false≢true e) [ ]
marked_found (x ∷ rows) (b ∷ ms) r e = ⊎_elim
    (λ (now' : (same_row r x && b) ≡ true). let p = and_parts (same_row r x) b now' in
    (0, omega arith, sym (tells_row.equal r x p.0), p.1))
    (λ (later : marked rows ms r ≡ true). let at = marked_found rows ms r later in
    (suc at.0, omega (arith, at.1), at.2, at.3))
    (or_cases (same_row r x && b) (marked rows ms r) e)

pub marked_from : (rows : List Row) (ms : List Bool) (r : Row) (i : ℕ) → i < length rows →
    get_or rows i blank_row ≡ r → get_or ms i false ≡ true → marked rows ms r ≡ true
marked_from [] ms r i lt at e = absurd (omega arith)
marked_from (x ∷ rows) [] r i lt at e = elim (false≢true e) [ ]
marked_from (x ∷ rows) (b ∷ ms) r zero lt at e =
    or_left _ _ (and_from _ _ (ap (same_row r) at ∙ tells_row.itself r) e)
marked_from (x ∷ rows) (b ∷ ms) r (suc i) lt at e =
    or_right (same_row r x && b) _ (marked_from rows ms r i (omega arith) at e)

-- a sweep, place by place
sweep_length : (m : Machine) (passes : EitherOr → Bool) (rows : List Row) (ms : List Bool) →
    length ms ≡ length rows → length (sweep_by m passes rows ms) ≡ length rows
sweep_length m passes [] ms e = refl
sweep_length m passes (r ∷ rows) [] e = e
sweep_length m passes (r ∷ rows) (b ∷ ms) e = ap suc (sweep_length m passes rows ms (omega arith))

sweep_at : (m : Machine) (passes : EitherOr → Bool) (rows : List Row) (ms : List Bool) (i : ℕ) →
    length ms ≡ length rows → i < length rows → get_or (sweep_by m passes rows ms) i false
    ≡ (get_or ms i false || any passes (either_ors m (get_or rows i blank_row)))
sweep_at m passes [] ms i e lt = absurd (omega arith)
sweep_at m passes (r ∷ rows) [] i e lt = absurd (omega arith)
sweep_at m passes (r ∷ rows) (b ∷ ms) zero e lt = refl
sweep_at m passes (r ∷ rows) (b ∷ ms) (suc i) e lt = sweep_at m passes rows ms i (omega arith) (omega arith)

-- how many marks are set
count : List Bool → ℕ
count [] = 0
count (true ∷ ms) = suc (count ms)
count (false ∷ ms) = count ms

count_most : (ms : List Bool) → count ms ≤ length ms
unfolding count
count_most [] = omega arith
count_most (true ∷ ms) = omega (arith, count_most ms)
count_most (false ∷ ms) = omega (arith, count_most ms)

-- a sweep changes nothing or sets a mark more
grows : (m : Machine) (passes : EitherOr → Bool) (rows : List Row) (ms : List Bool) → length ms ≡ length rows →
    (sweep_by m passes rows ms ≡ ms) ⊎ (count ms < count (sweep_by m passes rows ms))
unfolding count
grows m passes [] [] e = inl refl
grows m passes [] (b ∷ ms) e = absurd (omega arith)
grows m passes (r ∷ rows) [] e = absurd (omega arith)
grows m passes (r ∷ rows) (b ∷ ms) e = go b (any passes (either_ors m r)) (grows m passes rows ms (omega arith))
  where
    next : List Bool
    next = sweep_by m passes rows ms

    go : (b x : Bool) → (next ≡ ms) ⊎ (count ms < count next) →
        (◌≡◌ {A = List Bool} ((b || x) ∷ next) (b ∷ ms)) ⊎ (count (b ∷ ms) < count ((b || x) ∷ next))
    go true x (inl same) = inl (ap (λ l. true ∷ l) same)
    go true x (inr more) = inr (omega arith)
    go false false (inl same) = inl (ap (λ l. false ∷ l) same)
    go false false (inr more) = inr (omega arith)
    go false true (inl same) = inr (omega (arith, ap count same))
    go false true (inr more) = inr (omega arith)

module _ (m : Machine) (rows : List Row) where
  sweeps_length : (n : ℕ) (ms : List Bool) → length ms ≡ length rows → length (sweeps m rows n ms) ≡ length rows
  sweeps_length zero ms e = e
  sweeps_length (suc n) ms e = sweep_length m _ rows (sweeps m rows n ms) (sweeps_length n ms e)

  -- after n sweeps nothing changes any more, or n marks are set
  settles : (n : ℕ) (ms : List Bool) → length ms ≡ length rows →
      (sweep m rows (sweeps m rows n ms) ≡ sweeps m rows n ms) ⊎ (n ≤ count (sweeps m rows n ms))
  settles zero ms e = inr (omega arith)
  settles (suc n) ms e = ⊎_elim
      (λ (still : sweep m rows (sweeps m rows n ms) ≡ sweeps m rows n ms). inl (ap (sweep m rows) still))
      (λ (many : n ≤ count (sweeps m rows n ms)). ⊎_elim
      (λ (still : sweep m rows (sweeps m rows n ms) ≡ sweeps m rows n ms). inl (ap (sweep m rows) still))
      (λ (more : count (sweeps m rows n ms) < count (sweep m rows (sweeps m rows n ms))). inr (omega arith))
      (grows m _ rows (sweeps m rows n ms) (sweeps_length n ms e)))
      (settles n ms e)

  -- as many sweeps as there are rows suffice
  settled : (ms : List Bool) → length ms ≡ length rows →
      sweep m rows (sweeps m rows (length rows) ms) ≡ sweeps m rows (length rows) ms
  settled ms e = ⊎_elim (λ still. still)
      (λ (many : length rows ≤ count last). ⊎_elim (λ still. still)
      (λ (more : count last < count (sweep m rows last)).
      absurd (omega (arith, count_most (sweep m rows last), sweep_length m (both_marked rows last) rows last long)))
      (grows m _ rows last long))
      (settles (length rows) ms e)
    where
      last : List Bool
      last = sweeps m rows (length rows) ms

      long : length last ≡ length rows
      long = sweeps_length (length rows) ms e

  -- only refuted rows are marked
  Sound : List Bool → Type 0
  Sound ms = (i : ℕ) → i < length rows → get_or ms i false ≡ true → Refuted m (get_or rows i blank_row)

  marked_refuted : (ms : List Bool) → Sound ms → (r : Row) → marked rows ms r ≡ true → Refuted m r
  unfolding Sound
  marked_refuted ms sound r e =
      let at = marked_found rows ms r e in
      subst (Refuted m) at.2 (sound at.0 at.1 at.3)

  sweeps_sound : (n : ℕ) (ms : List Bool) → length ms ≡ length rows → Sound ms → Sound (sweeps m rows n ms)
  unfolding Sound
  sweeps_sound zero ms e sound i lt set = sound i lt set
  sweeps_sound (suc n) ms e sound i lt set =
      let before : List Bool = sweeps m rows n ms in
      let sound' = sweeps_sound n ms e sound in
      ⊎_elim
      (λ (old : get_or before i false ≡ true). sound' i lt old)
      (λ (new : any (both_marked rows before) (either_ors m (get_or rows i blank_row)) ≡ true).
      let at = any_found (both_marked rows before) (either_ors m (get_or rows i blank_row)) new in
      let both = and_parts (marked rows before at.0.content) _ at.2 in
      by_either_or at.1
      (marked_refuted before sound' at.0.content both.0)
      (marked_refuted before sound' at.0.rest both.1))
      (or_cases (get_or before i false) _ (sym (sweep_at m (both_marked rows before) rows before i (sweeps_length n ms e) lt) ∙ set))

  -- a mark that is set stays set
  sweeps_keep : (n : ℕ) (ms : List Bool) (i : ℕ) → length ms ≡ length rows → i < length rows →
      get_or ms i false ≡ true → get_or (sweeps m rows n ms) i false ≡ true
  sweeps_keep zero ms i e lt set = set
  sweeps_keep (suc n) ms i e lt set =
      sweep_at m _ rows (sweeps m rows n ms) i (sweeps_length n ms e) lt
      ∙ or_left _ _ (sweeps_keep n ms i e lt set)

-- marks that nothing changes cover every refuted row
swept_complete : (m : Machine) (rows : List Row) (ms : List Bool) → Sided m rows → Swept m rows ms →
    {r : Row} → Refuted m r → (i : ℕ) → i < length rows → get_or rows i blank_row ≡ r → get_or ms i false ≡ true
swept_complete m rows ms sided swept (by_empty e) i lt at = (swept i lt).0 (ap (inconsistent m) at ∙ e)
swept_complete m rows ms sided swept (by_either_or {r = r} {e = e} mem a b) i lt at =
    let mem' : Member e (either_ors m (get_or rows i blank_row)) = subst (λ x. Member e (either_ors m x)) (sym at) mem in
    let both = sided (get_or rows i blank_row) e (member_at rows i blank_row lt) mem' in
    let c = place_of blank_row both.0 in
    let d = place_of blank_row both.1 in
    (swept i lt).1 e mem'
    (marked_from rows ms e.content c.0 c.1 c.2 (swept_complete m rows ms sided swept a c.0 c.1 c.2))
    (marked_from rows ms e.rest d.0 d.1 d.2 (swept_complete m rows ms sided swept b d.0 d.1 d.2))

-- Marks that are sound and that no sweep changes are right: however they were found.
pub swept_right : (m : Machine) (rows : List Row) (ms : List Bool) → Sided m rows → length ms ≡ length rows →
    ((i : ℕ) → i < length rows → get_or ms i false ≡ true → Refuted m (get_or rows i blank_row)) →
    Swept m rows ms → Right m rows ms
swept_right m rows ms sided long sound swept =
    (long, sound, λ i lt ref. swept_complete m rows ms sided swept ref i lt refl)

pub marks_right : (m : Machine) (rows : List Row) → Sided m rows → Right m rows (marks m rows)
unfolding marks Sound
marks_right m rows sided = swept_right m rows last sided (sweeps_length m rows (length rows) first long)
    (sweeps_sound m rows (length rows) first long (λ i lt e. by_empty (sym (at_first i lt) ∙ e)))
    (λ i lt. (
      λ e. sweeps_keep m rows (length rows) first i long lt (at_first i lt ∙ e),
      λ e mem c d. ap (λ ms. get_or ms i false) (sym (settled m rows first long))
          ∙ sweep_at m _ rows last i (sweeps_length m rows (length rows) first long) lt
          ∙ or_right (get_or last i false) _ (any_from (both_marked rows last) mem (and_from _ _ c d)),
    ))
  where
    first : List Bool
    first = map (inconsistent m) rows

    last : List Bool
    last = sweeps m rows (length rows) first

    long : length first ≡ length rows
    long = length-map rows (inconsistent m)

    at_first : (i : ℕ) → i < length rows → get_or first i false ≡ inconsistent m (get_or rows i blank_row)
    at_first i lt = get_or-map (inconsistent m) rows i blank_row false lt
