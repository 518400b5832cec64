-- What is on the sides of an either-or, and which either-ors an inequality has.
use Rattle.std.proofs.Common.{◌≡◌, ℕ, zero, suc, ◌^◌, ◌<◌, Bool, true, false, cond, eqb, ◌⊎◌, List, [], length, get_or, sym, refl, ap, ◌∙◌, inl, inr, ⊎_elim, arith}
use Rattle.std.proofs.lemmas.Bool.{cases_eq, or_cases, or_left, or_right, and_from, and_parts, eqb-true, eq-eqb, false≢true}
use Rattle.model.specs.declared.rows.Row.{Row}
use Rattle.model.specs.Sets.{has, insert}
use Rattle.theory.specs.Machine.{Machine}
use Rattle.theory.specs.Inequality.{Pair, same_pair, bit, contents, rests, derivative, derivative_count, pairs_of, all_pairs, pairs, either_or, of_derivative, of_name, either_ors, EitherOr, Member, here}
use Rattle.inequality.proofs.Bits.{has_insert, has_none}
use Rattle.inequality.proofs.Lists.{Tells, member_each, each_member, member_when, when_member, member_one, entered_from, entered_new}

-- the content of the pair number i
abbrev pub content_of : List Pair → ℕ → ℕ
content_of ps i = (get_or ps i (0, 0)).0

-- the rest of the pair number i
abbrev pub rest_of : List Pair → ℕ → ℕ
rest_of ps i = (get_or ps i (0, 0)).1

-- a state is among the contents exactly when it is the content of a pair whose bit is set
pub contents_found : (ps : List Pair) (k n q : ℕ) → ((i : ℕ) → i < n → content_of ps i < 128) →
    has (contents ps k n) q ≡ true → (i : ℕ) × (i < n) × (bit k i ≡ true) × (content_of ps i ≡ q)
contents_found ps k zero q small e = elim (false≢true (sym (has_none q) ∙ e)) [ ]
contents_found ps k (suc n) q small e = go (contents_found ps k n q (λ i lt. small i (omega arith))) (bit k n) refl e
  where
    Found : ℕ → Type 0
    Found n = (i : ℕ) × (i < n) × (bit k i ≡ true) × (content_of ps i ≡ q)

    more : Found n → Found (suc n)
    more at = (at.0, omega (arith, at.1), at.2, at.3)

    go : (has (contents ps k n) q ≡ true → Found n) → (b : Bool) → bit k n ≡ b →
        has (cond b (insert (contents ps k n) (content_of ps n)) (contents ps k n)) q ≡ true → Found (suc n)
    go rec false is e = more (rec e)
    go rec true is e = ⊎_elim
        (λ (old : has (contents ps k n) q ≡ true). more (rec old))
        (λ (new : eqb q (content_of ps n) ≡ true). (n, omega arith, is, sym (eqb-true q (content_of ps n) new)))
        (or_cases _ _ (sym (has_insert (contents ps k n) (content_of ps n) q (small n (omega arith))) ∙ e))

pub contents_from : (ps : List Pair) (k n i : ℕ) → ((i : ℕ) → i < n → content_of ps i < 128) →
    i < n → bit k i ≡ true → has (contents ps k n) (content_of ps i) ≡ true
contents_from ps k zero i small lt is = absurd (omega arith)
contents_from ps k (suc n) i small lt is =
    go (contents_from ps k n i (λ j lj. small j (omega arith))) (bit k n) refl (cases_eq i n)
  where
    q : ℕ
    q = content_of ps i

    go : (i < n → bit k i ≡ true → has (contents ps k n) q ≡ true) → (b : Bool) → bit k n ≡ b →
        (i ≡ n) ⊎ (i ≡ n → ⊥) →
        has (cond b (insert (contents ps k n) (content_of ps n)) (contents ps k n)) q ≡ true
    go rec false no' (inl at) = elim (false≢true (sym no' ∙ ap (bit k) (sym at) ∙ is)) [ ]
    go rec false no' (inr ne) = rec (omega arith) is
    go rec true is_n (inl at) = has_insert (contents ps k n) (content_of ps n) q (small n (omega arith))
        ∙ or_right _ _ (eq-eqb q (content_of ps n) (ap (content_of ps) at))
    go rec true is_n (inr ne) = has_insert (contents ps k n) (content_of ps n) q (small n (omega arith))
        ∙ or_left _ _ (rec (omega arith) is)

-- a state is among the rests exactly when it is the rest of a pair whose bit is not set
pub rests_found : (ps : List Pair) (k n q : ℕ) → ((i : ℕ) → i < n → rest_of ps i < 128) →
    has (rests ps k n) q ≡ true → (i : ℕ) × (i < n) × (bit k i ≡ false) × (rest_of ps i ≡ q)
rests_found ps k zero q small e = elim (false≢true (sym (has_none q) ∙ e)) [ ]
rests_found ps k (suc n) q small e = go (rests_found ps k n q (λ i lt. small i (omega arith))) (bit k n) refl e
  where
    Found : ℕ → Type 0
    Found n = (i : ℕ) × (i < n) × (bit k i ≡ false) × (rest_of ps i ≡ q)

    more : Found n → Found (suc n)
    more at = (at.0, omega (arith, at.1), at.2, at.3)

    go : (has (rests ps k n) q ≡ true → Found n) → (b : Bool) → bit k n ≡ b →
        has (cond b (rests ps k n) (insert (rests ps k n) (rest_of ps n))) q ≡ true → Found (suc n)
    go rec true is e = more (rec e)
    go rec false is e = ⊎_elim
        (λ (old : has (rests ps k n) q ≡ true). more (rec old))
        (λ (new : eqb q (rest_of ps n) ≡ true). (n, omega arith, is, sym (eqb-true q (rest_of ps n) new)))
        (or_cases _ _ (sym (has_insert (rests ps k n) (rest_of ps n) q (small n (omega arith))) ∙ e))

pub rests_from : (ps : List Pair) (k n i : ℕ) → ((i : ℕ) → i < n → rest_of ps i < 128) →
    i < n → bit k i ≡ false → has (rests ps k n) (rest_of ps i) ≡ true
rests_from ps k zero i small lt is = absurd (omega arith)
rests_from ps k (suc n) i small lt is =
    go (rests_from ps k n i (λ j lj. small j (omega arith))) (bit k n) refl (cases_eq i n)
  where
    q : ℕ
    q = rest_of ps i

    go : (i < n → bit k i ≡ false → has (rests ps k n) q ≡ true) → (b : Bool) → bit k n ≡ b →
        (i ≡ n) ⊎ (i ≡ n → ⊥) →
        has (cond b (rests ps k n) (insert (rests ps k n) (rest_of ps n))) q ≡ true
    go rec true set (inl at) = elim (false≢true (sym is ∙ ap (bit k) at ∙ set)) [ ]
    go rec true set (inr ne) = rec (omega arith) is
    go rec false unset (inl at) = has_insert (rests ps k n) (rest_of ps n) q (small n (omega arith))
        ∙ or_right _ _ (eq-eqb q (rest_of ps n) (ap (rest_of ps) at))
    go rec false unset (inr ne) = has_insert (rests ps k n) (rest_of ps n) q (small n (omega arith))
        ∙ or_left _ _ (rec (omega arith) is)

-- the test on pairs tells equal pairs
pub tells_pair : Tells same_pair
tells_pair = record {
  equal = λ a b e. let p = and_parts (eqb a.0 b.0) _ e in
      (λ i. (eqb-true a.0 b.0 p.0 i, eqb-true a.1 b.1 p.1 i));
  itself = λ a. and_from _ _ (eq-eqb a.0 a.0 refl) (eq-eqb a.1 a.1 refl);
}

-- The pairs under a name t of a set s are exactly the contents and rests of the derivatives of its
-- states whose label covers t.
pub pair_found : (m : Machine) (t s : ℕ) (p : Pair) → Member p (pairs m t s) →
    (q i : ℕ) × (q < length m.states) × (has s q ≡ true) × (i < derivative_count m q)
    × (m.covers (derivative m q i).0 t ≡ true) × (p ≡ ((derivative m q i).1, (derivative m q i).2))
unfolding pairs all_pairs pairs_of
pair_found m t s p mem =
    ⊎_elim (λ none. elim none [ ]) (λ listed.
    let state = each_member (length m.states) _ listed in
    let at = when_member (has s state.0) _ state.2 in
    let one = each_member (derivative_count m state.0) _ at.1 in
    let covered = when_member (m.covers (derivative m state.0 one.0).0 t) _ one.2 in
    (state.0, one.0, state.1, at.0, one.1, covered.0, member_one covered.1))
    (entered_from same_pair tells_pair [] (all_pairs m t s) p mem)

pub pair_from : (m : Machine) (t s q i : ℕ) → q < length m.states → has s q ≡ true → i < derivative_count m q →
    m.covers (derivative m q i).0 t ≡ true → Member ((derivative m q i).1, (derivative m q i).2) (pairs m t s)
unfolding pairs all_pairs pairs_of
pair_from m t s q i lq in_s li covered =
    entered_new same_pair tells_pair [] (all_pairs m t s)
    (member_each (length m.states) _ q lq (member_when (has s q) (pairs_of m t q) in_s
    (member_each (derivative_count m q) _ i li (member_when (m.covers (derivative m q i).0 t) _ covered here))))

-- The either-ors of an inequality are those of each name, each derivative of the left whose label
-- covers it, and each subset of the pairs.
pub either_or_found : (m : Machine) (r : Row) (e : EitherOr) → Member e (either_ors m r) →
    (t i k : ℕ) × (t < m.names) × (i < derivative_count m r.left) × (k < 2 ^ length (pairs m t r.right.bits))
    × (m.covers (derivative m r.left i).0 t ≡ true)
    × (e ≡ either_or (derivative m r.left i) (pairs m t r.right.bits) k)
unfolding either_ors of_name of_derivative
either_or_found m r e mem =
    let name = each_member m.names _ mem in
    let der = each_member (derivative_count m r.left) _ name.2 in
    let covered = when_member (m.covers (derivative m r.left der.0).0 name.0) _ der.2 in
    let sub = each_member (2 ^ length (pairs m name.0 r.right.bits)) _ covered.1 in
    (name.0, der.0, sub.0, name.1, der.1, sub.1, covered.0, member_one sub.2)

pub either_or_from : (m : Machine) (r : Row) (t i k : ℕ) → t < m.names → i < derivative_count m r.left →
    k < 2 ^ length (pairs m t r.right.bits) → m.covers (derivative m r.left i).0 t ≡ true →
    Member (either_or (derivative m r.left i) (pairs m t r.right.bits) k) (either_ors m r)
unfolding either_ors of_name of_derivative
either_or_from m r t i k lt li lk covered =
    member_each m.names _ t lt (member_each (derivative_count m r.left) _ i li
    (member_when (m.covers (derivative m r.left i).0 t) _ covered
    (member_each (2 ^ length (pairs m t r.right.bits)) _ k lk here)))
