-- The subset rule: a witness against an inequality splits over one of its either-ors, and witnesses
-- against both sides of an either-or join to one.
use Rattle.std.proofs.Common.{◌≡◌, ℕ, ◌^◌, ◌<◌, ◌≤◌, Bool, true, false, not, ◌&&◌, List, length, sym, ap, ◌∙◌, subst, ⊎_elim, arith}
use Rattle.std.proofs.lemmas.Bool.{cases_Bool, cases_lt, and_from, and_parts, false≢true, not-true, not-false, not_from_false}
use Rattle.std.proofs.lemmas.List.{get_or_past}
use Rattle.model.specs.declared.rows.Row.{Row}
use Rattle.model.specs.Sets.{has}
use Rattle.model.specs.Machine.{Derivative, Plain, no_state, nullable_at, derivatives_at}
use Rattle.theory.specs.Hedge.{Hedge, nothing, item}
use Rattle.theory.specs.Machine.{Machine, accepts}
use Rattle.theory.specs.Count.{any}
use Rattle.theory.specs.Inequality.{Pair, bit, contents, rests, derivative, derivative_count, no_derivative, pairs, either_or, either_ors, EitherOr, Member, inconsistent, some_nullable}
use Rattle.inequality.specs.Fits.{Fits, Named, Witness, Without, SubsetRule}
use Rattle.inequality.proofs.Bits.{mask, mask_below, bit_mask}
use Rattle.inequality.proofs.Lists.{any_found, any_from, place_of, member_at, some_none, none_some}
use Rattle.inequality.proofs.Sides.{content_of, rest_of, contents_found, contents_from, rests_found, rests_from, pair_found, pair_from, either_or_found, either_or_from}

-- what does not accept, if it cannot accept
pub refused : {b : Bool} → (b ≡ true → ⊥) → b ≡ false
refused {b} none = ⊎_elim (λ yes'. elim (none yes') [ ]) (λ no'. no') (cases_Bool b)

-- an item is accepted exactly through a derivative
pub accepts_found : (m : Machine) (t : ℕ) (v w : Hedge) (q : ℕ) → accepts m (item t v w) q ≡ true →
    (i : ℕ) × (i < derivative_count m q) × (m.covers (derivative m q i).0 t ≡ true)
    × (accepts m v (derivative m q i).1 ≡ true) × (accepts m w (derivative m q i).2 ≡ true)
accepts_found m t v w q e =
    let one = any_found (λ (d : Derivative). m.covers d.0 t && (accepts m v d.1 && accepts m w d.2))
    (derivatives_at m.states q) e in
    let at = place_of no_derivative one.1 in
    let passed : (m.covers (derivative m q at.0).0 t
    && (accepts m v (derivative m q at.0).1 && accepts m w (derivative m q at.0).2)) ≡ true
    = subst (λ (d : Derivative). (m.covers d.0 t && (accepts m v d.1 && accepts m w d.2)) ≡ true) (sym at.2) one.2 in
    let label = and_parts (m.covers (derivative m q at.0).0 t) _ passed in
    let both = and_parts (accepts m v (derivative m q at.0).1) _ label.1 in
    (at.0, at.1, label.0, both.0, both.1)

pub accepts_from : (m : Machine) (t : ℕ) (v w : Hedge) (q i : ℕ) → i < derivative_count m q →
    m.covers (derivative m q i).0 t ≡ true → accepts m v (derivative m q i).1 ≡ true →
    accepts m w (derivative m q i).2 ≡ true → accepts m (item t v w) q ≡ true
accepts_from m t v w q i li covered has_v has_w =
    any_from (λ (d : Derivative). m.covers d.0 t && (accepts m v d.1 && accepts m w d.2))
    (member_at (derivatives_at m.states q) i no_derivative li)
    (and_from _ _ covered (and_from _ _ has_v has_w))

-- only a state accepts
pub accepts_state : (m : Machine) (h : Hedge) (q : ℕ) → accepts m h q ≡ true → q < length m.states
accepts_state m h q e = ⊎_elim (λ lt. lt) (λ le. elim (none h le e) [ ]) (cases_lt q (length m.states))
  where
    none : (h : Hedge) → length m.states ≤ q → accepts m h q ≡ true → ⊥
    none nothing le e = false≢true (sym (ap (λ (s : Plain). s.nullable) (get_or_past m.states q no_state le)) ∙ e)
    none (item t v w) le e = false≢true (sym (ap (λ (s : Plain).
        any (λ (d : Derivative). m.covers d.0 t && (accepts m v d.1 && accepts m w d.2)) s.derivatives)
        (get_or_past m.states q no_state le)) ∙ e)

-- the contents and rests of pairs are states, so they are below 128
pair_states : (m : Machine) → Fits m → (t s i : ℕ) → i < length (pairs m t s) →
    (content_of (pairs m t s) i < 128) × (rest_of (pairs m t s) i < 128)
pair_states m fits t s i lt =
    let from = pair_found m t s _ (member_at (pairs m t s) i (0, 0) lt) in
    let state = fits.1 from.0 from.1 from.4 in
    let few = fits.0 in
    let c : content_of (pairs m t s) i ≡ (derivative m from.0 from.1).1 = ap (λ (p : Pair). p.0) from.6 in
    let r : rest_of (pairs m t s) i ≡ (derivative m from.0 from.1).2 = ap (λ (p : Pair). p.1) from.6 in
    (omega (arith, state.0), omega (arith, state.1))

pub subset_rule : (m : Machine) → Fits m → SubsetRule m
unfolding either_or
subset_rule m fits r t i k v w li has_v has_w none chosen =
    ((has_v, on_content), (has_w, on_rest))
  where
    ps : List Pair
    ps = pairs m t r.right.bits

    on_content : (q : ℕ) → has (contents ps k (length ps)) q ≡ true → accepts m v q ≡ false
    on_content q e =
        let at = contents_found ps k (length ps) q (λ j lj. (pair_states m fits t r.right.bits j lj).0) e in
        sym (ap (accepts m v) at.3) ∙ not-true _ (sym (chosen at.0 at.1) ∙ at.2)

    on_rest : (q : ℕ) → has (rests ps k (length ps)) q ≡ true → accepts m w q ≡ false
    on_rest q e = refused (λ accepted.
        let at = rests_found ps k (length ps) q (λ j lj. (pair_states m fits t r.right.bits j lj).1) e in
        let from = pair_found m t r.right.bits _ (member_at ps at.0 (0, 0) at.1) in
        let inside : accepts m v (content_of ps at.0) ≡ true = not-false _ (sym (chosen at.0 at.1) ∙ at.2) in
        let follows : accepts m w (rest_of ps at.0) ≡ true = ap (accepts m w) at.3 ∙ accepted in
        false≢true (sym (none from.0 from.3)
        ∙ accepts_from m t v w from.0 from.1 from.4 from.5
        (ap (λ (p : Pair). accepts m v p.0) (sym from.6) ∙ inside)
        (ap (λ (p : Pair). accepts m w p.1) (sym from.6) ∙ follows)))

-- there is such a subset, among those that the either-ors go through
pub subset_without : (m : Machine) (t s : ℕ) (v : Hedge) → (k : ℕ) × (k < 2 ^ length (pairs m t s)) × Without m t s v k
subset_without m t s v =
    let f : ℕ → Bool = λ i. not (accepts m v (content_of (pairs m t s) i)) in
    (mask f (length (pairs m t s)), mask_below f (length (pairs m t s)), bit_mask f (length (pairs m t s)))

-- a witness that is an item splits over an either-or
pub witness_split : (m : Machine) → Fits m → Named m → (r : Row) (t : ℕ) (v w : Hedge) → Witness m r (item t v w) →
    (e : EitherOr) × Member e (either_ors m r) × Witness m e.content v × Witness m e.rest w
witness_split m fits named r t v w wit =
    let through = accepts_found m t v w r.left wit.0 in
    let sub = subset_without m t r.right.bits v in
    let both = subset_rule m fits r t through.0 sub.0 v w through.1 through.3 through.4 wit.1 sub.2 in (
      either_or (derivative m r.left through.0) (pairs m t r.right.bits) sub.0,
      either_or_from m r t through.0 sub.0 (named _ t through.2) through.1 sub.1 through.2,
      both.0,
      both.1,
    )

-- witnesses against both sides of the either-or of a name t, a derivative and a subset give the item
-- t of the one inside, followed by the other, for a witness against the inequality
pub witness_item : (m : Machine) → Fits m → (r : Row) (t i k : ℕ) (v w : Hedge) → i < derivative_count m r.left →
    m.covers (derivative m r.left i).0 t ≡ true →
    Witness m (either_or (derivative m r.left i) (pairs m t r.right.bits) k).content v →
    Witness m (either_or (derivative m r.left i) (pairs m t r.right.bits) k).rest w → Witness m r (item t v w)
unfolding either_or
witness_item m fits r t i k v w li covered in_content in_rest = (
  accepts_from m t v w r.left i li covered in_content.0 in_rest.0,
  λ q in_s. refused (λ accepted.
      let through = accepts_found m t v w q accepted in
      let at = place_of (0, 0) (pair_from m t s q through.0 (accepts_state m (item t v w) q accepted) in_s through.1 through.2) in
      let inside : accepts m v (content_of (pairs m t s) at.0) ≡ true = ap (λ (p : Pair). accepts m v p.0) at.2 ∙ through.3 in
      let follows : accepts m w (rest_of (pairs m t s) at.0) ≡ true = ap (λ (p : Pair). accepts m w p.1) at.2 ∙ through.4 in
      ⊎_elim
      (λ (set : bit k at.0 ≡ true). false≢true (sym (in_content.1 _
      (contents_from (pairs m t s) k (length (pairs m t s)) at.0 (λ j lj. (pair_states m fits t s j lj).0) at.1 set)) ∙ inside))
      (λ (unset : bit k at.0 ≡ false). false≢true (sym (in_rest.1 _
      (rests_from (pairs m t s) k (length (pairs m t s)) at.0 (λ j lj. (pair_states m fits t s j lj).1) at.1 unset)) ∙ follows))
      (cases_Bool (bit k at.0))),
)
  where
    s : ℕ
    s = r.right.bits

-- witnesses against both sides of an either-or join to one against the inequality
pub witness_join : (m : Machine) → Fits m → (r : Row) (e : EitherOr) → Member e (either_ors m r) → (v w : Hedge) →
    Witness m e.content v → Witness m e.rest w → (t : ℕ) × (t < m.names) × Witness m r (item t v w)
witness_join m fits r e mem v w wit_v wit_w =
    let from = either_or_found m r e mem in (
      from.0,
      from.3,
      witness_item m fits r from.0 from.1 from.2 v w from.4 from.6
          (subst (λ (x : EitherOr). Witness m x.content v) from.7 wit_v)
          (subst (λ (x : EitherOr). Witness m x.rest w) from.7 wit_w),
    )

-- the empty hedge is a witness exactly against an inconsistent inequality
pub inconsistent_witness : (m : Machine) (r : Row) → inconsistent m r ≡ true → Witness m r nothing
unfolding inconsistent some_nullable
inconsistent_witness m r e =
    let parts = and_parts (nullable_at m.states r.left) _ e in (
      parts.0,
      λ q in_s. refused (λ nullable.
          let none = some_none (length m.states) _ (not-true _ parts.1) q (accepts_state m nothing q nullable) in
          false≢true (sym none ∙ and_from _ _ in_s nullable)),
    )

pub witness_inconsistent : (m : Machine) (r : Row) → Witness m r nothing → inconsistent m r ≡ true
unfolding inconsistent some_nullable
witness_inconsistent m r wit =
    and_from _ _ wit.0 (not_from_false _ (none_some (length m.states) _ (λ q lq. refused (λ both.
    let parts = and_parts (has r.right.bits q) _ both in
    false≢true (sym (wit.1 q parts.0) ∙ parts.1)))))
