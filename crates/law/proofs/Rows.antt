-- Reachable inequalities are over the states of the machine.
use Rattle.std.proofs.Common.{◌≡◌, ℕ, zero, suc, ◌/◌, ◌^◌, ◌<◌, ◌≤◌, min, Bool, true, false, cond, ltb, List, length, get_or, sym, ap, ◌∙◌, subst, ⊎_elim, arith, pow_pos}
use native.Mathlib.Nat.{div-eq_of_lt}
use lib.Bits.{bit_or, or_lt}
use lib.Pow.{pow-lt}
use Rattle.std.proofs.lemmas.Bool.{cases_lt, cond-true, cond-false, lt-ltb, le-ltb, eq-eqb, and_from}
use Rattle.model.specs.declared.rows.Row.{Row}
use Rattle.model.specs.Sets.{insert}
use Rattle.theory.specs.Machine.{Machine}
use Rattle.theory.specs.Inequality.{row, Pair, bit, contents, rests, pairs, EitherOr, either_or, either_ors, Member, Reachable, at_root, by_content, by_rest}
use Rattle.meaning.proofs.Members.{member_at}
use Rattle.inequality.specs.Fits.{Fits}
use Rattle.inequality.proofs.Sides.{pair_found, either_or_found}
use Rattle.writing.specs.Checks.{row_fits}

-- a set with one state more, all below n
insert_in : (n s q : ℕ) → s < 2 ^ n → q < n → insert s q < 2 ^ n
insert_in n s q small lt = ⊎_elim
    (λ (in_set : q < 128). subst (λ k. k < 2 ^ n) (sym (cond-true (ltb q 128) (bit_or s (2 ^ q)) s (lt-ltb q 128 in_set)))
    (or_lt n s (2 ^ q) small (pow-lt lt)))
    (λ (past : 128 ≤ q). subst (λ k. k < 2 ^ n) (sym (cond-false (ltb q 128) (bit_or s (2 ^ q)) s (le-ltb q 128 past))) small)
    (cases_lt q 128)

-- the left state and all right states are below n
abbrev pub RowIn : ℕ → Row → Type 0
RowIn n r = (r.left < n) × (r.right.bits < 2 ^ n)

-- the contents of a subset
contents_in : (n : ℕ) (ps : List Pair) (k j : ℕ) → ((i : ℕ) → i < j → (get_or ps i (0, 0)).0 < n) → contents ps k j < 2 ^ n
contents_in n ps k zero small = pow_pos n
contents_in n ps k (suc j) small = go (bit k j) (contents_in n ps k j (λ i lt. small i (omega arith)))
  where
    go : (b : Bool) → contents ps k j < 2 ^ n → cond b (insert (contents ps k j) (get_or ps j (0, 0)).0) (contents ps k j) < 2 ^ n
    go true rec = insert_in n (contents ps k j) (get_or ps j (0, 0)).0 rec (small j (omega arith))
    go false rec = rec

-- the rests of what is left
rests_in : (n : ℕ) (ps : List Pair) (k j : ℕ) → ((i : ℕ) → i < j → (get_or ps i (0, 0)).1 < n) → rests ps k j < 2 ^ n
rests_in n ps k zero small = pow_pos n
rests_in n ps k (suc j) small = go (bit k j) (rests_in n ps k j (λ i lt. small i (omega arith)))
  where
    go : (b : Bool) → rests ps k j < 2 ^ n → cond b (rests ps k j) (insert (rests ps k j) (get_or ps j (0, 0)).1) < 2 ^ n
    go true rec = rec
    go false rec = insert_in n (rests ps k j) (get_or ps j (0, 0)).1 rec (small j (omega arith))

-- the pairs on the right are pairs of states
pairs_in : (m : Machine) → Fits m → (t s i : ℕ) → i < length (pairs m t s) →
    ((get_or (pairs m t s) i (0, 0)).0 < length m.states) × ((get_or (pairs m t s) i (0, 0)).1 < length m.states)
pairs_in m fits t s i lt =
    let found = pair_found m t s (get_or (pairs m t s) i (0, 0)) (member_at (pairs m t s) i (0, 0) lt) in
    let small = fits.1 found.0 found.1 found.4 in (
      subst (λ p. p.0 < length m.states) (sym found.6) small.0,
      subst (λ p. p.1 < length m.states) (sym found.6) small.1,
    )

-- both sides of an either-or are over the states
sides_in : (m : Machine) → Fits m → (r : Row) (e : EitherOr) → Member e (either_ors m r) →
    RowIn (length m.states) e.content × RowIn (length m.states) e.rest
unfolding either_or
sides_in m fits r e mem =
    let found = either_or_found m r e mem in
    let n : ℕ = length m.states in
    let ps : List Pair = pairs m found.0 r.right.bits in
    let small = fits.1 r.left found.1 found.4 in
    let within = pairs_in m fits found.0 r.right.bits in
    let P : EitherOr → Type 0 = λ x. RowIn n x.content × RowIn n x.rest in
    subst P (sym found.7) (
      (small.0, contents_in n ps found.2 (length ps) (λ i lt. (within i lt).0)),
      (small.1, rests_in n ps found.2 (length ps) (λ i lt. (within i lt).1)),
    )

-- every reachable inequality is over the states if the root is
pub reachable_in : (m : Machine) → Fits m → {root r : Row} → RowIn (length m.states) root → Reachable m root r → RowIn (length m.states) r
reachable_in m fits at at_root = at
reachable_in m fits at (by_content {r = r} {e = e} reach narrow mem) = (sides_in m fits r e mem).0
reachable_in m fits at (by_rest {r = r} {e = e} reach narrow mem) = (sides_in m fits r e mem).1

-- the root of a question is
pub root_in : (n a b : ℕ) → a < n → b < n → RowIn n (row a (insert 0 b))
root_in n a b la lb = (la, insert_in n 0 b (pow_pos n) lb)

-- such a row may be written and read
pub row_in_fits : (states : ℕ) (r : Row) → states ≤ 128 → RowIn states r → row_fits states r ≡ true
row_in_fits states r few within =
    and_from (ltb r.left states) _ (lt-ltb r.left states within.0)
    (eq-eqb _ 0 (ap (λ k. r.right.bits / 2 ^ k) (sym same) ∙ div-eq_of_lt within.1))
  where
    same : states ≡ min states 128
    same = omega arith
