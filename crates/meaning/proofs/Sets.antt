-- Sets as numbers: what an insertion leaves in a set, and the set of the states that pass a test.
use Rattle.std.proofs.Common.{◌≡◌, ℕ, zero, suc, ◌+◌, ◌-◌, ◌/◌, ◌%◌, ◌^◌, ◌<◌, ◌≤◌, Bool, true, false, cond, ◌&&◌, ◌||◌, eqb, ltb, ◌⊎◌, sym, refl, ap, ◌∙◌, inl, inr, ⊎_elim, pow-suc, add-one, arith}
use native.Mathlib.Nat.{div-eq_of_lt, div_self, mul-mod_left}
use lib.Bits.{bit_or, or_shr, or_mod}
use Rattle.std.proofs.lemmas.Nat.{pow-add, pow_pos, pow_below, shl-shr, mod_below}
use Rattle.std.proofs.lemmas.Bool.{cases_eq, cases_lt, cond-true, and_right, or_from, or_right, eq-eqb, ne_eqb, lt-ltb}
use Rattle.model.specs.Sets.{has, insert}
use Rattle.meaning.specs.Tables.{gather}

-- the bits above and below the one that is set in 2 ^ q are not set
above : (q p : ℕ) → q < p → (2 ^ q / 2 ^ p) % 2 ≡ 0
above q p lt = ap (λ n. n % 2) (div-eq_of_lt (pow_below q p lt))

below : (q p : ℕ) → p < q → (2 ^ q / 2 ^ p) % 2 ≡ 0
below q p lt =
    let k : ℕ = q - (p + 1) in
    let at : q ≡ suc k + p = omega arith in
    ap (λ n. (2 ^ n / 2 ^ p) % 2) at
    ∙ ap (λ n. (n / 2 ^ p) % 2) (pow-add 2 (suc k) p)
    ∙ ap (λ n. n % 2) (shl-shr (2 ^ suc k) p)
    ∙ ap (λ n. n % 2) (pow-suc 2 k)
    ∙ mul-mod_left (2 ^ k) 2

-- the bit p of the number whose bit q alone is set
single : (q p : ℕ) → eqb ((2 ^ q / 2 ^ p) % 2) 1 ≡ eqb p q
single q p = ⊎_elim
    (λ (e : p ≡ q). ap (λ n. eqb (n % 2) 1) (ap (λ k. 2 ^ q / 2 ^ k) e ∙ div_self (pow_pos q))
    ∙ sym (eq-eqb p q e))
    (λ (ne : p ≡ q → ⊥). ⊎_elim
    (λ (lt : p < q). ap (λ n. eqb n 1) (below q p lt) ∙ sym (ne_eqb p q ne))
    (λ (le : q ≤ p). ap (λ n. eqb n 1) (above q p (omega arith)) ∙ sym (ne_eqb p q ne))
    (cases_lt p q))
    (cases_eq p q)

digits : (a b : ℕ) → a < 2 → b < 2 → eqb (bit_or a b) 1 ≡ (eqb a 1 || eqb b 1)
digits zero zero la lb = refl
digits zero (suc zero) la lb = refl
digits (suc zero) zero la lb = refl
digits (suc zero) (suc zero) la lb = refl
digits zero (suc (suc b)) la lb = absurd (omega arith)
digits (suc zero) (suc (suc b)) la lb = absurd (omega arith)
digits (suc (suc a)) b la lb = absurd (omega arith)

or_bit : (a b p : ℕ) →
    eqb ((bit_or a b / 2 ^ p) % 2) 1 ≡ (eqb ((a / 2 ^ p) % 2) 1 || eqb ((b / 2 ^ p) % 2) 1)
or_bit a b p =
    ap (λ n. eqb (n % 2) 1) (or_shr a b p)
    ∙ ap (λ n. eqb n 1) (or_mod (a / 2 ^ p) (b / 2 ^ p) 1)
    ∙ digits _ _ (mod_below (a / 2 ^ p) 2 (omega arith)) (mod_below (b / 2 ^ p) 2 (omega arith))

both_or : (c x y : Bool) → (c && (x || y)) ≡ ((c && x) || (c && y))
both_or true x y = refl
both_or false x y = refl

-- what an insertion leaves in a set
pub has_insert : (s q p : ℕ) → q < 128 → has (insert s q) p ≡ (has s p || eqb p q)
has_insert s q p lt =
    ap (λ n. has n p) (cond-true (ltb q 128) (bit_or s (2 ^ q)) s (lt-ltb q 128 lt))
    ∙ ap (λ b. ltb p 128 && b) (or_bit s (2 ^ q) p ∙ ap (λ b. eqb ((s / 2 ^ p) % 2) 1 || b) (single q p))
    ∙ both_or (ltb p 128) (eqb ((s / 2 ^ p) % 2) 1) (eqb p q)
    ∙ ap (λ b. has s p || b) (small (cases_eq p q))
  where
    small : (p ≡ q) ⊎ (p ≡ q → ⊥) → (ltb p 128 && eqb p q) ≡ eqb p q
    small (inl e) = ap (λ b. b && eqb p q) (ap (λ k. ltb k 128) e ∙ lt-ltb q 128 lt)
    small (inr ne) = ap (λ b. ltb p 128 && b) (ne_eqb p q ne) ∙ and_right (ltb p 128) false refl ∙ sym (ne_eqb p q ne)

-- nothing is in the empty set
pub has_none : (p : ℕ) → has 0 p ≡ false
has_none p = and_right (ltb p 128) _ (ap (λ n. eqb (n % 2) 1) (div-eq_of_lt (pow_pos p)))

-- no state from n on is in the set that was gathered below n
pub gather_past : (n : ℕ) (p : ℕ → Bool) (q : ℕ) → n ≤ 128 → n ≤ q → has (gather n p) q ≡ false
gather_past zero p q le past = has_none q
gather_past (suc n) p q le past = go (p n) (gather_past n p q (omega arith) (omega arith))
  where
    go : (b : Bool) → has (gather n p) q ≡ false →
        has (cond b (insert (gather n p) n) (gather n p)) q ≡ false
    go true rec = has_insert (gather n p) n q (omega arith)
        ∙ or_from _ _ rec (ne_eqb q n (λ (e : q ≡ n). omega arith))
    go false rec = rec

-- a state below n is in that set when it passes
pub gather_below : (n : ℕ) (p : ℕ → Bool) (q : ℕ) → n ≤ 128 → q < n → has (gather n p) q ≡ p q
gather_below zero p q le lt = absurd (omega arith)
gather_below (suc n) p q le lt =
    go (p n) refl (cases_eq q n) (λ lower. gather_below n p q (omega arith) lower)
  where
    or_off : (a b : Bool) → b ≡ false → (a || b) ≡ a
    or_off true b e = refl
    or_off false b e = e

    go : (b : Bool) → p n ≡ b → (q ≡ n) ⊎ (q ≡ n → ⊥) → (q < n → has (gather n p) q ≡ p q) →
        has (cond b (insert (gather n p) n) (gather n p)) q ≡ p q
    go true e (inl here) rec = has_insert (gather n p) n q (omega arith)
        ∙ or_right _ _ (eq-eqb q n here) ∙ sym e ∙ ap p (sym here)
    go true e (inr other) rec = has_insert (gather n p) n q (omega arith)
        ∙ or_off _ _ (ne_eqb q n other) ∙ rec (omega arith)
    go false e (inl here) rec = gather_past n p q (omega arith) (omega arith) ∙ sym e ∙ ap p (sym here)
    go false e (inr other) rec = rec (omega arith)

-- the set after one more state
pub gather_more : (n : ℕ) (p : ℕ → Bool) →
    gather (n + 1) p ≡ cond (p n) (insert (gather n p) n) (gather n p)
gather_more n p = ap (λ k. gather k p) (add-one n)
