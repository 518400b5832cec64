-- Sets as numbers: what is in a set after an insertion, and numbers with chosen bits.
use Rattle.std.proofs.Common.{◌≡◌, ℕ, zero, suc, ◌+◌, ◌-◌, ◌*◌, ◌/◌, ◌%◌, ◌^◌, ◌<◌, ◌≤◌, Bool, true, false, cond, ◌&&◌, ◌||◌, eqb, ltb, ◌⊎◌, sym, refl, ap, ◌∙◌, inl, inr, ⊎_elim, pow-suc, arith, pow-add}
use native.Mathlib.Nat.{div-eq_of_lt, div_self, mul-mod_left, add-mul-div_right, add-mul-mod_self_right}
use lib.Bits.{bit_or, or_shr, or_mod}
use lib.Pow.{high}
use Rattle.std.proofs.lemmas.Nat.{pow_pos, pow_below, shl-shr, mod_below}
use Rattle.std.proofs.lemmas.Bool.{cases_lt, cases_eq, cond-true, and_right, eq-eqb, ne_eqb, lt-ltb}
use Rattle.model.specs.Sets.{has, insert}
use Rattle.theory.specs.Inequality.{bit}

-- the bits above and below the one that is set in 2 ^ q are not set
above : (q p : ℕ) → q < p → (2 ^ q / 2 ^ p) % 2 ≡ 0
above q p lt = ap (λ n. n % 2) (div-eq_of_lt (pow_below q p lt))

below : (q p : ℕ) → p < q → (2 ^ q / 2 ^ p) % 2 ≡ 0
below q p lt =
    let k : ℕ = q - (p + 1) in
    let at : q ≡ suc k + p = omega arith in
    ap (λ n. (2 ^ n / 2 ^ p) % 2) at
    ∙ ap (λ n. (n / 2 ^ p) % 2) (pow-add 2 (suc k) p)
    ∙ ap (λ n. n % 2) (shl-shr (2 ^ suc k) p)
    ∙ ap (λ n. n % 2) (pow-suc 2 k)
    ∙ mul-mod_left (2 ^ k) 2

itself : (q : ℕ) → (2 ^ q / 2 ^ q) % 2 ≡ 1
itself q = ap (λ n. n % 2) (div_self (pow_pos q))

-- the bit p of the number whose bit q alone is set
single : (q p : ℕ) → eqb ((2 ^ q / 2 ^ p) % 2) 1 ≡ eqb p q
single q p = ⊎_elim
    (λ (e : p ≡ q). ap (λ n. eqb n 1) (ap (λ k. (2 ^ q / 2 ^ k) % 2) e ∙ itself q) ∙ sym (eq-eqb p q e))
    (λ (ne : p ≡ q → ⊥). ⊎_elim
    (λ (lt : p < q). ap (λ n. eqb n 1) (below q p lt) ∙ sym (ne_eqb p q ne))
    (λ (le : q ≤ p). ap (λ n. eqb n 1) (above q p (omega arith)) ∙ sym (ne_eqb p q ne))
    (cases_lt p q))
    (cases_eq p q)

-- a digit that is the greater of two
digits : (a b : ℕ) → a < 2 → b < 2 → eqb (bit_or a b) 1 ≡ (eqb a 1 || eqb b 1)
digits zero zero la lb = refl
digits zero (suc zero) la lb = refl
digits (suc zero) zero la lb = refl
digits (suc zero) (suc zero) la lb = refl
digits zero (suc (suc b)) la lb = absurd (omega arith)
digits (suc zero) (suc (suc b)) la lb = absurd (omega arith)
digits (suc (suc a)) b la lb = absurd (omega arith)

or_bit : (a b p : ℕ) → eqb ((bit_or a b / 2 ^ p) % 2) 1 ≡ (eqb ((a / 2 ^ p) % 2) 1 || eqb ((b / 2 ^ p) % 2) 1)
or_bit a b p =
    ap (λ n. eqb (n % 2) 1) (or_shr a b p)
    ∙ ap (λ n. eqb n 1) (or_mod (a / 2 ^ p) (b / 2 ^ p) 1)
    ∙ digits _ _ (mod_below (a / 2 ^ p) 2 (omega arith)) (mod_below (b / 2 ^ p) 2 (omega arith))

both_or : (c x y : Bool) → (c && (x || y)) ≡ ((c && x) || (c && y))
both_or true x y = refl
both_or false x y = refl

-- what an insertion leaves in a set
pub has_insert : (s q p : ℕ) → q < 128 → has (insert s q) p ≡ (has s p || eqb p q)
has_insert s q p lt =
    ap (λ n. has n p) (cond-true (ltb q 128) (bit_or s (2 ^ q)) s (lt-ltb q 128 lt))
    ∙ ap (λ b. ltb p 128 && b) (or_bit s (2 ^ q) p ∙ ap (λ b. eqb ((s / 2 ^ p) % 2) 1 || b) (single q p))
    ∙ both_or (ltb p 128) (eqb ((s / 2 ^ p) % 2) 1) (eqb p q)
    ∙ ap (λ b. has s p || b) (small (cases_eq p q))
  where
    small : (p ≡ q) ⊎ (p ≡ q → ⊥) → (ltb p 128 && eqb p q) ≡ eqb p q
    small (inl e) = ap (λ b. b && eqb p q) (ap (λ k. ltb k 128) e ∙ lt-ltb q 128 lt)
    small (inr ne) = ap (λ b. ltb p 128 && b) (ne_eqb p q ne) ∙ and_right (ltb p 128) false refl ∙ sym (ne_eqb p q ne)

-- nothing is in the empty set
pub has_none : (p : ℕ) → has 0 p ≡ false
has_none p = and_right (ltb p 128) _ (ap (λ n. eqb (n % 2) 1) (div-eq_of_lt (pow_pos p)))

-- the number whose bits below n are told by f
abbrev pub mask : (ℕ → Bool) → ℕ → ℕ
mask f zero = 0
mask f (suc n) = cond (f n) (1 * 2 ^ n + mask f n) (mask f n)

pub mask_below : (f : ℕ → Bool) (n : ℕ) → mask f n < 2 ^ n
mask_below f zero = omega arith
mask_below f (suc n) = go (f n) (mask_below f n)
  where
    go : (b : Bool) → mask f n < 2 ^ n → cond b (1 * 2 ^ n + mask f n) (mask f n) < 2 ^ suc n
    go true lt = omega (arith, pow-suc 2 n)
    go false lt = omega (arith, pow-suc 2 n)

-- a higher power of two changes no lower bit
higher : (x n i : ℕ) → i < n → bit (1 * 2 ^ n + x) i ≡ bit x i
higher x n i lt =
    let k : ℕ = n - (i + 1) in
    let at : n ≡ suc k + i = omega arith in
    let parts : 2 ^ n ≡ 2 ^ suc k * 2 ^ i = ap (λ j. 2 ^ j) at ∙ pow-add 2 (suc k) i in
    let sum : 1 * 2 ^ n + x ≡ x + 2 ^ suc k * 2 ^ i = omega arith in
    ap (λ j. eqb (j / 2 ^ i % 2) 1) sum
    ∙ ap (λ j. eqb (j % 2) 1) (add-mul-div_right x (2 ^ suc k) (pow_pos i))
    ∙ ap (λ j. eqb ((x / 2 ^ i + j) % 2) 1) (pow-suc 2 k)
    ∙ ap (λ j. eqb j 1) (add-mul-mod_self_right (x / 2 ^ i) (2 ^ k) 2)

pub bit_mask : (f : ℕ → Bool) (n i : ℕ) → i < n → bit (mask f n) i ≡ f i
bit_mask f zero i lt = absurd (omega arith)
bit_mask f (suc n) i lt = go (bit_mask f n) (f n) refl (cases_eq i n)
  where
    go : ((i : ℕ) → i < n → bit (mask f n) i ≡ f i) → (b : Bool) → f n ≡ b →
        (i ≡ n) ⊎ (i ≡ n → ⊥) → bit (cond b (1 * 2 ^ n + mask f n) (mask f n)) i ≡ f i
    go rec true e (inl here) =
        ap (bit (1 * 2 ^ n + mask f n)) here ∙ ap (λ j. eqb (j % 2) 1) (high 1 n (mask_below f n))
        ∙ sym e ∙ ap f (sym here)
    go rec false e (inl here) =
        ap (bit (mask f n)) here ∙ ap (λ j. eqb (j % 2) 1) (div-eq_of_lt (mask_below f n))
        ∙ sym e ∙ ap f (sym here)
    go rec true e (inr not_here) =
        let lower : i < n = omega arith in higher (mask f n) n i lower ∙ rec i lower
    go rec false e (inr not_here) = rec i (omega arith)
