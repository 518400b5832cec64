-- The contents and rests of a subset of pairs, one pair more.
use Rattle.std.proofs.Common.{◌≡◌, ℕ, ◌%◌, ◌^◌, ◌<◌, ◌≤◌, false, eqb, ap, arith, pow_mono}
use native.Mathlib.Nat.{div-eq_of_lt}
use Rattle.theory.specs.Inequality.{bit}

-- a number of 64 bits has no further bit
pub bit_past : (k i : ℕ) → k < 2 ^ 64 → 64 ≤ i → bit k i ≡ false
bit_past k i small past =
    let more = pow_mono past in
    let lt : k < 2 ^ i = omega arith in
    ap (λ n. eqb (n % 2) 1) (div-eq_of_lt lt)
