-- Sets of states as numbers: bit q tells whether the state q is in the set.
use Rattle.std.specs.Prelude.{ℕ, ◌/◌, ◌%◌, ◌^◌, Bool, cond, ◌&&◌, ◌==◌, bit_or, nat_lt}

-- whether the state q is in the set s
abbrev pub has : ℕ → ℕ → Bool
has s q = nat_lt q 128 && (s / 2 ^ q) % 2 == 1

-- the set s with the state q besides
abbrev pub insert : ℕ → ℕ → ℕ
insert s q = cond (nat_lt q 128) (bit_or s (2 ^ q)) s
