-- Numbers that are read from a list by `get`.
use Rattle.std.proofs.Common.{◌≡◌, ℕ, ◌<◌, ◌≤◌, Some, None, Option}
use Rattle.std.specs.Borrow.{Bor}
use Rattle.std.specs.Option.{MatchOption, option_map}

-- a number that was read stands within the list
pub within : (r : Option (Bor ℕ)) (n c x : ℕ) (P : Bor ℕ → Type 0) → MatchOption r (n ≤ c) (λ y. (c < n) × P y) →
    Some x ≡ option_map (λ y. y.now) r → c < n
within None n c x P m e = absurd cc
within (Some y) n c x P m e = m.0

-- where none was read, the list is shorter
pub past : (r : Option (Bor ℕ)) (n c : ℕ) (P : Bor ℕ → Type 0) → MatchOption r (n ≤ c) P → None ≡ option_map (λ y. y.now) r → n ≤ c
past None n c P m e = m
past (Some y) n c P m e = absurd cc
