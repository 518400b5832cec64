-- Chains of the rows of a sheet by a hash, so that a row is found among few.
use Rattle.std.specs.Prelude.{◌≡◌, ℕ, zero, suc, ◌+◌, ◌*◌, ◌/◌, ◌%◌, ◌<◌, ◌≤◌, Bool, cond, List, length, Some, None, Option, nat_eq, slice_index_or}
use Rattle.model.specs.declared.rows.Row.{Row}
use Rattle.model.specs.Blank.{blank_row}
use Rattle.gaps.specs.declared.chains.TheConstants.{WORD, UPPER, LEFT, SPREAD, UPPER_BITS}
use Rattle.gaps.specs.declared.grounds.TheConstants.{CHAINS, ROOM}

-- a number kept within 64 bits
abbrev pub wrapped : ℕ → ℕ
wrapped n = n % WORD

-- the words of a set, as one number
abbrev pub mixed_set : ℕ → ℕ
mixed_set s = wrapped (s % WORD + wrapped (s / WORD * UPPER))

-- the chain that a row is in: a hash of its left state and its right set
unfoldable pub slot_of : Row → ℕ
slot_of r = wrapped (wrapped (mixed_set r.right.bits + wrapped (r.left * LEFT)) * SPREAD) / UPPER_BITS % CHAINS

-- the chain of the row number i
abbrev pub slot_at : List Row → ℕ → ℕ
slot_at rows i = slot_of (slice_index_or rows i blank_row)

-- the last number below n that passes p
abbrev pub last : ℕ → (ℕ → Bool) → Option ℕ
last zero p = None
last (suc n) p = cond (p n) (Some n) (last n p)

-- each chain's head is the last of the first n rows that is in the chain
abbrev pub Heads : List Row → ℕ → List (Option ℕ) → Type 0
Heads rows n heads = (h : ℕ) → h < CHAINS → slice_index_or heads h None ≡ last n (λ i. nat_eq (slot_at rows i) h)

-- each row's link is the row before it in its chain
abbrev pub Links : List Row → ℕ → List (Option ℕ) → Type 0
Links rows n links = (j : ℕ) → j < n → slice_index_or links j None ≡ last j (λ i. nat_eq (slot_at rows i) (slot_at rows j))

-- all rows are in their chains, unless there are more than have room
abbrev pub Headed : List Row → List (Option ℕ) → Type 0
Headed rows heads = length rows ≤ ROOM → Heads rows (length rows) heads

abbrev pub Linked : List Row → List (Option ℕ) → Type 0
Linked rows links = length rows ≤ ROOM → Links rows (length rows) links
