-- How the pairs of rules are settled.
use Rattle.std.specs.Prelude.{ℕ, ◌+◌, ◌*◌, cond, ◌&&◌, List, None, vec_items, Option, ◌==◌, nat_lt, slice_index_or}
use Rattle.model.specs.declared.verdict.Verdict.{Verdict}
use Rattle.ledger.specs.declared.table.Ledger.{Ledger}

-- how a pair is settled: by a verdict, or not yet
abbrev pub Settled : Type 0
Settled = Option Verdict

-- what a pair is before anything settled it
abbrev pub unsettled : Settled
unsettled = None

-- the pair of the rules a and b in a table of 32 rows of 32 pairs
abbrev pub place : List Settled → ℕ → ℕ → Settled
place pairs a b = cond (nat_lt a 32 && nat_lt b 32) (slice_index_or pairs (a * 32 + b) None) None

-- how the pair of the rules a and b is settled
abbrev pub at : Ledger → ℕ → ℕ → Settled
at l a b = place (vec_items l.pairs) a b

-- the pairs once that of a and b has the verdict v: all others as before
abbrev pub enters : (ℕ → ℕ → Settled) → ℕ → ℕ → Settled → ℕ → ℕ → Settled
enters before a b v c d = cond (nat_lt a 32 && nat_lt b 32 && c == a && d == b) v (before c d)
