-- What shows a side of an either-or, and what a gap is.
use Rattle.std.specs.Prelude.{ℕ, Bool, true, false, not, ◌&&◌, ◌||◌, List, Some, None, ◌==◌, nat_lt}
use Rattle.model.specs.declared.rows.Row.{Row}
use Rattle.model.specs.Sets.{insert}
use Rattle.ledger.specs.Settled.{Settled}
use Rattle.model.specs.declared.verdict.Verdict.TheVariants.{Included, Excluded}
use Rattle.theory.specs.Count.{any, some}
use Rattle.theory.specs.Machine.{Machine}
use Rattle.theory.specs.Inequality.{same_row, EitherOr, either_ors}

-- a pair is settled as included
abbrev pub included? : Settled → Bool
included? None = false
included? (Some Included) = true
included? (Some Excluded) = false

-- a side is c against exactly {d}, and the pair of c and d is settled as included
abbrev pub leans_on : (ℕ → ℕ → Settled) → Row → ℕ → Bool
leans_on settled r d = included? (settled r.left d) && r.right.bits == insert 0 d

-- a side that leans on the register: so for rules c and d
unfoldable pub leans : (ℕ → ℕ → Settled) → ℕ → Row → Bool
leans settled rules r = nat_lt r.left rules && some rules (leans_on settled r)

-- a side is shown: it is a row of the sheet, or it leans on the register
unfoldable pub shown : (ℕ → ℕ → Settled) → ℕ → List Row → Row → Bool
shown settled rules rows r = any (same_row r) rows || leans settled rules r

-- an either-or neither of whose sides is shown
abbrev pub unshown : (Row → Bool) → EitherOr → Bool
unshown is_shown e = not (is_shown e.content) && not (is_shown e.rest)

-- a row has a gap: an either-or neither of whose sides is shown
unfoldable pub gap : Machine → (Row → Bool) → Row → Bool
gap m is_shown r = any (unshown is_shown) (either_ors m r)
