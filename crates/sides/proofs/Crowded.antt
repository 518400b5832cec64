-- Whether an inequality is wide, name by name.
use Rattle.std.proofs.Common.{◌≡◌, ℕ, ◌<◌, ◌≤◌, Bool, true, false, ◌&&◌, ltb, length, sym, ◌∙◌, ⊎_elim}
use Rattle.std.proofs.lemmas.Bool.{false≢true, and_from, cases_Bool, ltb-false}
use Rattle.model.specs.declared.rows.Row.{Row}
use Rattle.theory.specs.Machine.{Machine}
use Rattle.theory.specs.Count.{some}
use Rattle.theory.specs.Inequality.{derivative, derivative_count, pairs, wide}
use Rattle.sides.specs.Steps.{labelled_by}
use Rattle.sides.proofs.Some.{some_at, some_and, some_same}

-- the left has a derivative under t, and the right more than eight pairs
abbrev pub crowded_under : Machine → Row → ℕ → Bool
crowded_under m r t = labelled_by m r.left t && ltb 8 (length (pairs m t r.right.bits))

pub wide_is : (m : Machine) (r : Row) → wide m r ≡ some m.names (crowded_under m r)
unfolding wide
wide_is m r = some_same m.names _ _ (λ t.
    some_and (derivative_count m r.left) (λ i. m.covers (derivative m r.left i).0 t) (ltb 8 (length (pairs m t r.right.bits))))

-- an inequality that is not wide has few pairs under each name of its left
pub few_pairs : (m : Machine) (r : Row) (t : ℕ) → wide m r ≡ false → t < m.names → labelled_by m r.left t ≡ true →
    length (pairs m t r.right.bits) ≤ 8
few_pairs m r t narrow lt has_label = ⊎_elim
    (λ (many : ltb 8 (length (pairs m t r.right.bits)) ≡ true).
    elim (false≢true (sym narrow ∙ wide_is m r ∙ some_at (crowded_under m r) t m.names lt (and_from _ _ has_label many))) [ ])
    (λ few. ltb-false 8 (length (pairs m t r.right.bits)) few)
    (cases_Bool (ltb 8 (length (pairs m t r.right.bits))))
