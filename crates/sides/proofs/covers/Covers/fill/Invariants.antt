use Rattle.std.proofs.Common.{◌≡◌, map, length, vec_items}
use Rattle.std.specs.List.{range_with_len}
use Rattle.sides.proofs.covers.Covers.fill.Given as goal

abbrev pub invariant-loop-h : goal.invariant-loop-h
invariant-loop-h g l = map vec_items (vec_items l.table) ≡ map (λ h. map (g.R.Relation.covered l.relation l.names h) (range_with_len 0 (length l.names))) (range_with_len 0 l.h)
