use Rattle.std.proofs.Common.{Bool, List, [], ◌∷◌, ◌++◌, map, length, vec_items, sym, ap, ◌∙◌, arith}
use Rattle.std.specs.List.{range_with_len}
use Rattle.std.proofs.lemmas.List.{map_push}
use Rattle.std.proofs.lemmas.List.FromFn.{map-range_with_len_more}
use Rattle.sides.proofs.covers.Covers.fill.Goals as goal

pub loop-h-preserved : goal.loop-h-preserved
loop-h-preserved g c =
    ap (map vec_items) c.in_ok-push.ensures.items
    ∙ map_push vec_items (vec_items c.loop-h.table) c.in_ok-covered_by.field-0
    ∙ ap (λ (l : List Bool). map vec_items (vec_items c.loop-h.table) ++ l ∷ []) c.in_ok-covered_by.ensures
    ∙ ap (λ (l : List (List Bool)). l ++ map (g.R.Relation.covered c.args.relation.now c.args.names.now c.loop-h.h) (range_with_len 0 (length c.args.names.now)) ∷ []) c.loop-h.invariant
    ∙ sym (map-range_with_len_more (λ h. map (g.R.Relation.covered c.args.relation.now c.args.names.now h) (range_with_len 0 (length c.args.names.now))) 0 c.loop-h.h c.loop-h.h (omega arith))
