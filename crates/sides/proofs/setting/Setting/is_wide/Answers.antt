use Rattle.std.proofs.Common.{rules, tests, ◌≡◌, sym, refl, ap, ◌∙◌, arith}
use Rattle.std.specs.List.{list_any, range_with_len}
use Rattle.std.proofs.lemmas.Iterator.{YieldsList-from_range}
use Rattle.std.proofs.lemmas.Iterator.Search.{any_from_yields_List}
use Rattle.theory.specs.Count.{some}
use Rattle.sides.specs.View.{seen}
use Rattle.sides.proofs.Some.{some_below}
use Rattle.sides.proofs.Crowded.{crowded_under, wide_is}
use Rattle.sides.proofs.setting.Setting.is_wide.Goals as goal

pub returns : goal.returns
returns c =
    let m = seen c.args.self.now in
    let p = crowded_under m c.args.row.now in
    let any : c.any.result ≡ list_any p (range_with_len 0 c.names.result) =
    any_from_yields_List p _ _ c.any.result c.any.ensures.ran (YieldsList-from_range 0 c.names.result c.names.result refl (omega arith)) (λ x b q k. search (rules, tests)) in
    any ∙ some_below p c.names.result ∙ ap (λ n. some n p) c.names.ensures ∙ sym (wide_is m c.args.row.now)
