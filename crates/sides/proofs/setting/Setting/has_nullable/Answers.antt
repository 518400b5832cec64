use Rattle.std.proofs.Common.{rules, tests, ◌≡◌, ℕ, ◌&&◌, refl, ap, ◌∙◌, arith}
use Rattle.std.specs.List.{list_any, range_with_len}
use Rattle.std.proofs.lemmas.Iterator.{YieldsList-from_range}
use Rattle.std.proofs.lemmas.Iterator.Search.{any_from_yields_List}
use Rattle.model.specs.Sets.{has}
use Rattle.model.specs.Machine.{states_of, nullable_at}
use Rattle.theory.specs.Count.{some}
use Rattle.theory.specs.Inequality.{some_nullable}
use Rattle.sides.proofs.Some.{some_below}
use Rattle.sides.proofs.setting.Setting.has_nullable.Goals as goal

pub returns : goal.returns
unfolding some_nullable
returns c =
    let p = λ (q : ℕ). has c.args.set.now.bits q && nullable_at (states_of c.args.self.now.machine.now) q in
    let any : c.any.result ≡ list_any p (range_with_len 0 c.count.result) =
    any_from_yields_List p _ _ c.any.result c.any.ensures.ran (YieldsList-from_range 0 c.count.result c.count.result refl (omega arith)) (λ x b q k. search (rules, tests)) in
    any ∙ some_below p c.count.result ∙ ap (λ n. some n p) c.count.ensures
