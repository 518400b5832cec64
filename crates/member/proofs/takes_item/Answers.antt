use Rattle.std.proofs.Common.{Bool, ◌&&◌, ap, ◌∙◌, rules, tests}
use Rattle.std.specs.List.{list_any}
use Rattle.std.proofs.lemmas.Iterator.{YieldsList-from_slice}
use Rattle.std.proofs.lemmas.Iterator.Search.{any_from_yields_List}
use Rattle.model.specs.Machine.{Derivative, derivatives_at}
use Rattle.model.specs.Sets.{has}
use Rattle.theory.specs.Machine.{Machine}
use Rattle.theory.specs.Inequality.{no_derivative}
use Rattle.meaning.specs.Tables.{takes, allows}
use Rattle.sides.proofs.Some.{some_of}
use Rattle.sides.specs.View.{seen}
use Rattle.member.proofs.takes_item.Goals as goal

pub returns : goal.returns
unfolding takes allows
returns c =
    let m : Machine = seen c.args.setting.now in
    let test : Derivative → Bool = λ d. m.covers d.0 c.args.t && (has c.args.inside.bits d.1 && has c.args.following.bits d.2) in
    any_from_yields_List test _ _ c.any.result c.any.ensures.ran (YieldsList-from_slice c.derivatives-derivatives.result.now cc) (λ x b q k. search (rules, tests))
    ∙ ap (list_any test) c.derivatives-derivatives.ensures
    ∙ some_of test (derivatives_at m.states c.args.q) no_derivative
