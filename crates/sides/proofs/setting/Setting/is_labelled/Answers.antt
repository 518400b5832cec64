use Rattle.std.proofs.Common.{rules, tests, ◌≡◌, List, length, get_or, ap, ◌∙◌}
use Rattle.std.specs.List.{list_any}
use Rattle.std.proofs.lemmas.Iterator.{YieldsList-from_slice}
use Rattle.std.proofs.lemmas.Iterator.Search.{any_from_yields_List}
use Rattle.model.specs.Machine.{Derivative}
use Rattle.theory.specs.Count.{some}
use Rattle.theory.specs.Inequality.{no_derivative}
use Rattle.sides.specs.View.{covers_of}
use Rattle.sides.proofs.Some.{some_of}
use Rattle.sides.proofs.setting.Setting.is_labelled.Goals as goal

pub returns : goal.returns
returns c =
    let p = λ (d : Derivative). covers_of c.args.self.now.covers.now d.0 c.args.t in
    let any : c.any.result ≡ list_any p c.derivatives.result.now =
    any_from_yields_List p _ _ c.any.result c.any.ensures.ran (YieldsList-from_slice c.derivatives.result.now cc) (λ x b q k. search (rules, tests)) in
    any ∙ some_of p c.derivatives.result.now no_derivative ∙ ap (λ (l : List Derivative). some (length l) (λ i. p (get_or l i no_derivative))) c.derivatives.ensures
