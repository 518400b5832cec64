use Rattle.std.proofs.Common.{sym, ◌∙◌}
use Rattle.std.proofs.lemmas.Bool.{le-leb}
use Rattle.sides.specs.View.{seen}
use Rattle.sides.proofs.Crowded.{few_pairs}
use Rattle.sides.proofs.setting.Setting.labelled_pairs.Goals as goal

pub returns-then-is_labelled-clause-some : goal.returns-then-is_labelled-clause-some
returns-then-is_labelled-clause-some c = λ narrow name.
    let few = few_pairs (seen c.args.self.now) c.args.row.now c.args.t narrow name (sym c.is_labelled.ensures ∙ c.if-is_labelled.true) in
    c.pairs.ensures.few ∙ le-leb _ 8 few ∙ sym c.if-is_labelled.true ∙ c.is_labelled.ensures
