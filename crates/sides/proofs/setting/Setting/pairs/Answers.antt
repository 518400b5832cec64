use Rattle.std.proofs.Common.{sym, ap, ◌∙◌}
use Rattle.std.specs.Option.{is_some}
use Rattle.theory.specs.Inequality.{pairs}
use Rattle.sides.proofs.Gathering.{gathered}
use Rattle.sides.proofs.setting.Setting.pairs.Goals as goal

pub returns-in_err-ok-clause-few : goal.returns-in_err-ok-clause-few
unfolding pairs
returns-in_err-ok-clause-few g c =
    ap is_some c.from_residual.ensures ∙ sym (ap is_some c.in_err-ok.was) ∙ c.ok.ensures.variant
    ∙ (gathered _ _ _ _ c.new-pairs.ensures c.enter_set.ensures).0

pub returns-clause-few : goal.returns-clause-few
unfolding pairs
returns-clause-few g c = sym (ap is_some c.in_ok-ok.was) ∙ c.ok.ensures.variant ∙ (gathered _ _ _ _ c.new-pairs.ensures c.enter_set.ensures).0

pub returns-clause-all : goal.returns-clause-all
unfolding pairs
returns-clause-all g c =
    (gathered _ _ _ _ c.new-pairs.ensures c.enter_set.ensures).1 (sym c.ok.ensures.variant ∙ ap is_some c.in_ok-ok.was)
