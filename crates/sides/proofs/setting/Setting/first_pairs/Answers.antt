use Rattle.theory.specs.Inequality.{pairs}
use Rattle.sides.proofs.Gathering.{first_gathered}
use Rattle.sides.proofs.setting.Setting.first_pairs.Goals as goal

pub returns : goal.returns
unfolding pairs
returns g c = first_gathered _ _ _ _ c.new-pairs.ensures c.enter_set.ensures
