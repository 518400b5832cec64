use Rattle.states.proofs.Memos.{none_alone}
use Rattle.states.proofs.memo.Memo.new.Goals as goal

pub returns : goal.returns
returns g c = c.in_ok-entries.ensures.items_if_clones_equal none_alone
