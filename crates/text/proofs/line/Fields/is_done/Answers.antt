use Rattle.text.proofs.Cuts.{done_is}
use Rattle.text.proofs.line.Fields.is_done.Goals as goal

pub returns : goal.returns
returns c = done_is c.args.self.rest c.is_none.result c.is_none.ensures
