use Rattle.records_law.proofs.Rewritten.{is_written}
use Rattle.records_law.proofs.accepted_is_written.Goals as goal

pub returns : goal.returns
returns c = is_written
