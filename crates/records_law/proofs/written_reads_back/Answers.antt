use Rattle.records_law.proofs.Readback.{reads_back}
use Rattle.records_law.proofs.written_reads_back.Goals as goal

pub returns : goal.returns
returns c = reads_back
