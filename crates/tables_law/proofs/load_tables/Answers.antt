use Rattle.tables_law.proofs.Good.{answer_lawful}
use Rattle.tables_law.proofs.Complete.{answer_writes, answer_gives}
use Rattle.tables_law.proofs.load_tables.Goals as goal

pub returns : goal.returns
returns c =
    let r = c.read_tables.result in
    let text = c.args.text.now in
    let e = c.read_tables.ensures in
    record { exact = e; lawful = answer_lawful r text e; written = answer_writes r text e; accepted = answer_gives r text e }
