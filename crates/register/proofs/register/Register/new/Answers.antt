use Rattle.std.proofs.Common.{◌≡◌, length, ap, ◌∙◌}
use Rattle.tables.specs.Plain.{plain}
use Rattle.load.specs.Loaded.{bodies_of, rules_of}
use Rattle.ledger.specs.Settled.{at}
use Rattle.sides.specs.View.{covers_of, table_of}
use Rattle.law.proofs.Relations.{tabled, view_under, grounds}
use Rattle.law.proofs.Settling.{unsettled_true}
use Rattle.register.proofs.register.Register.new.Goals as goal

pub invariant_of-result : goal.invariant_of-result
invariant_of-result g c =
    let t = plain c.args.grammar.now.tables in
    let covered = g.R.Relation.covered c.args.relation.now t.names in
    let e : table_of c.in_ok-covers.covers ≡ tabled covered (length t.names) =
    c.in_ok-covers.ensures ∙ ap (λ ns. tabled (g.R.Relation.covered c.args.relation.now ns) (length ns)) c.names.ensures in
    record {
      grounded = grounds t c.args.grammar.now.machine c.in_ok-covers.covers covered c.args.grammar.now.loaded
          (λ h. g.met.R.Relation.lawful c.args.relation.now t.names h) e;
    }

pub invariant_of-result-2 : goal.invariant_of-result-2
invariant_of-result-2 g c =
    let t = plain c.args.grammar.now.tables in
    record {
      sized = (c.in_ok-marks.ensures.len, c.in_ok-sets.ensures.len);
      truth = ∣ unsettled_true (bodies_of t) (rules_of t) (covers_of c.in_ok-covers.covers) (at c.in_ok-ledger.ledger) c.in_ok-ledger.ensures ∣₁;
    }

pub returns-clause-machine : goal.returns-clause-machine
returns-clause-machine g c =
    let t = plain c.args.grammar.now.tables in
    let covered = g.R.Relation.covered c.args.relation.now t.names in
    let e : table_of c.in_ok-covers.covers ≡ tabled covered (length t.names) =
    c.in_ok-covers.ensures ∙ ap (λ ns. tabled (g.R.Relation.covered c.args.relation.now ns) (length ns)) c.names.ensures in
    view_under t c.args.grammar.now.machine c.in_ok-covers.covers covered c.args.grammar.now.loaded
    (λ h. g.met.R.Relation.lawful c.args.relation.now t.names h) e
