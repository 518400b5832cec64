use Rattle.tables.specs.Plain.{Plain}
use Rattle.theory.specs.Machine.{Machine}
use Rattle.ledger.specs.Settled.{at}
use Rattle.register.specs.Basis.{tables_of, machine_of}
use Rattle.load.specs.Loaded.{rules_of}
use Rattle.register.proofs.Looking.{looked, found_true}
use Rattle.register.proofs.register.Register.look_up.Goals as goal

pub returns : goal.returns
returns c =
    let self = c.args.self.now in
    let t : Plain = tables_of self.basis in
    let m : Machine = machine_of self.basis in
    record {
      result = looked (rules_of t) (at self.ledger) c.args.left c.args.right c.look_up.result _ _
          c.in_ok-check_rule.ensures c.in_ok-check_rule-2.ensures c.look_up.ensures;
      truth = found_true t m (at self.ledger) c.args.left c.args.right c.look_up.result self.truth c.look_up.ensures;
    }
