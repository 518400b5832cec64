use Rattle.ledger.specs.Settled.{at}
use Rattle.load.specs.Loaded.{bodies_of, rules_of}
use Rattle.register.specs.Basis.{tables_of, machine_of}
use Rattle.law.proofs.Settling.{unsettled_true}
use Rattle.register.proofs.register.Register.clear.Goals as goal

pub invariant_of-self : goal.invariant_of-self
invariant_of-self c =
    let self = c.args.self.now in
    let t = tables_of self.basis in
    record { sized = self.sized; truth = ∣ unsettled_true (bodies_of t) (rules_of t) (machine_of self.basis).covers (at c.clear.new.self) c.clear.ensures ∣₁ }
