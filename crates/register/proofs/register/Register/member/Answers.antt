use Rattle.std.proofs.Common.{◌<◌, length, take, sym, refl, ap, ◌∙◌, subst}
use Rattle.std.proofs.lemmas.List.{take_min}
use Rattle.tables.specs.Plain.{Plain}
use Rattle.theory.specs.Machine.{Machine}
use Rattle.register.specs.Basis.{tables_of, machine_of}
use Rattle.register.proofs.Testing.{tested}
use Rattle.register.proofs.register.Register.member.Goals as goal

pub returns : goal.returns
returns c =
    let self = c.args.self.now in
    let t : Plain = tables_of self.basis in
    let m : Machine = machine_of self.basis in
    let x = tested t m self.basis.grounded c.args.rule (length c.args.rows.now) (length c.args.items.now) c.args.text.now c.in_default.field-0
    c.bounds.result.names.now c.in_ok-records.records c.read_hedge.new.items
    c.first.result.now c.has-yes.result
    c.in_default.ensures c.bounds.ensures.names c.in_ok-records.ensures.read.answered c.in_ok-records.ensures.read.items_left
    c.first.ensures
    (λ few. c.has-yes.ensures (subst (λ j. length c.first.result.now < j) (sym (c.as_mut_slice.ensures.len ∙ self.sized.1)) few)) in
    record {
      result = x.result;
      rows = c.in_ok-records.ensures.rows;
      items = x.items_are;
      leaves = tt;
      truth = x.truth;
      ledger = refl;
      basis = refl;
    }
