use Rattle.std.proofs.Common.{ℕ, length, replicate, Some, Ok, Err, refl, ap, ◌∙◌, subst}
use Rattle.model.specs.Blank.{blank_row, blank_item}
use Rattle.tables.specs.Plain.{Plain}
use Rattle.theory.specs.Machine.{Machine}
use Rattle.ledger.specs.Settled.{at}
use Rattle.register.specs.Basis.{tables_of, machine_of}
use Rattle.law.specs.Sheets.{sheet_outcome}
use Rattle.register.proofs.Sheeting.{read_within, judging, Leaves, refused, accepted, entered}
use Rattle.register.proofs.register.Register.sheet.Goals as goal

pub returns-in-Err : goal.returns-in-Err
returns-in-Err c =
    let self = c.args.self.now in
    let t : Plain = tables_of self.basis in
    let m : Machine = machine_of self.basis in
    let n : ℕ = length c.args.rows.now in
    let k : ℕ = length c.args.items.now in
    let j = judging t m (at self.ledger) (length c.as_mut_slice.result.now) n k c.args.text.now c.in_ok-sheet.sheet (Err c.in-Err.fault)
    c.read_sheet.new.rows c.read_sheet.new.items (c.as_mut_slice.ensures.len ∙ self.sized.1)
    (read_within t m c.bounds.result.rules c.bounds.result.states c.bounds.result.names.now n k c.args.text.now (Ok c.in_ok-sheet.sheet) c.read_sheet.new.rows c.read_sheet.new.items
    c.bounds.ensures.rules c.bounds.ensures.states c.bounds.ensures.names c.in_ok-sheet.ensures.read) c.in-Err.ensures in
    let l : Leaves t m (sheet_outcome t m (at self.ledger) n k c.args.text.now) n k c.args.text.now (Err c.in-Err.fault) c.blank.new.rows c.blank.new.items =
    refused t m (at self.ledger) n k c.args.text.now j.f c.in-Err.fault c.blank.new.rows c.blank.new.items j.is_read j.judged_so
    (c.blank.ensures.rows ∙ ap (λ x. replicate x blank_row) c.read_sheet.auto.rows) (c.blank.ensures.items ∙ ap (λ x. replicate x blank_item) c.read_sheet.auto.items) in
    record {
      result = l.result;
      rows = l.rows_are;
      items = l.items_are;
      leaves = (c.blank.ensures.rows ∙ ap (λ x. replicate x blank_row) c.read_sheet.auto.rows, c.blank.ensures.items ∙ ap (λ x. replicate x blank_item) c.read_sheet.auto.items);
      truth = l.truth;
      written = tt;
      settled = λ a b. refl;
      basis = refl;
    }

pub invariant_of-self-2 : goal.invariant_of-self-2
invariant_of-self-2 c =
    let self = c.args.self.now in
    let t : Plain = tables_of self.basis in
    let m : Machine = machine_of self.basis in
    let n : ℕ = length c.args.rows.now in
    let k : ℕ = length c.args.items.now in
    let j = judging t m (at self.ledger) (length c.as_mut_slice.result.now) n k c.args.text.now c.in_ok-sheet.sheet (Ok c.in_default.field-0)
    c.read_sheet.new.rows c.read_sheet.new.items (c.as_mut_slice.ensures.len ∙ self.sized.1)
    (read_within t m c.bounds.result.rules c.bounds.result.states c.bounds.result.names.now n k c.args.text.now (Ok c.in_ok-sheet.sheet) c.read_sheet.new.rows c.read_sheet.new.items
    c.bounds.ensures.rules c.bounds.ensures.states c.bounds.ensures.names c.in_ok-sheet.ensures.read) c.in_default.ensures in
    let v = Some c.in_ok-sheet.sheet.verdict in
    record {
      sized = self.sized;
      truth = entered t m self.basis.grounded (at self.ledger) self.truth n k c.args.text.now c.in_ok-sheet.sheet c.in_default.field-0 _ _ j
          (at c.enter.new.self) v c.enter.ensures refl;
    }

pub returns : goal.returns
returns c =
    let self = c.args.self.now in
    let t : Plain = tables_of self.basis in
    let m : Machine = machine_of self.basis in
    let n : ℕ = length c.args.rows.now in
    let k : ℕ = length c.args.items.now in
    let j = judging t m (at self.ledger) (length c.as_mut_slice.result.now) n k c.args.text.now c.in_ok-sheet.sheet (Ok c.in_default.field-0)
    c.read_sheet.new.rows c.read_sheet.new.items (c.as_mut_slice.ensures.len ∙ self.sized.1)
    (read_within t m c.bounds.result.rules c.bounds.result.states c.bounds.result.names.now n k c.args.text.now (Ok c.in_ok-sheet.sheet) c.read_sheet.new.rows c.read_sheet.new.items
    c.bounds.ensures.rules c.bounds.ensures.states c.bounds.ensures.names c.in_ok-sheet.ensures.read) c.in_default.ensures in
    let l : Leaves t m (sheet_outcome t m (at self.ledger) n k c.args.text.now) n k c.args.text.now (Ok c.in_ok-sheet.sheet) c.read_sheet.new.rows c.read_sheet.new.items =
    subst (λ x. Leaves t m (sheet_outcome t m (at self.ledger) n k c.args.text.now) n k c.args.text.now (Ok x) c.read_sheet.new.rows c.read_sheet.new.items) j.sheet
    (accepted t m self.basis.grounded (at self.ledger) self.truth n k c.args.text.now j.f c.in_default.field-0 c.read_sheet.new.rows c.read_sheet.new.items j.is_read j.judged_so
    j.rows_are j.items_are) in
    record {
      result = l.result;
      rows = l.rows_are;
      items = l.items_are;
      leaves = tt;
      truth = l.truth;
      written = l.written;
      settled = c.enter.ensures;
      basis = refl;
    }
