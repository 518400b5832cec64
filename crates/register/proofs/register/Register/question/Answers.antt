use Rattle.std.proofs.Common.{ℕ, length, refl, ◌∙◌, subst}
use mathlib.Core.Logic.{∥∥₁_map}
use Rattle.theory.specs.Machine.{Machine}
use Rattle.ledger.specs.Settled.{at}
use Rattle.register.specs.Basis.{tables_of, machine_of}
use Rattle.search.specs.Answered.{root_of, suits, Asked}
use Rattle.tables.specs.Plain.{Plain}
use Rattle.load.specs.Loaded.{bodies_of, rules_of}
use Rattle.law.specs.Claims.{AllTrue}
use Rattle.law.specs.Question.{VerdictTrue}
use Rattle.law.proofs.Questions.{verdict_true, exactly}
use Rattle.register.specs.Calls.{question_checked}
use Rattle.register.proofs.Asking.{Given, given, answered, still_true, agrees, exchanged_from}
use Rattle.register.proofs.register.Register.question.Goals as goal

pub invariant_of-self-2 : goal.invariant_of-self-2
invariant_of-self-2 c =
    let self = c.args.self.now in
    let t : Plain = tables_of self.basis in
    let m : Machine = machine_of self.basis in
    let n : ℕ = length c.args.rows.now in
    let k : ℕ = length c.args.items.now in
    let g : Given (rules_of t) c.args.left c.args.right n k = given (rules_of t) c.args.left c.args.right n k c.in_default.field-0 c.in_default.ensures in
    let a = answered m (rules_of t) c.args.left c.args.right n k (length c.as_mut_slice.result.now) c.question-answer.result _ _ g
    (c.as_mut_slice.ensures.len ∙ self.sized.0) (subst (λ x. Asked x (root_of c.args.left c.args.right) n k (suits n k (length c.as_mut_slice.result.now)) c.question-answer.result c.question-answer.new.rows c.question-answer.new.items) c.setting.ensures c.question-answer.ensures) in
    let v : VerdictTrue t m c.args.left c.args.right c.question-answer.result c.question-answer.new.rows c.question-answer.new.items =
    verdict_true t m self.basis.grounded c.args.left c.args.right n k g.left g.right g.one c.question-answer.result _ _ a in record {
      sized = self.sized;
      truth = ∥∥₁_map self.truth (λ (all : AllTrue (bodies_of t) (rules_of t) m.covers (at self.ledger)).
          still_true t m (at self.ledger) (at c.note.new.ledger) c.args.left c.args.right c.question-answer.result _ _ g.left g.right all v c.note.ensures);
    }

pub returns : goal.returns
returns c =
    let self = c.args.self.now in
    let t : Plain = tables_of self.basis in
    let m : Machine = machine_of self.basis in
    let n : ℕ = length c.args.rows.now in
    let k : ℕ = length c.args.items.now in
    let g : Given (rules_of t) c.args.left c.args.right n k = given (rules_of t) c.args.left c.args.right n k c.in_default.field-0 c.in_default.ensures in
    let a = answered m (rules_of t) c.args.left c.args.right n k (length c.as_mut_slice.result.now) c.question-answer.result _ _ g
    (c.as_mut_slice.ensures.len ∙ self.sized.0) (subst (λ x. Asked x (root_of c.args.left c.args.right) n k (suits n k (length c.as_mut_slice.result.now)) c.question-answer.result c.question-answer.new.rows c.question-answer.new.items) c.setting.ensures c.question-answer.ensures) in
    record {
      told = agrees (question_checked (rules_of t) c.args.left c.args.right n k) c.in_default.field-0 c.question-answer.result c.in_default.ensures;
      leaves = subst (λ s. Asked m (root_of c.args.left c.args.right) n k (suits n k s) c.question-answer.result c.question-answer.new.rows c.question-answer.new.items) c.as_mut_slice.ensures.len (subst (λ x. Asked x (root_of c.args.left c.args.right) n k (suits n k (length c.as_mut_slice.result.now)) c.question-answer.result c.question-answer.new.rows c.question-answer.new.items) c.setting.ensures c.question-answer.ensures);
      answered = a;
      truth = verdict_true t m self.basis.grounded c.args.left c.args.right n k g.left g.right g.one c.question-answer.result _ _ a;
      exact = exactly m c.args.left c.args.right n k g.one c.question-answer.result _ _ a;
      exchange = exchanged_from t m self.basis.grounded c.args.left c.args.right n k c.question-answer.result _ _ g a;
      settled = c.note.ensures;
      basis = refl;
    }
