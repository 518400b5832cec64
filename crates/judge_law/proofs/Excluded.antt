-- An accepted excluded sheet spells a witness, and items that spell a witness are accepted.
use Rattle.std.proofs.Common.{◌≡◌, ℕ, ◌<◌, Bool, true, false, cond, not, ◌||◌, eqb, Some, None, sym, refl, ap, ◌∙◌}
use Rattle.std.proofs.lemmas.Bool.{and_parts, and_from, cond-true, not-true, not_from_false, eqb-true, eq-eqb}
use Rattle.model.specs.Sets.{has, insert}
use Rattle.theory.specs.Machine.{accepts}
use Rattle.theory.specs.Items.{spelled}
use Rattle.inequality.proofs.Bits.{has_insert, has_none}
use Rattle.meaning.specs.Tables.{has_spelled}
use Rattle.meaning.proofs.Tables.{membership_law}
use Rattle.judge.specs.declared.fault.SheetFault.{SheetFault}
use Rattle.judge.specs.declared.fault.SheetFault.TheVariants.{Witness as NoWitness}
use Rattle.judge.specs.Judgement.{excluded_fault}
use Rattle.judge_law.specs.Laws.{ExcludedTrue, ExcludedWitness}

-- no fault is told only where the test holds
held : (b : Bool) (f : SheetFault) → cond b None (Some f) ≡ None → b ≡ true
held true f e = refl
held false f e = cc

pub excluded_true : ExcludedTrue
unfolding excluded_fault
excluded_true m le a b items = (
  (λ e. let parts = and_parts (has_spelled m items a) (not (has_spelled m items b)) (held _ NoWitness e) in (
    sym (membership_law m items le a) ∙ parts.0,
    sym (membership_law m items le b) ∙ not-true _ parts.1,
  )),
  (λ w. cond-true _ _ _ (and_from _ _ (membership_law m items le a ∙ w.0)
      (not_from_false _ (membership_law m items le b ∙ w.1)))),
)

-- the only state of {b} is b
alone : (b q : ℕ) → b < 128 → has (insert 0 b) q ≡ eqb q b
alone b q lt = has_insert 0 b q lt ∙ ap (λ x. x || eqb q b) (has_none q)

pub excluded_witness : ExcludedWitness
excluded_witness m le a b items lt =
    let law = excluded_true m le a b items in (
      (λ e. let w = law.0 e in (
        w.0,
        (λ q is. ap (accepts m (spelled items)) (eqb-true q b (sym (alone b q lt) ∙ is)) ∙ w.1),
      )),
      (λ w. law.1 (w.0, w.1 b (alone b b lt ∙ eq-eqb b b refl))),
    )
