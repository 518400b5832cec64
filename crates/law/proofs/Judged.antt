-- What an accepted sheet says is true.
use Rattle.std.proofs.Common.{◌≡◌, ℕ, ◌<◌, None, sym, ◌∙◌}
use Rattle.theory.specs.Machine.{Machine}
use Rattle.theory.specs.Items.{spelled}
use Rattle.ledger.specs.Settled.{Settled}
use Rattle.model.specs.declared.verdict.Verdict.{Verdict}
use Rattle.model.specs.declared.verdict.Verdict.TheVariants.{Included, Excluded}
use Rattle.records.specs.Reading.{Found}
use Rattle.judge_law.proofs.Included.{included_true}
use Rattle.judge_law.proofs.Excluded.{excluded_true}
use Rattle.tables.specs.Plain.{Plain}
use Rattle.load.specs.Loaded.{bodies_of, rules_of}
use Rattle.law.specs.Claims.{AllTrue}
use Rattle.law.specs.Grounded.{Grounded}
use Rattle.law.specs.Sheets.{kind_fault, KindTrue}
use Rattle.law.proofs.Machines.{fits, named, states_few, has_of, of_has, holds_includes, settled_true}
use Rattle.std.proofs.lemmas.Bool.{false≢true}

pub kind_true : (t : Plain) (m : Machine) → ∥ Grounded t m ∥₁ → (settled : ℕ → ℕ → Settled) →
    AllTrue (bodies_of t) (rules_of t) m.covers settled → (f : Found) → f.at.left < rules_of t → f.at.right < rules_of t →
    (v : Verdict) → kind_fault m settled (rules_of t) f v ≡ None → KindTrue t m f v
kind_true t m g settled all f la lb Included e =
    holds_includes t m g f.at.left f.at.right la lb
    (included_true m (fits t m g) (named t m g) settled (rules_of t) f.at.left f.at.right f.rows (settled_true t m g settled all) e)
kind_true t m g settled all f la lb Excluded e =
    let w = (excluded_true m (states_few t m g) f.at.left f.at.right f.items).0 e in (
      has_of t m g f.at.left la (spelled f.items) w.0,
      λ p. false≢true (sym w.1 ∙ of_has t m g f.at.right lb (spelled f.items) p),
    )
