-- What a look-up finds.
use Rattle.std.proofs.Common.{◌≡◌, ℕ, Some, None, Ok, sym, ap, ◌∙◌, subst}
use mathlib.Core.HLevel.{Unit-prop}
use mathlib.Core.Logic.{∥∥₁_elim, ∥∥₁_prop}
use Rattle.theory.specs.Machine.{Machine}
use Rattle.ledger.specs.Settled.{Settled}
use Rattle.model.specs.declared.verdict.Verdict.TheVariants.{Included, Excluded}
use Rattle.records.specs.Chains.{then}
use Rattle.tables.specs.Plain.{Plain}
use Rattle.load.specs.Loaded.{bodies_of, rules_of}
use Rattle.law.specs.Claims.{Truly, AllTrue}
use Rattle.law.proofs.Settling.{includes_prop}
use Rattle.register.specs.Calls.{rule_checked, looked_up, SettledTrue}

pub looked : (rules : ℕ) (settled : ℕ → ℕ → Settled) (a b : ℕ) (s : Settled) (u v : Unit {0}) → Ok u ≡ rule_checked rules a → Ok v ≡ rule_checked rules b →
    s ≡ settled a b → Ok s ≡ looked_up rules settled a b
looked rules settled a b s u v ea eb es =
    ap Ok es
    ∙ ap (λ r. then r (λ _. Ok (settled a b))) eb
    ∙ ap (λ r. then r (λ _. then (rule_checked rules b) λ _. Ok (settled a b))) ea

-- what is settled truly is true
truly_true : (t : Plain) (m : Machine) (a b : ℕ) (s : Settled) → Truly (bodies_of t) (rules_of t) m.covers a b s → SettledTrue t m a b s
truly_true t m a b None is = tt
truly_true t m a b (Some Included) is = is.2
truly_true t m a b (Some Excluded) is = is.2

settled_prop : (t : Plain) (m : Machine) (a b : ℕ) (s : Settled) (p q : SettledTrue t m a b s) → p ≡ q
settled_prop t m a b None = Unit-prop
settled_prop t m a b (Some Included) = includes_prop (bodies_of t) m.covers a b
settled_prop t m a b (Some Excluded) = ∥∥₁_prop

pub found_true : (t : Plain) (m : Machine) (settled : ℕ → ℕ → Settled) (a b : ℕ) (s : Settled) →
    ∥ AllTrue (bodies_of t) (rules_of t) m.covers settled ∥₁ → s ≡ settled a b → SettledTrue t m a b s
found_true t m settled a b s all e = subst (SettledTrue t m a b) (sym e)
    (∥∥₁_elim all (settled_prop t m a b (settled a b)) (λ every. truly_true t m a b (settled a b) (every a b)))
