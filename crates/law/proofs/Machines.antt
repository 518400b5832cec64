-- What the machine of a loaded grammar keeps, and its states against the languages of rules.
use Rattle.std.proofs.Common.{◌≡◌, ℕ, ◌<◌, ◌≤◌, true, ◌||◌, eqb, ◌⊎◌, length, sym, refl, ap, ◌∙◌, subst, inl, inr, arith}
use native.Mathlib.Bridge.{le_prop}
use mathlib.Core.HLevel.{Π_prop, →_prop, ×_prop}
use mathlib.Core.Bool.{Bool-set}
use mathlib.Core.Logic.{∥∥₁_elim, ∥∥₁_map}
use Rattle.std.proofs.lemmas.List.{get_or_past}
use Rattle.std.proofs.lemmas.Bool.{cases_lt, eqb-true, eq-eqb, false≢true}
use Rattle.model.specs.Machine.{no_state, derivatives_at}
use Rattle.model.specs.Sets.{has, insert}
use Rattle.theory.specs.Hedge.{Hedge}
use Rattle.theory.specs.Machine.{Machine, accepts}
use Rattle.theory.specs.Inequality.{row, Holds, derivative, derivative_count, no_derivative}
use Rattle.meaning.proofs.Members.{member_at}
use Rattle.meaning.proofs.Sets.{has_insert, has_none}
use Rattle.meaning.proofs.Simulation.{rule_simulation}
use Rattle.inequality.specs.Fits.{Fits, Named, Witness}
use Rattle.ledger.specs.Settled.{Settled}
use Rattle.tables.specs.Plain.{Plain}
use Rattle.load.specs.Loaded.{bodies_of, rules_of}
use Rattle.judge_law.specs.Laws.{SettledTrue}
use Rattle.law.specs.Claims.{Has, Includes, Offends, Truly, AllTrue}
use Rattle.law.specs.Grounded.{Grounded}

-- the machine fits its tables
fits_of : (t : Plain) (m : Machine) → Grounded t m → Fits m
fits_of t m g = (g.loaded.few_states, λ q i lt. go q i lt (cases_lt q (length m.states)))
  where
    go : (q i : ℕ) → i < derivative_count m q → (q < length m.states) ⊎ (length m.states ≤ q) →
        ((derivative m q i).1 < length m.states) × ((derivative m q i).2 < length m.states)
    go q i lt (inl small) =
        let s = g.loaded.stand.der_sound q (derivative m q i) small (member_at (derivatives_at m.states q) i no_derivative lt) in
        (s.0, s.1)
    go q i lt (inr past) =
        let none : derivative_count m q ≡ 0 = ap (λ s. length s.derivatives) (get_or_past m.states q no_state past) in
        absurd (omega arith)

fits_prop : (m : Machine) (f g : Fits m) → f ≡ g
fits_prop m = ×_prop le_prop (Π_prop (λ q. Π_prop (λ i. →_prop (×_prop le_prop le_prop))))

pub fits : (t : Plain) (m : Machine) → ∥ Grounded t m ∥₁ → Fits m
fits t m g = ∥∥₁_elim g (fits_prop m) (fits_of t m)

named_of : (t : Plain) (m : Machine) → Grounded t m → Named m
named_of t m g h n e = let lt = (g.relation.named h n e).1 in omega (arith, g.names)

pub named : (t : Plain) (m : Machine) → ∥ Grounded t m ∥₁ → Named m
named t m g = ∥∥₁_elim g (Π_prop (λ h. Π_prop (λ n. →_prop le_prop))) (named_of t m)

-- there are at least as many states as rules
pub rules_few : (t : Plain) (m : Machine) → ∥ Grounded t m ∥₁ → rules_of t ≤ length m.states
rules_few t m g = ∥∥₁_elim g le_prop (λ w. w.loaded.rule_states)

pub states_few : (t : Plain) (m : Machine) → ∥ Grounded t m ∥₁ → length m.states ≤ 128
states_few t m g = ∥∥₁_elim g le_prop (λ w. w.loaded.few_states)

pub rules_few32 : (t : Plain) (m : Machine) → ∥ Grounded t m ∥₁ → rules_of t ≤ 32
rules_few32 t m g = ∥∥₁_elim g le_prop (λ w. w.loaded.tables.few_rules)

pub names_few : (t : Plain) (m : Machine) → ∥ Grounded t m ∥₁ → length t.names ≤ 64
names_few t m g = ∥∥₁_elim g le_prop (λ w. w.loaded.tables.few_names)

-- the state of a rule has the hedges of the rule
pub has_of : (t : Plain) (m : Machine) → ∥ Grounded t m ∥₁ → (k : ℕ) → k < rules_of t → (h : Hedge) →
    accepts m h k ≡ true → Has (bodies_of t) m.covers k h
has_of t m g k lt h e = ∥∥₁_map g (λ (w : Grounded t m).
    (rule_simulation (bodies_of t) (rules_of t) m w.loaded.exprs w.loaded.stand h k lt).0 e)

pub of_has : (t : Plain) (m : Machine) → ∥ Grounded t m ∥₁ → (k : ℕ) → k < rules_of t → (h : Hedge) →
    Has (bodies_of t) m.covers k h → accepts m h k ≡ true
of_has t m g k lt h p = ∥∥₁_elim g (Bool-set _ _) (λ w. ∥∥₁_elim p (Bool-set _ _) (λ i.
    (rule_simulation (bodies_of t) (rules_of t) m w.loaded.exprs w.loaded.stand h k lt).1 i))

-- a set of one state has that state alone
one_has : (b q : ℕ) → b < 128 → has (insert 0 b) q ≡ eqb q b
one_has b q lt = has_insert 0 b q lt ∙ ap (λ x. x || eqb q b) (has_none q)

pub alone : (b q : ℕ) → b < 128 → has (insert 0 b) q ≡ true → q ≡ b
alone b q lt e = eqb-true q b (sym (one_has b q lt) ∙ e)

pub itself : (b : ℕ) → b < 128 → has (insert 0 b) b ≡ true
itself b lt = one_has b b lt ∙ eq-eqb b b refl

-- an inequality of rules holds exactly when the right rule has every hedge of the left one
pub holds_includes : (t : Plain) (m : Machine) → ∥ Grounded t m ∥₁ → (a b : ℕ) → a < rules_of t → b < rules_of t →
    Holds m (row a (insert 0 b)) → Includes (bodies_of t) m.covers a b
holds_includes t m g a b la lb holds h p =
    let few = rules_few t m g in
    let most = states_few t m g in
    let right = holds h (of_has t m g a la h p) in
    let is : right.0 ≡ b = alone b right.0 (omega arith) right.1 in
    has_of t m g b lb h (subst (λ q. accepts m h q ≡ true) is right.2)

pub includes_holds : (t : Plain) (m : Machine) → ∥ Grounded t m ∥₁ → (a b : ℕ) → a < rules_of t → b < rules_of t →
    Includes (bodies_of t) m.covers a b → Holds m (row a (insert 0 b))
includes_holds t m g a b la lb inc h e =
    let few = rules_few t m g in
    let most = states_few t m g in
    (b, itself b (omega arith), of_has t m g b lb h (inc h (has_of t m g a la h e)))

-- a witness against an inequality of rules is a hedge that the right rule lacks
pub witness_offends : (t : Plain) (m : Machine) → ∥ Grounded t m ∥₁ → (a b : ℕ) → a < rules_of t → b < rules_of t → (h : Hedge) →
    Witness m (row a (insert 0 b)) h → Offends (bodies_of t) m.covers a b h
witness_offends t m g a b la lb h w =
    let few = rules_few t m g in
    let most = states_few t m g in
    (has_of t m g a la h w.0, λ p. false≢true (sym (w.1 b (itself b (omega arith))) ∙ of_has t m g b lb h p))

-- what is settled as included holds
pub settled_true : (t : Plain) (m : Machine) → ∥ Grounded t m ∥₁ → (settled : ℕ → ℕ → Settled) →
    AllTrue (bodies_of t) (rules_of t) m.covers settled → SettledTrue m settled
settled_true t m g settled all c d e =
    let P : Settled → Type 0 = λ s. Truly (bodies_of t) (rules_of t) m.covers c d s in
    let is = subst P e (all c d) in
    includes_holds t m g c d is.0 is.1 is.2
