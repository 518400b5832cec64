-- States and the expressions that they stand for have the same hedges.
use Rattle.std.proofs.Common.{◌≡◌, ℕ, ◌<◌, true, ◌&&◌, ◌↔◌, List, length, get_or, sym, subst}
use Rattle.std.proofs.lemmas.Bool.{and_parts, and_from}
use Rattle.model.specs.Machine.{derivatives_at}
use Rattle.theory.specs.Hedge.{Hedge, nothing, item}
use Rattle.theory.specs.Language.{Expr, none, In}
use Rattle.theory.specs.Machine.{Machine, accepts}
use Rattle.theory.specs.Stands.{Stands}
use Rattle.meaning.specs.Laws.{Simulation, RuleSimulation}
use Rattle.meaning.proofs.Members.{any_of, any_from}
use Rattle.meaning.proofs.Derivatives.{null_has_nothing, nothing_is_null, der_sound, der_complete}

pub accepted_in : (bodies : ℕ → Expr) (rules : ℕ) (m : Machine) (exprs : List Expr) →
    Stands bodies rules m.states exprs → (h : Hedge) (q : ℕ) → q < length m.states →
    accepts m h q ≡ true → In bodies m.covers (get_or exprs q none) h
accepted_in bodies rules m exprs st nothing q lt e =
    null_has_nothing m.covers (st.null_sound q lt e)
accepted_in bodies rules m exprs st (item t v w) q lt e =
    let (d, member, ok) = any_of _ (derivatives_at m.states q) e in
    let (cov, both) = and_parts (m.covers d.0 t) (accepts m v d.1 && accepts m w d.2) ok in
    let (inside, after) = and_parts (accepts m v d.1) (accepts m w d.2) both in
    let (lt₁, lt₂, der) = st.der_sound q d lt member in
    der_sound der cov
    (accepted_in bodies rules m exprs st v d.1 lt₁ inside)
    (accepted_in bodies rules m exprs st w d.2 lt₂ after)

pub in_accepted : (bodies : ℕ → Expr) (rules : ℕ) (m : Machine) (exprs : List Expr) →
    Stands bodies rules m.states exprs → (h : Hedge) (q : ℕ) → q < length m.states →
    In bodies m.covers (get_or exprs q none) h → accepts m h q ≡ true
in_accepted bodies rules m exprs st nothing q lt p = st.null_complete q lt (nothing_is_null p)
in_accepted bodies rules m exprs st (item t v w) q lt p =
    let (h, c, r, der, cov, inside, after) = der_complete p in
    let (d, member, eh, ec, er) = st.der_complete q h c r lt der in
    let (lt₁, lt₂, same) = st.der_sound q d lt member in
    any_from _ member
    (and_from (m.covers d.0 t) (accepts m v d.1 && accepts m w d.2)
    (subst (λ x. m.covers x t ≡ true) (sym eh) cov)
    (and_from (accepts m v d.1) (accepts m w d.2)
    (in_accepted bodies rules m exprs st v d.1 lt₁
    (subst (λ x. In bodies m.covers x v) (sym ec) inside))
    (in_accepted bodies rules m exprs st w d.2 lt₂
    (subst (λ x. In bodies m.covers x w) (sym er) after))))

pub simulation : Simulation
simulation bodies rules m exprs st h q lt =
    (accepted_in bodies rules m exprs st h q lt, in_accepted bodies rules m exprs st h q lt)

pub rule_simulation : RuleSimulation
rule_simulation bodies rules m exprs st h k lt =
    let (small, is) = st.rule_states k lt in
    subst (λ x. (accepts m h k ≡ true) ↔ In bodies m.covers x h) is
    (simulation bodies rules m exprs st h k small)
