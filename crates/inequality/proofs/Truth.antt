-- Closed tables hold; refuted inequalities are those with a witness.
use Rattle.std.proofs.Common.{◌≡◌, ℕ, Bool, true, false, ◌&&◌, length, sym, refl, ◌∙◌, ⊎_elim}
use Rattle.std.proofs.lemmas.Bool.{and_parts, and_from, false≢true}
use Rattle.model.specs.declared.rows.Row.{Row}
use Rattle.model.specs.Sets.{has}
use Rattle.theory.specs.Hedge.{Hedge, nothing, item}
use Rattle.theory.specs.Machine.{Machine, accepts}
use Rattle.theory.specs.Count.{some}
use Rattle.theory.specs.Inequality.{Holds, Refuted, by_empty, by_either_or}
use Rattle.inequality.specs.Fits.{Fits, Named, Witness}
use Rattle.inequality.specs.Tables.{Closed, ClosedTrue, RefutedWitness, WitnessRefuted, RefutedFails, UnrefutedHolds}
use Rattle.inequality.proofs.Lists.{some_found, some_none}
use Rattle.inequality.proofs.Subsets.{refused, accepts_state, witness_split, witness_join, inconsistent_witness, witness_inconsistent}

-- a witness against an inequality shows that it does not hold
pub witness_fails : (m : Machine) (r : Row) (h : Hedge) → Witness m r h → Holds m r → ⊥
witness_fails m r h wit holds =
    let right = holds h wit.0 in
    false≢true (sym (wit.1 right.0 right.1) ∙ right.2)

-- an inequality without a witness holds
pub holds_without : (m : Machine) (r : Row) → ((h : Hedge) → Witness m r h → ⊥) → Holds m r
holds_without m r none h on_left = go (some n p) refl
  where
    n : ℕ
    n = length m.states

    p : ℕ → Bool
    p q = has r.right.bits q && accepts m h q

    go : (b : Bool) → some n p ≡ b → (q : ℕ) × (has r.right.bits q ≡ true) × (accepts m h q ≡ true)
    go true e =
        let at = some_found n p e in
        let parts = and_parts (has r.right.bits at.0) _ at.2 in
        (at.0, parts.0, parts.1)
    go false e = elim (none h (
      on_left,
      λ q in_s. refused (λ accepted.
          false≢true (sym (some_none n p e q (accepts_state m h q accepted)) ∙ and_from _ _ in_s accepted)),
    )) [ ]

-- no hedge is a witness against a row of a closed table
unwitnessed : (m : Machine) → Fits m → Named m → (Is Known : Row → Type 0) → Closed m Is Known →
    ((r : Row) → Known r → Holds m r) → (h : Hedge) (r : Row) → Is r → Witness m r h → ⊥
unwitnessed m fits named Is Known closed known nothing r is wit =
    false≢true (sym (closed.0 r is) ∙ witness_inconsistent m r wit)
unwitnessed m fits named Is Known closed known (item t v w) r is wit =
    let split = witness_split m fits named r t v w wit in
    ⊎_elim
    (⊎_elim
    (λ a. unwitnessed m fits named Is Known closed known v split.0.content a split.2)
    (λ k. witness_fails m split.0.content v split.2 (known split.0.content k)))
    (⊎_elim
    (λ a. unwitnessed m fits named Is Known closed known w split.0.rest a split.3)
    (λ k. witness_fails m split.0.rest w split.3 (known split.0.rest k)))
    (closed.1 r split.0 is split.1)

pub closed_true : (m : Machine) → Fits m → Named m → ClosedTrue m
closed_true m fits named Is Known closed known r is =
    holds_without m r (λ h. unwitnessed m fits named Is Known closed known h r is)

refuted_by : (m : Machine) → Fits m → {r : Row} → Refuted m r → (h : Hedge) × Witness m r h
refuted_by m fits (by_empty {r = r} e) = (nothing, inconsistent_witness m r e)
refuted_by m fits (by_either_or {r = r} {e = e} mem a b) =
    let inside = refuted_by m fits a in
    let follows = refuted_by m fits b in
    let joined = witness_join m fits r e mem inside.0 follows.0 inside.1 follows.1 in
    (item joined.0 inside.0 follows.0, joined.2)

pub refuted_witness : (m : Machine) → Fits m → RefutedWitness m
refuted_witness m fits r ref = refuted_by m fits ref

pub witness_refuted : (m : Machine) → Fits m → Named m → WitnessRefuted m
witness_refuted m fits named r nothing wit = by_empty (witness_inconsistent m r wit)
witness_refuted m fits named r (item t v w) wit =
    let split = witness_split m fits named r t v w wit in
    by_either_or split.1
    (witness_refuted m fits named split.0.content v split.2)
    (witness_refuted m fits named split.0.rest w split.3)

pub refuted_fails : (m : Machine) → Fits m → RefutedFails m
refuted_fails m fits r ref holds =
    let found = refuted_witness m fits r ref in
    witness_fails m r found.0 found.1 holds

pub unrefuted_holds : (m : Machine) → Fits m → Named m → UnrefutedHolds m
unrefuted_holds m fits named r not_ref =
    holds_without m r (λ h wit. not_ref (witness_refuted m fits named r h wit))
