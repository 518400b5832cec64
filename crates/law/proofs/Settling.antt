-- What is entered keeps all that is settled true.
use Rattle.std.proofs.Common.{◌≡◌, ℕ, ◌<◌, Bool, true, false, cond, ◌&&◌, Some, None, eqb, ltb, sym, subst, ⊎_elim}
use mathlib.Core.HLevel.{Π_prop, →_prop}
use mathlib.Core.Logic.{∥∥₁_prop}
use Rattle.std.proofs.lemmas.Bool.{cond-true, cond-false, cases_Bool, and_parts, eqb-true}
use Rattle.theory.specs.Language.{Expr}
use Rattle.theory.specs.Machine.{Machine}
use Rattle.theory.specs.Items.{spelled}
use Rattle.ledger.specs.Settled.{Settled, enters}
use Rattle.model.specs.declared.verdict.Verdict.{Verdict}
use Rattle.model.specs.declared.verdict.Verdict.TheVariants.{Included, Excluded}
use Rattle.records.specs.Reading.{Found}
use Rattle.tables.specs.Plain.{Plain}
use Rattle.load.specs.Loaded.{bodies_of, rules_of}
use Rattle.law.specs.Claims.{Includes, Truly, AllTrue}
use Rattle.law.specs.Sheets.{KindTrue}

-- a pair that is entered truly
pub enters_true : (bodies : ℕ → Expr) (count : ℕ) (covers : ℕ → ℕ → Bool) (before after : ℕ → ℕ → Settled) (a b : ℕ) (v : Settled) →
    AllTrue bodies count covers before → Truly bodies count covers a b v → ((c d : ℕ) → after c d ≡ enters before a b v c d) →
    AllTrue bodies count covers after
enters_true bodies count covers before after a b v all is told c d =
    subst (Truly bodies count covers c d) (sym (told c d)) (⊎_elim here other (cases_Bool test))
  where
    test : Bool
    test = ltb a 32 && ltb b 32 && eqb c a && eqb d b

    here : test ≡ true → Truly bodies count covers c d (cond test v (before c d))
    here e =
        let p = and_parts (ltb a 32 && ltb b 32 && eqb c a) (eqb d b) e in
        let q = and_parts (ltb a 32 && ltb b 32) (eqb c a) p.0 in
        let ec : c ≡ a = eqb-true c a q.1 in
        let ed : d ≡ b = eqb-true d b p.1 in
        subst (Truly bodies count covers c d) (sym (cond-true test v (before c d) e))
        (let P : ℕ → Type 0 = λ x. Truly bodies count covers x d v in
        let Q : ℕ → Type 0 = λ y. Truly bodies count covers a y v in subst P (sym ec) (subst Q (sym ed) is))

    other : test ≡ false → Truly bodies count covers c d (cond test v (before c d))
    other e = subst (Truly bodies count covers c d) (sym (cond-false test v (before c d) e)) (all c d)

-- settled pairs that are as before
pub same_true : (bodies : ℕ → Expr) (count : ℕ) (covers : ℕ → ℕ → Bool) (before after : ℕ → ℕ → Settled) →
    AllTrue bodies count covers before → ((c d : ℕ) → after c d ≡ before c d) → AllTrue bodies count covers after
same_true bodies count covers before after all told c d = subst (Truly bodies count covers c d) (sym (told c d)) (all c d)

-- no pair is settled
pub unsettled_true : (bodies : ℕ → Expr) (count : ℕ) (covers : ℕ → ℕ → Bool) (after : ℕ → ℕ → Settled) →
    ((c d : ℕ) → after c d ≡ None) → AllTrue bodies count covers after
unsettled_true bodies count covers after told c d = subst (Truly bodies count covers c d) (sym (told c d)) tt

-- where all that is settled is true but for a proof, so is a claim that follows from it
pub includes_prop : (bodies : ℕ → Expr) (covers : ℕ → ℕ → Bool) (a b : ℕ) (p q : Includes bodies covers a b) → p ≡ q
includes_prop bodies covers a b = Π_prop (λ h. →_prop ∥∥₁_prop)

-- the claim of a sheet as what its pair is settled as
pub kind_settles : (t : Plain) (m : Machine) (f : Found) (v : Verdict) (s : Settled) →
    f.at.left < rules_of t → f.at.right < rules_of t → s ≡ Some v → KindTrue t m f v →
    Truly (bodies_of t) (rules_of t) m.covers f.at.left f.at.right s
kind_settles t m f Included s la lb e is = subst (Truly (bodies_of t) (rules_of t) m.covers f.at.left f.at.right) (sym e) (la, lb, is)
kind_settles t m f Excluded s la lb e is =
    subst (Truly (bodies_of t) (rules_of t) m.covers f.at.left f.at.right) (sym e) (la, lb, ∣ (spelled f.items, is) ∣₁)
