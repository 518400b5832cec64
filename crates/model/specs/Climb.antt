-- The way from a name up by heads: its steps, and that it stays among names of one kind.
use Rattle.std.specs.Prelude.{◌≡◌, ℕ, zero, suc, ◌-◌, ◌<◌, Bool, true, false, ◌||◌, List, length, Some, None, Option, ◌≢◌, nat_lt, slice_index_or, refl}
use Rattle.std.proofs.Common.{arith, sub-one, sym, ap, subst, ◌∙◌, ⊎_elim, eq-eqb, ne_eqb, eqb-true, lt-ltb, ltb-true}
use Rattle.std.proofs.lemmas.Bool.{or_left, or_cases, and_parts, and_from, false≢true}
use Rattle.model.specs.declared.names.Name.{Name}
use Rattle.model.specs.Relation.{no_name, kind_of, Headed, Lawful, exact, above, heads}

pub above_here : (n : ℕ) (names : List Name) (h t : ℕ) → h ≡ t → above n names h t ≡ true
above_here zero names h t e = eq-eqb h t e
above_here (suc n) names h t e = or_left _ _ (eq-eqb h t e)

-- what `above` does with the head of a name
abbrev up : ℕ → List Name → ℕ → Option ℕ → Bool
up n names h None = false
up n names h (Some u) = above n names h u

or_of_false : (a b : Bool) → a ≡ false → (a || b) ≡ b
or_of_false true b e = elim (false≢true (sym e)) [ ]
or_of_false false b e = refl

as_up : (n : ℕ) (names : List Name) (h : ℕ) (o : Option ℕ) →
    (elim o [ None ↦ false | Some u ↦ above n names h u ]) ≡ up n names h o
as_up n names h None = refl
as_up n names h (Some u) = refl

pub above_step : (n : ℕ) (names : List Name) (h t : ℕ) (o : Option ℕ) → (h ≢ t) → (n ≢ 0) →
    (slice_index_or names t no_name).head ≡ o → above n names h t ≡ up (n - 1) names h o
above_step zero names h t o ne pos e = elim (pos refl) [ ]
above_step (suc n) names h t o ne pos e =
    or_of_false _ _ (ne_eqb h t ne) ∙ as_up n names h (slice_index_or names t no_name).head
    ∙ ap (up n names h) e ∙ ap (λ k. up k names h o) (sym (sub-one (suc n)))

pub above_stop : (names : List Name) (h t : ℕ) → (h ≢ t) → above 0 names h t ≡ false
above_stop names h t ne = ne_eqb h t ne

-- what a way up meets is a name of the same kind
pub climb : (n : ℕ) (names : List Name) → Headed names → (h t : ℕ) → t < length names →
    above n names h t ≡ true → (h < length names) × (kind_of names h ≡ kind_of names t)
climb zero names ok h t lt e =
    let same : h ≡ t = eqb-true h t e in
    (subst (λ k. k < length names) (sym same) lt, ap (kind_of names) same)
climb (suc n) names ok h t lt e =
    ⊎_elim
    (λ here. let same : h ≡ t = eqb-true h t here in
    (subst (λ k. k < length names) (sym same) lt, ap (kind_of names) same))
    (λ more. go (climb n names ok) (slice_index_or names t no_name).head refl
    (sym (as_up n names h (slice_index_or names t no_name).head) ∙ more))
    (or_cases _ _ e)
  where
    Climbs : Type 0
    Climbs = (h t : ℕ) → t < length names → above n names h t ≡ true →
        (h < length names) × (kind_of names h ≡ kind_of names t)

    go : Climbs → (o : Option ℕ) → (slice_index_or names t no_name).head ≡ o → up n names h o ≡ true →
        (h < length names) × (kind_of names h ≡ kind_of names t)
    go rec None is no' = elim (false≢true no') [ ]
    go rec (Some u) is way =
        let lower = ok t u lt is in
        let small : u < length names = omega arith in
        let found = rec h u small way in
        (found.0, found.1 ∙ lower.1)

pub heads_lawful : (names : List Name) → Headed names → Lawful names (heads names)
heads_lawful names ok = record {
  itself = λ t lt. and_from _ _ (lt-ltb t (length names) lt) (above_here (length names) names t t refl);
  named = λ h t e. let p = and_parts (nat_lt t (length names)) _ e in
      let lt = ltb-true t (length names) p.0 in
      ((climb (length names) names ok h t lt p.1).0, lt);
  own_kind = λ h t e. let p = and_parts (nat_lt t (length names)) _ e in
      (climb (length names) names ok h t (ltb-true t (length names) p.0) p.1).1;
}

pub exact_lawful : (names : List Name) → Headed names → Lawful names (exact names)
exact_lawful names ok = record {
  itself = λ t lt. and_from _ _ (lt-ltb t (length names) lt) (eq-eqb t t refl);
  named = λ h t e. let p = and_parts (nat_lt t (length names)) _ e in
      let lt = ltb-true t (length names) p.0 in
      (subst (λ k. k < length names) (sym (eqb-true h t p.1)) lt, lt);
  own_kind = λ h t e. ap (kind_of names) (eqb-true h t (and_parts (nat_lt t (length names)) _ e).1);
}
