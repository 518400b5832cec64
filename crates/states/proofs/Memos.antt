-- Reading and writing what is noted.
use Rattle.std.proofs.Common.{◌≡◌, ℕ, ◌+◌, ◌*◌, ◌<◌, ◌≤◌, List, length, get_or, set, replicate, Some, None, Option, sym, ap, ◌∙◌, subst, refl, ⊎_elim, arith}
use Rattle.std.proofs.lemmas.List.{get_or-set_same, get_or-set_other, set_past, get_or-replicate, get_or_past, length-replicate}
use Rattle.std.proofs.lemmas.Bool.{cases_eq, cases_lt}
use Rattle.states.specs.Memo.{AllNotes}

-- a copy of None is None
pub none_alone : {T : Type 0} (y : Option T) → elim y as (λ _. Type 0) [ None ↦ Unit {0} | Some z ↦ ⊥ ] → y ≡ None
none_alone None e = refl
none_alone (Some z) e = elim e [ ]

module _ {T : Type 0} (P : ℕ → ℕ → T → Type 0) where
  -- nothing is noted at first
  pub notes_none : (n : ℕ) (entries : List (Option T)) → entries ≡ replicate n None → AllNotes P entries
  unfolding AllNotes
  notes_none n entries e r i x small is = ⊎_elim
      (λ (lt : r * 512 + i < n).
      let none : get_or entries (r * 512 + i) None ≡ None =
      ap (λ l. get_or l (r * 512 + i) None) e ∙ get_or-replicate n (r * 512 + i) None None lt in
      cc)
      (λ (le : n ≤ r * 512 + i).
      let none : get_or entries (r * 512 + i) None ≡ None =
      get_or_past entries (r * 512 + i) None (omega (arith, ap length e, length-replicate {A = Option T} n None)) in
      cc)
      (cases_lt (r * 512 + i) n)

  -- what is noted
  pub notes_at : (entries : List (Option T)) (r i : ℕ) (x : T) → AllNotes P entries → i < 512 →
      Some x ≡ get_or entries (r * 512 + i) None → P r i x
  unfolding AllNotes
  notes_at entries r i x ok small is = ok r i x small (sym is)

  -- one note more
  pub notes_set : (entries : List (Option T)) (r i : ℕ) (x : T) → i < 512 → P r i x → AllNotes P entries →
      AllNotes P (set entries (r * 512 + i) (Some x))
  unfolding AllNotes
  notes_set entries r i x small own ok r' i' y small' is = ⊎_elim
      (λ (same : r' * 512 + i' ≡ r * 512 + i). ⊎_elim
      (λ (within : r * 512 + i < length entries).
      let written : Some x ≡ Some y =
      sym (get_or-set_same entries (r * 512 + i) (Some x) None within)
      ∙ ap (λ n. get_or (set entries (r * 512 + i) (Some x)) n None) (sym same) ∙ is in
      let rows : r ≡ r' = omega arith in
      let columns : i ≡ i' = omega arith in
      let value : x ≡ y = cc in
      subst (λ n. P n i' y) rows (subst (λ n. P r n y) columns (subst (P r i) value own)))
      (λ (past : length entries ≤ r * 512 + i).
      ok r' i' y small' (sym (ap (λ l. get_or l (r' * 512 + i') None) (set_past entries (r * 512 + i) (Some x) past)) ∙ is))
      (cases_lt (r * 512 + i) (length entries)))
      (λ (other : r' * 512 + i' ≡ r * 512 + i → ⊥).
      ok r' i' y small' (sym (get_or-set_other entries (r * 512 + i) (r' * 512 + i') (Some x) None other) ∙ is))
      (cases_eq (r' * 512 + i') (r * 512 + i))

  -- what holds of each note
  pub notes_all : (Q : ℕ → ℕ → T → Type 0) (entries : List (Option T)) → ((r i : ℕ) (x : T) → P r i x → Q r i x) →
      AllNotes P entries → AllNotes Q entries
  unfolding AllNotes
  notes_all Q entries one ok r i x small is = one r i x (ok r i x small is)
