-- The table of a lawful relation over the names of a loaded grammar.
use Rattle.std.proofs.Common.{◌≡◌, ℕ, ◌<◌, ◌≤◌, Bool, true, false, ◌⊎◌, List, [], map, length, get_or, sym, ap, ◌∙◌, subst, inl, inr, ⊎_elim, arith}
use mathlib.Core.Path.{fun_ext}
use mathlib.Core.Bool.{Bool-set}
use mathlib.Core.Logic.{∥∥₁_elim, ∥∥₁_map}
use Rattle.std.specs.List.{range_with_len}
use Rattle.std.proofs.lemmas.List.FromFn.{length-map-range_with_len, get_or-map-range_with_len}
use Rattle.std.proofs.lemmas.List.{get_or_past}
use Rattle.std.proofs.lemmas.Bool.{cases_lt, cases_Bool}
use Rattle.model.specs.declared.machine.Machine.{Machine as States}
use Rattle.model.specs.Machine.{states_of, Plain as State}
use Rattle.model.specs.Relation.{Headed, Lawful}
use Rattle.sides.specs.declared.covers.Covers.{Covers}
use Rattle.sides.specs.View.{table_of, covers_of, view}
use Rattle.tables.specs.Plain.{Plain}
use Rattle.load.specs.Loaded.{Loaded}
use Rattle.law.specs.Grounded.{Grounded, under}

-- the table of a relation over n names
abbrev pub tabled : (ℕ → ℕ → Bool) → ℕ → List (List Bool)
tabled covered n = map (λ h. map (covered h) (range_with_len 0 n)) (range_with_len 0 n)

-- it has what the relation has
tabled_at : (covered : ℕ → ℕ → Bool) (n : ℕ) → ((h t : ℕ) → covered h t ≡ true → (h < n) × (t < n)) → (h t : ℕ) →
    get_or (get_or (tabled covered n) h []) t false ≡ covered h t
tabled_at covered n named h t = go (cases_lt h n) (cases_lt t n)
  where
    off : ((h < n) × (t < n) → ⊥) → false ≡ covered h t
    off none = ⊎_elim (λ (is : covered h t ≡ true). absurd (none (named h t is))) (λ (is_not : covered h t ≡ false). sym is_not) (cases_Bool (covered h t))

    in_row : h < n → get_or (tabled covered n) h [] ≡ map (covered h) (range_with_len 0 n)
    in_row lt = get_or-map-range_with_len (λ k. map (covered k) (range_with_len 0 n)) 0 n h h [] lt (omega arith)

    go : (h < n) ⊎ (n ≤ h) → (t < n) ⊎ (n ≤ t) → get_or (get_or (tabled covered n) h []) t false ≡ covered h t
    go (inl lh) (inl lt) = ap (λ l. get_or l t false) (in_row lh) ∙ get_or-map-range_with_len (covered h) 0 n t t false lt (omega arith)
    go (inl lh) (inr pt) =
        ap (λ l. get_or l t false) (in_row lh)
        ∙ get_or_past (map (covered h) (range_with_len 0 n)) t false (omega (arith, length-map-range_with_len (covered h) 0 n))
        ∙ off (λ both. let b : t < n = both.1 in omega arith)
    go (inr ph) q =
        ap (λ l. get_or l t false)
        (get_or_past (tabled covered n) h [] (omega (arith, length-map-range_with_len (λ k. map (covered k) (range_with_len 0 n)) 0 n)))
        ∙ get_or_past [] t false (omega arith) ∙ off (λ both. let b : h < n = both.0 in omega arith)

-- the names of a loaded grammar have lawful heads
headed : (t : Plain) (states : List State) → Loaded t states → Headed t.names
headed t states l = λ n h lt e. let s = l.tables.heads n h lt e in (s.0, sym s.1)

-- a table of a lawful relation covers as the relation does
pub covers_as : (t : Plain) (states : List State) (c : Covers) (covered : ℕ → ℕ → Bool) → ∥ Loaded t states ∥₁ →
    (Headed t.names → Lawful t.names covered) → table_of c ≡ tabled covered (length t.names) → covers_of c ≡ covered
covers_as t states c covered l lawful e = fun_ext (λ h. fun_ext (λ n. ∥∥₁_elim l (Bool-set _ _) (λ w.
    ap (λ x. get_or (get_or x h []) n false) e
    ∙ tabled_at covered (length t.names) (λ a b is. (lawful (headed t states w)).named a b is) h n)))

-- a machine with such a table is grounded
pub grounds : (t : Plain) (states : States) (c : Covers) (covered : ℕ → ℕ → Bool) → ∥ Loaded t (states_of states) ∥₁ →
    (Headed t.names → Lawful t.names covered) → table_of c ≡ tabled covered (length t.names) →
    ∥ Grounded t (view states c) ∥₁
grounds t states c covered l lawful e = ∥∥₁_map l (λ (w : Loaded t (states_of states)). record {
  loaded = w;
  relation = subst (Lawful t.names) (sym (covers_as t (states_of states) c covered l lawful e)) (lawful (headed t (states_of states) w));
  names = ap length e ∙ length-map-range_with_len (λ h. map (covered h) (range_with_len 0 (length t.names))) 0 (length t.names);
})

-- such a machine is that of the relation
pub view_under : (t : Plain) (states : States) (c : Covers) (covered : ℕ → ℕ → Bool) → ∥ Loaded t (states_of states) ∥₁ →
    (Headed t.names → Lawful t.names covered) → table_of c ≡ tabled covered (length t.names) →
    view states c ≡ under t (states_of states) covered
view_under t states c covered l lawful e =
    ap (λ n. record { states = states_of states; names = n; covers = covers_of c })
    (ap length e ∙ length-map-range_with_len (λ h. map (covered h) (range_with_len 0 (length t.names))) 0 (length t.names))
    ∙ ap (under t (states_of states)) (covers_as t (states_of states) c covered l lawful e)
