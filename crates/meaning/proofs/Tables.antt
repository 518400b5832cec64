-- The table of state sets tells which states have which hedge.
use Rattle.std.proofs.Common.{◌≡◌, ℕ, zero, suc, ◌+◌, ◌<◌, ◌≤◌, Bool, false, ◌&&◌, List, [], ◌∷◌, ◌++◌, length, get_or, take, sym, refl, ap, ◌∙◌, ap₂, ⊎_elim, arith}
use mathlib.Core.Path.{fun_ext}
use Rattle.std.proofs.lemmas.List.{get_or_default, get_or_past, length_push, take_more}
use Rattle.std.proofs.lemmas.Bool.{cases_lt}
use Rattle.model.specs.declared.rows.Item.{Item}
use Rattle.model.specs.Blank.{blank_item}
use Rattle.model.specs.Sets.{has}
use Rattle.model.specs.Machine.{Derivative, nullable_at, derivatives_at, no_state}
use Rattle.theory.specs.Hedge.{Hedge, nothing, item}
use Rattle.theory.specs.Count.{any}
use Rattle.theory.specs.Items.{spelling, from_item, spelled}
use Rattle.theory.specs.Machine.{Machine, accepts}
use Rattle.theory.specs.Inequality.{no_derivative}
use Rattle.meaning.specs.Tables.{gather, nullable_set, allows, takes, set_at, item_set, tabling, state_sets, has_spelled, TableLaw, MembershipLaw, RuleMembership}
use Rattle.meaning.proofs.Members.{some_any}
use Rattle.meaning.proofs.Simulation.{rule_simulation}
use Rattle.meaning.proofs.Sets.{gather_past, gather_below}

-- a set has exactly the states that accept a hedge
abbrev Agrees : Machine → Hedge → ℕ → Type 0
Agrees m h s = (q : ℕ) → has s q ≡ accepts m h q

-- a number that is no state accepts nothing
pub accepts_past : (m : Machine) (h : Hedge) (q : ℕ) → length m.states ≤ q → accepts m h q ≡ false
accepts_past m nothing q past = ap (λ s. s.nullable) (get_or_past m.states q no_state past)
accepts_past m (item t v w) q past =
    ap (λ s. any (λ (d : Derivative). m.covers d.0 t && (accepts m v d.1 && accepts m w d.2)) s.derivatives)
    (get_or_past m.states q no_state past)

agrees : (m : Machine) (h : Hedge) (p : ℕ → Bool) → length m.states ≤ 128 →
    ((q : ℕ) → p q ≡ accepts m h q) → Agrees m h (gather (length m.states) p)
agrees m h p le same q = ⊎_elim
    (λ (lt : q < length m.states). gather_below (length m.states) p q le lt ∙ same q)
    (λ (past : length m.states ≤ q).
    gather_past (length m.states) p q le past ∙ sym (accepts_past m h q past))
    (cases_lt q (length m.states))

agrees_nothing : (m : Machine) → length m.states ≤ 128 → Agrees m nothing (nullable_set m)
unfolding nullable_set
agrees_nothing m le = agrees m nothing (nullable_at m.states) le (λ q. refl)

-- a derivative allows an item by the sets when it does by the hedges
takes_accepts : (m : Machine) (t : ℕ) (v w : Hedge) (s r : ℕ) → Agrees m v s → Agrees m w r →
    (q : ℕ) → takes m t s r q ≡ accepts m (item t v w) q
unfolding takes allows
takes_accepts m t v w s r inside following q =
    some_any (λ (d : Derivative). m.covers d.0 t && (has s d.1 && has r d.2))
    (derivatives_at m.states q) no_derivative
    ∙ ap (λ (p : Derivative → Bool). any p (derivatives_at m.states q))
    (fun_ext (λ (d : Derivative). ap₂ (λ x y. m.covers d.0 t && (x && y)) (inside d.1) (following d.2)))

-- hedges beside their sets
data Beside (m : Machine) : List Hedge → List ℕ → Type 0 where
  no_more : Beside m [] []
  one_more : {h : Hedge} {s : ℕ} {hs : List Hedge} {ss : List ℕ} → Agrees m h s → Beside m hs ss →
      Beside m (h ∷ hs) (s ∷ ss)

beside_at : (m : Machine) → length m.states ≤ 128 → {hs : List Hedge} {ss : List ℕ} →
    Beside m hs ss → (k : ℕ) → Agrees m (get_or hs k nothing) (set_at m ss k)
unfolding set_at
beside_at m le no_more k = agrees_nothing m le
beside_at m le (one_more a more) zero = a
beside_at m le (one_more a more) (suc k) = beside_at m le more k

beside_push : (m : Machine) {hs : List Hedge} {ss : List ℕ} (h : Hedge) (s : ℕ) → Beside m hs ss →
    Agrees m h s → Beside m (hs ++ h ∷ []) (ss ++ s ∷ [])
beside_push m h s no_more a = one_more a no_more
beside_push m h s (one_more b more) a = one_more b (beside_push m h s more a)

beside_items : (m : Machine) → length m.states ≤ 128 → (hs : List Hedge) (ss : List ℕ)
    (items : List Item) → Beside m hs ss → Beside m (spelling hs items) (tabling m ss items)
unfolding item_set
beside_items m le hs ss [] b = b
beside_items m le hs ss (i ∷ items) b =
    beside_items m le (hs ++ from_item hs i ∷ []) (ss ++ item_set m ss i ∷ []) items
    (beside_push m (from_item hs i) (item_set m ss i) b
    (agrees m (from_item hs i) _ le
    (takes_accepts m i.name (get_or hs i.child nothing) (get_or hs i.next nothing)
    (set_at m ss i.child) (set_at m ss i.next)
    (beside_at m le b i.child) (beside_at m le b i.next))))

pub table_law : TableLaw
unfolding state_sets
table_law m items le k q =
    beside_at m le
    (beside_items m le (nothing ∷ []) (nullable_set m ∷ []) items (one_more (agrees_nothing m le) no_more))
    k q

pub membership_law : MembershipLaw
unfolding has_spelled
membership_law m items le q = table_law m items le (length items) q

pub rule_membership : RuleMembership
rule_membership bodies rules m exprs st le items k lt =
    let law : has_spelled m items k ≡ accepts m (spelled items) k = membership_law m items le k in
    let sim = rule_simulation bodies rules m exprs st (spelled items) k lt in
    ((λ e. sim.0 (sym law ∙ e)), (λ p. law ∙ sim.1 p))

-- the table begins with the set of the empty hedge
pub state_sets_none : (m : Machine) → state_sets m [] ≡ nullable_set m ∷ []
unfolding state_sets
state_sets_none m = refl

tabling_push : (m : Machine) (before : List ℕ) (items : List Item) (i : Item) →
    tabling m before (items ++ i ∷ []) ≡
    tabling m before items ++ item_set m (tabling m before items) i ∷ []
tabling_push m before [] i = refl
tabling_push m before (j ∷ items) i = tabling_push m (before ++ item_set m before j ∷ []) items i

-- one more item gives one more set
pub state_sets_push : (m : Machine) (items : List Item) (i : Item) →
    state_sets m (items ++ i ∷ []) ≡ state_sets m items ++ item_set m (state_sets m items) i ∷ []
unfolding state_sets
state_sets_push m items i = tabling_push m (nullable_set m ∷ []) items i

-- the same for a loop over the items
pub state_sets_more : (m : Machine) (items : List Item) (k : ℕ) → k < length items →
    state_sets m (take (k + 1) items) ≡ state_sets m (take k items)
    ++ item_set m (state_sets m (take k items)) (get_or items k blank_item) ∷ []
state_sets_more m items k lt =
    ap (state_sets m) (take_more items k blank_item lt)
    ∙ state_sets_push m (take k items) (get_or items k blank_item)

tabling_length : (m : Machine) (before : List ℕ) (items : List Item) →
    length (tabling m before items) ≡ length before + length items
tabling_length m before [] = omega arith
tabling_length m before (i ∷ items) =
    let rest = tabling_length m (before ++ item_set m before i ∷ []) items in
    omega (arith, rest, length_push before (item_set m before i))

-- the table has a set for each item and one for the empty hedge
pub state_sets_length : (m : Machine) (items : List Item) → length (state_sets m items) ≡ length items + 1
unfolding state_sets
state_sets_length m items = omega (arith, tabling_length m (nullable_set m ∷ []) items)

-- a number that is there is read as it stands
pub set_at_read : (m : Machine) (before : List ℕ) (k d : ℕ) → k < length before →
    set_at m before k ≡ get_or before k d
unfolding set_at
set_at_read m before k d lt = get_or_default before k (nullable_set m) d lt
