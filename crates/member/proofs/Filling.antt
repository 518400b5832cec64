-- The table of state sets as it is filled.
use Rattle.std.proofs.Common.{◌≡◌, ℕ, ◌+◌, ◌<◌, List, [], ◌∷◌, ◌++◌, length, get_or, take, set, sym, refl, ap, ◌∙◌, arith}
use Rattle.std.proofs.lemmas.List.{get_or-map, get_or-take, length-map, map-set, take-map, take_more_set}
use Rattle.model.specs.declared.sets.StateSet.{StateSet}
use Rattle.model.specs.declared.rows.Item.{Item}
use Rattle.model.specs.Blank.{blank_item}
use Rattle.theory.specs.Machine.{Machine}
use Rattle.meaning.specs.Tables.{set_at, item_set, tabling, state_sets, nullable_set}
use Rattle.meaning.proofs.Tables.{state_sets_none, state_sets_more, state_sets_length, set_at_read}
use Rattle.member.specs.Sets.{bits_of}

abbrev no_set : StateSet
no_set = record { bits = 0 }

-- the first number keeps its place
tabling_first : (m : Machine) (n : ℕ) (before : List ℕ) (items : List Item) → get_or (tabling m (n ∷ before) items) 0 0 ≡ n
tabling_first m n before [] = refl
tabling_first m n before (i ∷ items) = tabling_first m n (before ++ item_set m (n ∷ before) i ∷ []) items

state_sets_first : (m : Machine) (items : List Item) → get_or (state_sets m items) 0 0 ≡ nullable_set m
unfolding state_sets
state_sets_first m items = tabling_first m (nullable_set m) [] items

-- the table with the set of the empty hedge alone
pub filling_start : (m : Machine) (sets : List StateSet) (s : StateSet) → 0 < length sets → s.bits ≡ nullable_set m →
    take 1 (bits_of (set sets 0 s)) ≡ state_sets m []
filling_start m [] s lt is = absurd (omega arith)
filling_start m (x ∷ sets) s lt is = ap (λ k. k ∷ []) is ∙ sym (state_sets_none m)

-- the set that an item is read with, among the first n sets
pub filled_at : (m : Machine) (sets : List StateSet) (items : List Item) (n k s : ℕ) →
    take n (bits_of sets) ≡ state_sets m items →
    s ≡ get_or (bits_of (take n sets)) k (get_or (bits_of (take n sets)) 0 0) → s ≡ set_at m (state_sets m items) k
unfolding set_at
filled_at m sets items n k s table is =
    let same : bits_of (take n sets) ≡ state_sets m items = sym (take-map (λ (x : StateSet). x.bits) n sets) ∙ table in
    is ∙ ap (λ (l : List ℕ). get_or l k (get_or l 0 0)) same
    ∙ ap (λ d. get_or (state_sets m items) k d) (state_sets_first m items)

-- one item more
pub filling_more : (m : Machine) (sets : List StateSet) (items : List Item) (k : ℕ) (s : StateSet) →
    k < length items → length items < length sets →
    take (k + 1) (bits_of sets) ≡ state_sets m (take k items) →
    s.bits ≡ item_set m (state_sets m (take k items)) (get_or items k blank_item) →
    take (k + 1 + 1) (bits_of (set sets (k + 1) s)) ≡ state_sets m (take (k + 1) items)
filling_more m sets items k s lt room table is =
    let f : StateSet → ℕ = λ (x : StateSet). x.bits in
    let len : length (bits_of sets) ≡ length sets = length-map sets f in
    let inside : k + 1 < length (bits_of sets) = omega arith in
    ap (take (k + 1 + 1)) (map-set f sets (k + 1) s)
    ∙ take_more_set (bits_of sets) (k + 1) s.bits inside
    ∙ ap (λ (l : List ℕ). l ++ s.bits ∷ []) table
    ∙ ap (λ n. state_sets m (take k items) ++ n ∷ []) is
    ∙ sym (state_sets_more m items k lt)

-- the hedge itself is the last one
pub filled_last : (m : Machine) (sets : List StateSet) (items : List Item) → length items < length sets →
    take (length items + 1) (bits_of sets) ≡ state_sets m items →
    (get_or sets (length items) no_set).bits ≡ set_at m (state_sets m items) (length items)
filled_last m sets items room table =
    sym (get_or-map (λ (s : StateSet). s.bits) sets (length items) no_set 0 room)
    ∙ sym (get_or-take (length items + 1) (bits_of sets) (length items) 0 (omega arith))
    ∙ ap (λ (l : List ℕ). get_or l (length items) 0) table
    ∙ sym (set_at_read m (state_sets m items) (length items) 0 (omega (arith, state_sets_length m items)))
