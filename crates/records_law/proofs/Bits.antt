-- The states of a set, one by one.
use Rattle.std.proofs.Common.{◌≡◌, ℕ, zero, suc, ◌+◌, ◌-◌, ◌*◌, ◌/◌, ◌%◌, ◌^◌, ◌<◌, ◌≤◌, min, Bool, true, false, cond, ◌&&◌, eqb, ltb, leb, List, [], ◌∷◌, map, Ok, Err, decimal, sym, refl, ap, ◌∙◌, ⊎_elim, pow-suc, arith, pow-add}
use native.Mathlib.Nat.{add-mul-div_right, add-mul-mod_self_right}
use Rattle.std.proofs.lemmas.Nat.{pow_pos, mod-pow-add, div-mul-add, mod_below}
use Rattle.std.proofs.lemmas.Bool.{and_parts, and_from, lt-ltb, ltb-true, le-leb, leb-true, eq-eqb, eqb-true, cond-true, cond-false, cases_Bool, false≢true}
use Rattle.model.specs.declared.sets.StateSet.{StateSet}
use Rattle.model.specs.Sets.{has, insert}
use Rattle.text.specs.Fields.{number, value_in}
use Rattle.records.specs.Chains.{then, of_line, misplaced}
use Rattle.records.specs.Lines.{right_states, all_numbers}
use Rattle.records.proofs.Chained.{then_ok, line_ok}
use Rattle.records.proofs.Kept.{insert_high, insert_below, has_below, pow_up}
use Rattle.writing.specs.Texts.{members}
use Rattle.writing.proofs.Spelled.{members_suc, members_zero}
use Rattle.records_law.proofs.Numbers.{value_on, value_back}

-- the bit of a state that a set has, and of one that it has not
has_one : (s q : ℕ) → has s q ≡ true → (s / 2 ^ q) % 2 ≡ 1
has_one s q h = eqb-true _ 1 (and_parts (ltb q 128) _ h).1

has_zero : (s q : ℕ) → q < 128 → has s q ≡ false → (s / 2 ^ q) % 2 ≡ 0
has_zero s q lt h =
    let no : (s / 2 ^ q) % 2 ≡ 1 → ⊥ = λ e. false≢true (sym h ∙ and_from (ltb q 128) _ (lt-ltb q 128 lt) (eq-eqb _ 1 e)) in
    omega (arith, mod_below (s / 2 ^ q) 2 (omega arith))

-- the states below q + 1 of a set
low_next : (s q : ℕ) → s % 2 ^ (q + 1) ≡ ((s / 2 ^ q) % 2) * 2 ^ q + s % 2 ^ q
low_next s q = ap (λ k. s % 2 ^ k) (omega arith) ∙ mod-pow-add s 1 q

low_with : (s q : ℕ) → has s q ≡ true → s % 2 ^ (q + 1) ≡ 2 ^ q + s % 2 ^ q
low_with s q h = low_next s q ∙ ap (λ b. b * 2 ^ q + s % 2 ^ q) (has_one s q h) ∙ omega arith

low_without : (s q : ℕ) → q < 128 → has s q ≡ false → s % 2 ^ (q + 1) ≡ s % 2 ^ q
low_without s q lt h = low_next s q ∙ ap (λ b. b * 2 ^ q + s % 2 ^ q) (has_zero s q lt h) ∙ omega arith

-- the states of a set read back
pub right_on : (n states bits : ℕ) → ((q : ℕ) → has bits q ≡ true → q < min states 128) →
    (m q low s : ℕ) → low ≤ q → s < 2 ^ low → s ≡ bits % 2 ^ q → q + m ≤ 128 →
    right_states n states low s (map decimal (members m q bits)) ≡ Ok (record { bits = bits % 2 ^ (q + m) })
right_on n states bits fit zero q low s le small is most =
    ap (λ l. right_states n states low s (map decimal l)) (members_zero q bits) ∙ ap (λ b. Ok (record { bits = b })) (is ∙ ap (λ k. bits % 2 ^ k) (omega arith))
right_on n states bits fit (suc m) q low s le small is most =
    ap (λ l. right_states n states low s (map decimal l)) (members_suc m q bits)
    ∙ go (has bits q) refl (right_on n states bits fit m (q + 1))
    ∙ ap (λ k. Ok (record { bits = bits % 2 ^ k })) (omega arith)
  where
    Rest : Type 0
    Rest = (low s : ℕ) → low ≤ q + 1 → s < 2 ^ low → s ≡ bits % 2 ^ (q + 1) → q + 1 + m ≤ 128 →
        right_states n states low s (map decimal (members m (q + 1) bits)) ≡ Ok (record { bits = bits % 2 ^ (q + 1 + m) })

    go : (b : Bool) → has bits q ≡ b → Rest → right_states n states low s (map decimal (cond b (q ∷ members m (q + 1) bits) (members m (q + 1) bits))) ≡ Ok (record { bits = bits % 2 ^ (q + 1 + m) })
    go true h rec =
        let lt : q < min states 128 = fit q h in
        let next : insert s q ≡ bits % 2 ^ (q + 1) = insert_high s low q small le (omega arith) ∙ ap (λ k. 2 ^ q + k) is ∙ sym (low_with bits q h) in
        ap (λ r. then (of_line r) λ v. cond (leb low v && ltb v (min states 128)) (right_states n states (v + 1) (insert s v) (map decimal (members m (q + 1) bits))) (misplaced n)) (value_on n q (omega arith))
        ∙ cond-true (leb low q && ltb q (min states 128)) _ _ (and_from _ _ (le-leb low q le) (lt-ltb q (min states 128) lt))
        ∙ rec (q + 1) (insert s q) (omega arith) (insert_below s low q small le (omega arith)) next (omega arith)
    go false h rec = rec low s (omega arith) small (is ∙ sym (low_without bits q (omega arith) h)) (omega arith)

-- each of these numbers is well formed
pub numbers_on : (n m q bits : ℕ) → q + m ≤ 128 → all_numbers n (map decimal (members m q bits)) ≡ Ok tt
numbers_on n zero q bits most = ap (λ l. all_numbers n (map decimal l)) (members_zero q bits)
numbers_on n (suc m) q bits most = ap (λ l. all_numbers n (map decimal l)) (members_suc m q bits) ∙ go (has bits q) (numbers_on n m (q + 1) bits (omega arith))
  where
    go : (b : Bool) → all_numbers n (map decimal (members m (q + 1) bits)) ≡ Ok tt → all_numbers n (map decimal (cond b (q ∷ members m (q + 1) bits) (members m (q + 1) bits))) ≡ Ok tt
    go true ih = ap (λ r. then r λ _. all_numbers n (map decimal (members m (q + 1) bits))) (value_on n q (omega arith)) ∙ ih
    go false ih = ih

-- a state added above those of a set: it is there, and those below stay
has_top : (s q : ℕ) → s < 2 ^ q → q < 128 → has (2 ^ q + s) q ≡ true
has_top s q small lt =
    let one : (2 ^ q + s) / 2 ^ q ≡ 1 = ap (λ k. k / 2 ^ q) (omega arith) ∙ div-mul-add 1 (2 ^ q) s small in
    and_from _ _ (lt-ltb q 128 lt) (eq-eqb _ 1 (ap (λ k. k % 2) one))

has_under : (s q i : ℕ) → i < q → has (2 ^ q + s) i ≡ has s i
has_under s q i lt =
    let k : ℕ = q - (i + 1) in
    let at : q ≡ suc k + i = omega arith in
    let parts : 2 ^ q ≡ 2 ^ suc k * 2 ^ i = ap (λ j. 2 ^ j) at ∙ pow-add 2 (suc k) i in
    let sum : 2 ^ q + s ≡ s + 2 ^ suc k * 2 ^ i = omega arith in
    ap (λ b. ltb i 128 && b)
    (ap (λ j. eqb (j / 2 ^ i % 2) 1) sum
    ∙ ap (λ j. eqb (j % 2) 1) (add-mul-div_right s (2 ^ suc k) (pow_pos i))
    ∙ ap (λ j. eqb ((s / 2 ^ i + j) % 2) 1) (pow-suc 2 k)
    ∙ ap (λ j. eqb j 1) (add-mul-mod_self_right (s / 2 ^ i) (2 ^ k) 2))

-- a set has no state above its number
has_not : (s n q : ℕ) → s < 2 ^ n → n ≤ q → has s q ≡ false
has_not s n q small le = ⊎_elim (λ (h : has s q ≡ true). absurd (omega (arith, has_below s n q small h))) (λ h. h) (cases_Bool (has s q))

-- states that are not there are passed over
members_skip : (k q t : ℕ) → q + k ≤ 128 → ((i : ℕ) → q ≤ i → i < q + k → has t i ≡ false) → members (128 - q) q t ≡ members (128 - (q + k)) (q + k) t
members_skip zero q t most none = ap (λ j. members (128 - j) j t) (omega arith)
members_skip (suc k) q t most none =
    let m : 128 - q ≡ suc (128 - (q + 1)) = omega arith in
    ap (λ j. members j q t) m ∙ members_suc (128 - (q + 1)) q t ∙ cond-false (has t q) _ _ (none q (omega arith) (omega arith))
    ∙ members_skip k (q + 1) t (omega arith) (λ i a b. none i (omega arith) (omega arith))
    ∙ ap (λ j. members (128 - j) j t) (omega arith)

-- reading further states changes none below
pub right_keeps : (n states low s : ℕ) (ps : List (List ℕ)) (t : StateSet) → s < 2 ^ low → right_states n states low s ps ≡ Ok t →
    (i : ℕ) → i < low → has t.bits i ≡ has s i
right_keeps n states low s [] t small e i lt = let is : s ≡ t.bits = ap (λ r. elim r [ Ok x ↦ x.bits | Err _ ↦ s ]) e in ap (λ b. has b i) (sym is)
right_keeps n states low s (p ∷ ps) t small e i lt =
    let a = then_ok (of_line (value_in (number n p))) _ t e in
    let q = a.0 in
    go q (leb low q && ltb q (min states 128)) refl a.2 (right_keeps n states (q + 1) (insert s q) ps t)
  where
    go : (q : ℕ) (b : Bool) → (leb low q && ltb q (min states 128)) ≡ b → cond b (right_states n states (q + 1) (insert s q) ps) (misplaced n) ≡ Ok t →
        (insert s q < 2 ^ (q + 1) → right_states n states (q + 1) (insert s q) ps ≡ Ok t → (i : ℕ) → i < q + 1 → has t.bits i ≡ has (insert s q) i) → has t.bits i ≡ has s i
    go q true b k rec =
        let c = and_parts (leb low q) _ b in
        let le : low ≤ q = leb-true low q c.0 in
        let lq : q < min states 128 = ltb-true q (min states 128) c.1 in
        rec (insert_below s low q small le (omega arith)) k i (omega arith) ∙ ap (λ z. has z i) (insert_high s low q small le (omega arith)) ∙ has_under s q i (omega arith)
    go q false b k rec = absurd cc

-- states that are read are written so
pub right_back : (n states low s : ℕ) (ps : List (List ℕ)) (t : StateSet) → s < 2 ^ low → low ≤ 128 → right_states n states low s ps ≡ Ok t →
    ps ≡ map decimal (members (128 - low) low t.bits)
right_back n states low s [] t small most e =
    let is : s ≡ t.bits = ap (λ r. elim r [ Ok x ↦ x.bits | Err _ ↦ s ]) e in
    let k : ℕ = 128 - low in
    let all : low + k ≡ 128 = omega arith in
    sym (ap (λ b. map decimal (members (128 - low) low b)) (sym is)
    ∙ ap (map decimal) (members_skip k low s (omega arith) (λ i a b. has_not s low i small a) ∙ ap (λ j. members (128 - j) j s) all ∙ members_zero 128 s))
right_back n states low s (p ∷ ps) t small most e =
    let a = then_ok (of_line (value_in (number n p))) _ t e in
    let q = a.0 in
    go q (leb low q && ltb q (min states 128)) refl a.2 (value_back n q p (line_ok _ q a.1)) (λ u v w. right_back n states (q + 1) (insert s q) ps t u v w) (right_keeps n states (q + 1) (insert s q) ps t)
  where
    go : (q : ℕ) (b : Bool) → (leb low q && ltb q (min states 128)) ≡ b → cond b (right_states n states (q + 1) (insert s q) ps) (misplaced n) ≡ Ok t → p ≡ decimal q →
        (insert s q < 2 ^ (q + 1) → q + 1 ≤ 128 → right_states n states (q + 1) (insert s q) ps ≡ Ok t → ps ≡ map decimal (members (128 - (q + 1)) (q + 1) t.bits)) →
        (insert s q < 2 ^ (q + 1) → right_states n states (q + 1) (insert s q) ps ≡ Ok t → (i : ℕ) → i < q + 1 → has t.bits i ≡ has (insert s q) i) →
        p ∷ ps ≡ map decimal (members (128 - low) low t.bits)
    go q true b k is rec keeps =
        let c = and_parts (leb low q) _ b in
        let le : low ≤ q = leb-true low q c.0 in
        let lq : q < min states 128 = ltb-true q (min states 128) c.1 in
        let lq' : q < 128 = omega arith in
        let high = insert_high s low q small le lq' in
        let below = insert_below s low q small le lq' in
        let T = t.bits in
        let j : ℕ = q - low in
        let up : low + j ≡ q = omega arith in
        let m : 128 - q ≡ suc (128 - (q + 1)) = omega arith in
        let there : has T q ≡ true = keeps below k q (omega arith) ∙ ap (λ z. has z q) high ∙ has_top s q (pow_up s low q small le) lq' in
        let absent : (i : ℕ) → low ≤ i → i < low + j → has T i ≡ false =
        λ i x y. keeps below k i (omega arith) ∙ ap (λ z. has z i) high ∙ has_under s q i (omega arith) ∙ has_not s low i small x in
        let found : members (128 - low) low T ≡ q ∷ members (128 - (q + 1)) (q + 1) T =
        members_skip j low T (omega arith) absent ∙ ap (λ z. members (128 - z) z T) up ∙ ap (λ z. members z q T) m ∙ members_suc (128 - (q + 1)) q T ∙ cond-true (has T q) _ _ there in
        ap (λ z. z ∷ ps) is ∙ ap (λ z. decimal q ∷ z) (rec below (omega arith) k) ∙ sym (ap (map decimal) found)
    go q false b k is rec keeps = absurd cc
