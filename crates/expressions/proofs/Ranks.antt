-- What a node is built of ranks below it, and so does the body of an earlier rule.
use Rattle.std.proofs.Common.{◌≡◌, ℕ, suc, ◌+◌, ◌*◌, ◌<◌, ◌≤◌, Bool, true, false, cond, ltb, sym, refl, subst, arith}
use Rattle.std.proofs.lemmas.Bool.{cond-true, lt-ltb, ltb-true}
use Rattle.expressions.specs.Numbers.{earlier, rank}

place_le : (node : ℕ) → cond (ltb node 512) (suc node) 0 ≤ 512
place_le node = go (ltb node 512) refl
  where
    go : (b : Bool) → ltb node 512 ≡ b → cond b (suc node) 0 ≤ 512
    go true e = let h : node < 512 = ltb-true node 512 e in omega arith
    go false e = omega arith

pub earlier_falls : (rule node c : ℕ) → node < 512 → rank rule (earlier node c) < rank rule node
unfolding rank
earlier_falls rule node c lt =
    let here : cond (ltb node 512) (suc node) 0 ≡ suc node = cond-true _ _ _ (lt-ltb node 512 lt) in
    go (ltb c node) refl here
  where
    go : (b : Bool) → ltb c node ≡ b → cond (ltb node 512) (suc node) 0 ≡ suc node →
        rule * 514 + cond (ltb (cond b c 512) 512) (suc (cond b c 512)) 0 < rule * 514 + cond (ltb node 512) (suc node) 0
    go true e here =
        let less : c < node = ltb-true c node e in
        let small : c < 512 = omega arith in
        let there : cond (ltb c 512) (suc c) 0 ≡ suc c = cond-true _ _ _ (lt-ltb c 512 small) in
        omega (arith, here, there)
    go false e here = omega (arith, here)

-- the same for the numbers that the program computed
pub part_falls : (t rule node c m : ℕ) → rank rule node ≡ t → node < 512 → m ≡ earlier node c → rank rule m < t
part_falls t rule node c m is lt e =
    subst (λ k. rank rule m < k) is
    (subst (λ n. rank rule n < rank rule node) (sym e) (earlier_falls rule node c lt))

rule_first : (rule k node m : ℕ) → k < rule → rank k m < rank rule node
unfolding rank
rule_first rule k node m lt =
    let a = place_le m in
    let b : suc k * 514 ≤ rule * 514 = omega arith in
    omega arith

pub rule_falls : (t rule k node m : ℕ) → rank rule node ≡ t → k < rule → rank k m < t
rule_falls t rule k node m is lt = subst (λ n. rank k m < n) is (rule_first rule k node m lt)
