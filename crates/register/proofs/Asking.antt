-- What a question was given, and what its answer gives.
use Rattle.std.proofs.Common.{◌≡◌, ℕ, ◌<◌, ◌≤◌, true, ltb, leb, List, take, Some, Ok, Result, sym, subst, arith}
use Rattle.std.proofs.lemmas.Bool.{ltb-true, lt-ltb, le-leb, and_from}
use Rattle.model.specs.declared.rows.Row.{Row}
use Rattle.model.specs.declared.rows.Item.{Item}
use Rattle.theory.specs.Machine.{Machine}
use Rattle.theory.specs.Items.{spelled}
use Rattle.ledger.specs.Settled.{Settled}
use Rattle.model.specs.declared.verdict.Verdict.TheVariants as verdict
use Rattle.records.specs.declared.fault.CallFault.{CallFault}
use Rattle.records.proofs.Chained.{then_ok, cond_ok}
use Rattle.search.specs.declared.answer.Answer.{Answer}
use Rattle.search.specs.declared.answer.Answer.TheVariants.{Included, Excluded, Wide, OutOfRows}
use Rattle.search.specs.Answered.{root_of, suits, Asked, Answered}
use Rattle.tables.specs.Plain.{Plain}
use Rattle.load.specs.Loaded.{bodies_of, rules_of}
use Rattle.law.specs.Claims.{AllTrue}
use Rattle.law.specs.Grounded.{Grounded}
use Rattle.law.specs.Question.{VerdictTrue}
use Rattle.law.specs.Sheets.{Exchanged}
use Rattle.law.proofs.Exchange.{exchanged}
use Rattle.law.proofs.Reading.{counts}
use Rattle.law.proofs.Settling.{enters_true, same_true}
use Rattle.register.specs.Calls.{rule_checked, question_checked, question_settles, Agrees}

-- two rules, and 1 to 512 rows with as many items
pub record Given (rules a b m n : ℕ) : Type 0 where
  pub left : a < rules
  pub right : b < rules
  pub one : 1 ≤ m
  pub most : m ≤ 512
  pub same : m ≡ n

pub given : (rules a b m n : ℕ) (u : Unit {0}) → Ok u ≡ question_checked rules a b m n → Given rules a b m n
given rules a b m n u e =
    let p = then_ok (rule_checked rules a) _ u (sym e) in
    let q = then_ok (rule_checked rules b) _ u p.2 in
    let c = counts m n q.2 in
    record {
      left = ltb-true a rules (cond_ok (ltb a rules) tt _ _ p.1).0;
      right = ltb-true b rules (cond_ok (ltb b rules) tt _ _ q.1).0;
      one = c.0;
      most = c.1;
      same = c.2;
    }

suited : (rules a b m n k : ℕ) → Given rules a b m n → k ≡ 512 → suits m n k ≡ true
suited rules a b m n k g e =
    let k512 : m ≤ k = omega (arith, g.most) in
    let mn : m ≤ n = omega (arith, g.same) in
    and_from (ltb 0 m) _ (lt-ltb 0 m g.one) (and_from (leb m 512) _ (le-leb m 512 g.most) (and_from (leb m n) _ (le-leb m n mn) (le-leb m k k512)))

-- the answer is that of the definition
pub answered : (mach : Machine) (rules a b m n k : ℕ) (ans : Answer) (rows : List Row) (items : List Item) → Given rules a b m n → k ≡ 512 →
    Asked mach (root_of a b) m n (suits m n k) ans rows items → Answered mach (root_of a b) m n ans rows items
answered mach rules a b m n k ans rows items g e asked =
    subst (λ s. Asked mach (root_of a b) m n s ans rows items) (suited rules a b m n k g e) asked

-- all that is settled stays true
pub still_true : (t : Plain) (mach : Machine) (before after : ℕ → ℕ → Settled) (a b : ℕ) (ans : Answer) (rows : List Row) (items : List Item) →
    a < rules_of t → b < rules_of t → AllTrue (bodies_of t) (rules_of t) mach.covers before → VerdictTrue t mach a b ans rows items →
    ((c d : ℕ) → after c d ≡ question_settles before a b (Ok ans) c d) → AllTrue (bodies_of t) (rules_of t) mach.covers after
still_true t mach before after a b (Included k n) rows items la lb all is told =
    enters_true (bodies_of t) (rules_of t) mach.covers before after a b (Some verdict.Included) all (la, lb, is.0) told
still_true t mach before after a b (Excluded k n) rows items la lb all is told =
    enters_true (bodies_of t) (rules_of t) mach.covers before after a b (Some verdict.Excluded) all (la, lb, ∣ (spelled (take n items), is.0) ∣₁) told
still_true t mach before after a b (Wide k) rows items la lb all is told = same_true (bodies_of t) (rules_of t) mach.covers before after all told
still_true t mach before after a b (OutOfRows k) rows items la lb all is told = same_true (bodies_of t) (rules_of t) mach.covers before after all told

-- an answer agrees with checks that pass
pub agrees : {X : Type 0} (checks : Result (Unit {0}) CallFault) (u : Unit {0}) (x : X) → Ok u ≡ checks → Agrees checks (Ok x)
agrees checks u x e = subst (λ q. Agrees q (Ok x)) e tt

-- the sheet of a verdict is accepted by everybody
pub exchanged_from : (t : Plain) (mach : Machine) → ∥ Grounded t mach ∥₁ → (a b m n : ℕ) (ans : Answer) (rows : List Row) (items : List Item) →
    Given (rules_of t) a b m n → Answered mach (root_of a b) m n ans rows items → Exchanged t mach a b ans rows items
exchanged_from t mach g a b m n ans rows items given ans_is =
    exchanged t mach g a b m given.left given.right given.one given.most ans rows items
    (subst (λ k. Answered mach (root_of a b) m k ans rows items) (sym given.same) ans_is)
