use Rattle.std.proofs.Common.{ℕ, Bool, ◌&&◌, refl, sym, ap, ◌∙◌, arith, rules, tests}
use Rattle.std.proofs.lemmas.Bool.{and_left, lt-ltb, le-ltb}
use Rattle.std.proofs.lemmas.Iterator.{YieldsList-from_range}
use Rattle.std.proofs.lemmas.Iterator.Search.{any_from_yields_List}
use Rattle.ledger.specs.Settled.{at}
use Rattle.sides.proofs.Some.{some_below}
use Rattle.theory.specs.Count.{some}
use Rattle.gaps.specs.Shows.{leans, leans_on}
use Rattle.gaps.proofs.shown.leans_on.Goals as goal

pub returns-then-side-rules : goal.returns-then-side-rules
unfolding leans
returns-then-side-rules c =
    let p : ℕ → Bool = leans_on (at c.args.ledger.now) c.args.side.now in
    any_from_yields_List p _ _ c.any.result c.any.ensures.ran (YieldsList-from_range 0 c.args.rules c.args.rules refl (omega arith)) (λ x b q k. search (rules, tests))
    ∙ some_below p c.args.rules
    ∙ sym (ap (λ b. b && some c.args.rules p) (lt-ltb _ _ c.if-side-rules.true))

pub returns-else-side-rules : goal.returns-else-side-rules
unfolding leans
returns-else-side-rules c = le-ltb _ _ c.if-side-rules.false ∙ sym (and_left _ _ (le-ltb _ _ c.if-side-rules.false))
