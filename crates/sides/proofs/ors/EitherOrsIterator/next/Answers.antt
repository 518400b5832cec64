use Rattle.std.proofs.Common.{◌≡◌, ◌+◌, ◌*◌, ◌%◌, ◌^◌, ◌<◌, List, ◌∷◌, length, sym, ap, ap₂, ◌∙◌, arith}
use Rattle.std.proofs.lemmas.Nat.{one_shl}
use Rattle.model.specs.Machine.{Derivative}
use Rattle.model.specs.declared.rows.Row.{Row}
use Rattle.sides.specs.declared.either.EitherOr.{EitherOr}
use Rattle.theory.specs.Inequality.{either_or}
use Rattle.sides.specs.View.{covers_of}
use Rattle.sides.specs.Ors.{held, ors}
use Rattle.sides.specs.Left.{left_of}
use Rattle.sides.proofs.Walking.{ors_next, progress}
use Rattle.sides.proofs.ors.EitherOrsIterator.next.Goals as goal

pub returns-then-self-clause-steps : goal.returns-then-self-clause-steps
returns-then-self-clause-steps c =
    let w = c.loop-derivative.self in
    let covers = covers_of w.covers.now in
    let d = c.in-Some.derivative.now in
    let is = c.in-Some.ensures.cases.0 in
    let few : length w.pairs.now < 64 = omega (arith, w.few) in
    let all : (1 * 2 ^ length w.pairs.now) % 2 ^ 64 ≡ 2 ^ length w.pairs.now = one_shl (length w.pairs.now) 64 few in
    let lt : w.subset < 2 ^ length w.pairs.now = omega (arith, c.if-self.true) in
    let sides : held (either_or d w.pairs.now w.subset) ≡ c.either_or-sides.result =
    ap₂ (λ (a b : Row). let e : EitherOr = record { content = a; rest = b } in e) (sym c.either_or-sides.ensures.content) (sym c.either_or-sides.ensures.rest) in
    c.loop-derivative.invariant
    ∙ ap (λ (l : List Derivative). ors covers w.t w.pairs.now l w.subset) is
    ∙ ors_next covers w.t w.pairs.now d c.in-Some.later.now w.subset (sym c.get.ensures ∙ c.if-get.true) lt
    ∙ ap₂ (λ (e : EitherOr) (l : List Derivative). e ∷ ors covers w.t w.pairs.now l (w.subset + 1)) sides (sym is)

pub returns-then-self-clause-goes : goal.returns-then-self-clause-goes
returns-then-self-clause-goes c = progress left_of _ _ _ (returns-then-self-clause-steps c)
