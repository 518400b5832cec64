use Rattle.std.proofs.Common.{◌≡◌, length, ap, ◌∙◌, arith}
use Rattle.theory.specs.Inequality.{row, contents, rests, either_or}
use Rattle.sides.proofs.either.either_or.Goals as goal

pub returns-clause-content : goal.returns-clause-content
unfolding either_or
returns-clause-content c =
    let all : c.loop-i.i ≡ length c.args.pairs.now = omega arith in
    ap (row c.args.derivative.1) (c.loop-i.invariant.inside ∙ ap (contents c.args.pairs.now c.args.subset) all)

pub returns-clause-rest : goal.returns-clause-rest
unfolding either_or
returns-clause-rest c =
    let all : c.loop-i.i ≡ length c.args.pairs.now = omega arith in
    ap (row c.args.derivative.2) (c.loop-i.invariant.outside ∙ ap (rests c.args.pairs.now c.args.subset) all)
