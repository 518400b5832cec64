use Rattle.std.proofs.Common.{get_or, map, take, decimal, sym, ap, ◌∙◌}
use Rattle.std.proofs.lemmas.List.{take_more}
use Rattle.writing.specs.Texts.{further}
use Rattle.writing.proofs.Laid.{wrote_then, wrote_as}
use Rattle.writing.proofs.Spelled.{numbers_more}
use Rattle.writing.proofs.put.Writer.numbers.Goals as goal

pub loop-n-preserved : goal.loop-n-preserved
loop-n-preserved c =
    let ns = c.args.numbers.now in
    let i = c.loop-n.n-index in
    let e = ap (λ ms. further (map decimal ms)) (take_more ns i 0 c.loop-n-test.true) ∙ numbers_more (take i ns) (get_or ns i 0) in
    wrote_as (sym e) (wrote_then c.loop-n.invariant c.further.ensures)
