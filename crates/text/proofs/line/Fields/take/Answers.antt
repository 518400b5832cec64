use Rattle.std.proofs.Common.{◌≡◌, ◌∷◌, sym, refl, ap, ◌∙◌}
use Rattle.text.specs.Cursors.{next_field, others, fields_in, fields_left}
use Rattle.text.proofs.Cuts.{fields_step}
use Rattle.text.proofs.line.Fields.take.Goals as goal

pub returns : goal.returns
returns c =
    let S = c.args.self.now in
    let left : fields_left S ≡ c.cut.result.0.now ∷ fields_in c.cut.result.1 =
    ap fields_in c.in-Some.is ∙ fields_step c.in-Some.left.now c.cut.result.1 c.cut.ensures.back ∙ ap (λ p. p ∷ fields_in c.cut.result.1) (sym c.cut.ensures.front) in
    record { given = sym (ap (next_field S.line) left); left = (sym (ap others left), refl) }
