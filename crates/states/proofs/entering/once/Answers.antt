use Rattle.std.proofs.Common.{[], sym, ap, ◌∙◌}
use Rattle.theory.specs.Count.{entered}
use Rattle.meaning.proofs.Members.{entered_append}
use Rattle.expressions.specs.Records.{same_derivative}
use Rattle.states.proofs.entering.once.Goals as goal

pub returns : goal.returns
returns c =
    c.in_ok-carry-2.ensures
    ∙ ap (λ l. entered same_derivative l c.args.second.now)
    (c.in_ok-carry.ensures ∙ ap (λ l. entered same_derivative l c.args.first.now) c.new-list.ensures.items)
    ∙ sym (entered_append same_derivative [] c.args.first.now c.args.second.now)
